-- Instructions that are made of their fields are the items that they are meant to be.
use Rattle.std.proofs.Common.{◌≡◌, ◌≢◌, ℕ, Bool, false, nat_eq, ◌+◌, ◌/◌, ◌%◌, refl, sym, subst, arith}
use Rattle.std.specs.Prelude.{if◌then◌else◌}
use Rattle.std.proofs.lemmas.Bool.Decides.{nat_tests}
use Rattle.hm_isa.specs.declared.Branch.TheVariants as branch
use Rattle.hm_isa.specs.declared.Instr.{Instr}
use Rattle.hm_isa.specs.declared.Instr.TheVariants as instr
use Rattle.hm_isa.specs.declared.Scalar.TheVariants as scalar
use Rattle.hm_isa.specs.declared.narrow.S16.{S16}
use Rattle.hm_isa.specs.declared.narrow.S23.{S23}
use Rattle.hm_isa.specs.declared.narrow.JumpName.TheVariants as jump
use Rattle.hm_isa.specs.declared.narrow.PlainName.TheVariants as plain
use Rattle.hm_soak_laws.specs.Image.{IsBx, IsItem, IsOperation, IsStr}
use Rattle.hm_soak_laws.specs.Soak as soak
use Rattle.hm_soak_laws.specs.Soak.{Operation, operation, operation_of}

pub store_made : (row : S16) (t n : ℕ) → row.name ≡ plain.Str → row.i.value ≡ 0 → row.n.value ≡ n → row.t.value ≡ t → IsStr t n (instr.Scalar (scalar.S16 row))
store_made row t n m e f g = record { row = row; is = refl; name_is = m; i_is = e; n_is = f; t_is = g }

pub jump_made : (row : S23) (m : ℕ) → row.name ≡ jump.Bx → row.m.value ≡ m → IsBx m (instr.Branch (branch.S23 row))
jump_made row m e f = record { row = row; is = refl; name_is = e; m_is = f }

-- AN OPERATION, by the number that tells which one it is
the_last_of : (a b c d : Bool) → a ≡ false → b ≡ false → c ≡ false → d ≡ false
    → (if a then soak.Add else (if b then soak.Sub else (if c then soak.Mul else (if d then soak.Eor else soak.Max)))) ≡ soak.Max
the_last_of a b c d e f g h = λ j. if e j then soak.Add else (if f j then soak.Sub else (if g j then soak.Mul else (if h j then soak.Eor else soak.Max)))

apart : (q k : ℕ) → q ≢ k → nat_eq q k ≡ false
apart q k h = grind (arith, nat_tests)

pub the_last : (q : ℕ) → q ≢ 0 → q ≢ 1 → q ≢ 2 → q ≢ 3 → operation_of q ≡ soak.Max
the_last q a b c d = the_last_of (nat_eq q 0) (nat_eq q 1) (nat_eq q 2) (nat_eq q 3) (apart q 0 a) (apart q 1 b) (apart q 2 c) (apart q 3 d)

pub operation_made : (k v : ℕ) (o : Operation) (i : Instr) → operation_of (v / 256 % 5) ≡ o → IsOperation o (k % 4) (4 + v / 65536 % 4) (4 + v / 262144 % 4) i
    → IsItem (operation k v) i
operation_made k v o i e is = subst (λ (x : Operation). IsOperation x (k % 4) (4 + v / 65536 % 4) (4 + v / 262144 % 4) i) (sym e) is
