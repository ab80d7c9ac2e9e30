-- No two instructions have one code, and so at most one stands at an address.
use Rattle.std.proofs.Common.{◌≡◌, ◌≤◌, ◌+◌, ℕ, true, false, arith, ap, refl, sym, subst, ◌∙◌, List, [], ◌∷◌, length, Result, Ok, Err}
use Rattle.std.specs.Prelude.{if◌then◌else◌}
use Rattle.hm_base.specs.declared.Fault.{Fault}
use Rattle.hm_base.specs.Image.{flash_size}
use Rattle.hm_isa.specs.declared.Scalar.{Scalar}
use Rattle.hm_isa.specs.contracts.Scalar as scalar_
use Rattle.hm_isa.specs.declared.Branch.{Branch}
use Rattle.hm_isa.specs.contracts.Branch as branch_
use Rattle.hm_isa.specs.declared.Instr.{Instr}
use Rattle.hm_isa.specs.declared.Instr.TheVariants as instr
use Rattle.hm_isa.specs.contracts.Instr as instr_
use Rattle.hm_isa.specs.Code.{halfwords}
use Rattle.hm_layout.proofs.Coded.{Coded}
use Rattle.hm_layout.proofs.Tables.{of_table, ◌▹◌}
use Rattle.hm_layout.proofs.Lengths.{long_code}
use Rattle.hm_codes.specs.Listing.{half_at, HalvesStand, Stands, is_long, IsFetched}
use Rattle.hm_codes.proofs.Vectors.{coded_vector}
use Rattle.hm_codes.proofs.Widths.{code_length, first_of, joined, lengths_of, long_length, rejoined}
use Rattle.hm_codes.proofs.Tables.{branch_halves, branch_halves_are, branch_table, coded_branch, coded_scalar, scalar_halves, scalar_halves_are}
use Rattle.hm_codes.proofs.Tables.{scalar_table}

abbrev pub coded_instr : Coded Instr
coded_instr =
    of_table instr_.enum (λ i. joined (halfwords i)) (coded_scalar ▹ coded_branch ▹ coded_vector ▹ tt)
    (elim [ instr.Scalar s ↦ refl | instr.Branch b ↦ refl | instr.Vector v ↦ rejoined _ ])

unique_instr : (i j : Instr) → joined (halfwords i) ≡ joined (halfwords j) → i ≡ j
unique_instr = coded_instr.one refl

-- a code tells its instruction
pub unique_code : (i j : Instr) → halfwords i ≡ halfwords j → i ≡ j
unique_code i j e = unique_instr i j (ap joined e)

-- the first halfword tells how many there are
abbrev HasLength : List ℕ → Type 0
HasLength hs = length hs ≡ code_length (first_of hs)

length_scalar : (s : Scalar) → HasLength (scalar_halves s)
length_scalar s =
    subst (λ hs. HasLength hs) (sym (scalar_halves_are s)) (lengths_of 21 scalar_.enum.parts scalar_table refl (scalar_.enum.as_values s))

length_branch : (b : Branch) → HasLength (branch_halves b)
length_branch b =
    subst (λ hs. HasLength hs) (sym (branch_halves_are b)) (lengths_of 3 branch_.enum.parts branch_table refl (branch_.enum.as_values b))

pub length_instr : (i : Instr) → length (halfwords i) ≡ code_length (first_of (halfwords i))
length_instr (instr.Scalar s) = length_scalar s
length_instr (instr.Branch b) = length_branch b
length_instr (instr.Vector v) = long_length _ (long_code coded_vector refl refl v)

-- the first of halves that stand at an address, and how many there are
first_stands : (flash : ℕ → ℕ) (hs : List ℕ) (a : ℕ) → HalvesStand flash hs a → length hs ≡ code_length (first_of hs)
    → length hs ≡ code_length (half_at flash a)
first_stands flash [] a h e = absurd (let z : 0 ≡ 1 = e in omega arith)
first_stands flash (k ∷ hs) a h e = e ∙ ap code_length (sym h.1)

length-halfwords : (flash : ℕ → ℕ) (a : ℕ) (i : Instr) → Stands flash a i → length (halfwords i) ≡ code_length (half_at flash a)
length-halfwords flash a i h = first_stands flash (halfwords i) a h.code (length_instr i)

only_half : (flash : ℕ → ℕ) (hs : List ℕ) (a : ℕ) → HalvesStand flash hs a → length hs ≡ 1 → hs ≡ half_at flash a ∷ []
only_half flash [] a h e = absurd (omega arith)
only_half flash (k ∷ []) a h e = ap (λ x. x ∷ []) (sym h.1)
only_half flash (k ∷ l ∷ hs) a h e = absurd (omega arith)

both_halves : (flash : ℕ → ℕ) (hs : List ℕ) (a : ℕ) → HalvesStand flash hs a → length hs ≡ 2 → (a + 2 + 2 ≤ flash_size)
    × (hs ≡ half_at flash a ∷ half_at flash (a + 2) ∷ [])
both_halves flash [] a h e = absurd (omega arith)
both_halves flash (k ∷ []) a h e = absurd (omega arith)
both_halves flash (k ∷ l ∷ []) a h e = (h.2.0, (let p = sym h.1 in let q = sym h.2.1 in λ i. p i ∷ q i ∷ []))
both_halves flash (k ∷ l ∷ m ∷ hs) a h e = absurd (omega arith)

-- a first half that begins no code of two is the whole code
pub one_half : (flash : ℕ → ℕ) (a : ℕ) (i : Instr) → Stands flash a i → is_long (half_at flash a) ≡ false → halfwords i ≡ half_at flash a ∷ []
one_half flash a i h short = only_half flash (halfwords i) a h.code (length-halfwords flash a i h ∙ ap (λ b. if b then 2 else 1) short)

-- one that begins a code of two is followed by the other half
pub two_halves : (flash : ℕ → ℕ) (a : ℕ) (i : Instr) → Stands flash a i → is_long (half_at flash a) ≡ true → (a + 2 + 2 ≤ flash_size)
    × (halfwords i ≡ half_at flash a ∷ half_at flash (a + 2) ∷ [])
two_halves flash a i h long = both_halves flash (halfwords i) a h.code (length-halfwords flash a i h ∙ ap (λ b. if b then 2 else 1) long)

-- as many halfwords that stand at one address are the same
same_halves : (flash : ℕ → ℕ) (hs ks : List ℕ) (a : ℕ) → length hs ≡ length ks → HalvesStand flash hs a → HalvesStand flash ks a → hs ≡ ks
same_halves flash [] [] a e p q = refl
same_halves flash [] (k ∷ ks) a e p q = absurd (omega arith)
same_halves flash (h ∷ hs) [] a e p q = absurd (omega arith)
same_halves flash (h ∷ hs) (k ∷ ks) a e p q =
    let first : h ≡ k = sym p.1 ∙ q.1 in
    let others : hs ≡ ks = same_halves flash hs ks (a + 2) (omega arith) p.2 q.2 in
    cc

pub unique : (flash : ℕ → ℕ) (a : ℕ) (i j : Instr) → Stands flash a i → Stands flash a j → i ≡ j
unique flash a i j h k =
    unique_code i j (same_halves flash _ _ a (length-halfwords flash a i h ∙ sym (length-halfwords flash a j k)) h.code k.code)

-- at most one answer of a fetch
pub fetched_one : (flash : ℕ → ℕ) (a : ℕ) (x y : Result Instr Fault) → IsFetched flash a x → IsFetched flash a y → x ≡ y
fetched_one flash a (Ok i) (Ok j) h k = ap Ok (unique flash a i j h k)
fetched_one flash a (Ok i) (Err e) h k = absurd (k.0 i h)
fetched_one flash a (Err d) (Ok j) h k = absurd (h.0 j k)
fetched_one flash a (Err d) (Err e) h k = ap Err (h.1 ∙ sym k.1)
