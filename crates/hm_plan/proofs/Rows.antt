-- Whether a vector row stands at the program counter.
use Rattle.std.proofs.Common.{◌≡◌, ℕ, ap, false, refl, subst, sym, Result, Ok, Err}
use Rattle.std.specs.Option.{is_some}
use Rattle.hm_base.specs.declared.Fault.{Fault}
use Rattle.hm_codes.proofs.Unique.{fetched_one}
use Rattle.hm_codes.specs.Listing.{IsFetched, IsListing, Listing, Stands}
use Rattle.hm_isa.specs.declared.Instr.{Instr}
use Rattle.hm_isa.specs.declared.Instr.TheVariants as instr
use Rattle.hm_isa.specs.declared.Vector.{Vector}
use Rattle.hm_run.specs.Program.{vector_in, vector_of}
use Rattle.hm_state.specs.State.{State, regs_of}

pub pc_of : (s : State) → (regs_of s).pc ≡ s.pc
unfolding regs_of
pc_of s = refl

-- where no instruction stands there is no row
pub none_there : (flash : ℕ → ℕ) (a : ℕ) (x : Result Instr Fault) → IsFetched flash a x → ((i : Instr) → Stands flash a i → ⊥) → false ≡ is_some (vector_of x)
none_there flash a (Ok i) h none = absurd (none i h)
none_there flash a (Err f) h none = refl

-- where an instruction stands there is the row that it is
pub row_there : (flash : ℕ → ℕ) (listing : Listing) (pc a : ℕ) (i : Instr) → IsListing flash listing → pc ≡ a → Stands flash pc i
    → is_some (vector_in i) ≡ is_some (vector_of (listing a))
row_there flash listing pc a i is same stands =
    let here : Stands flash a i = subst (λ (b : ℕ). Stands flash b i) same stands in
    sym (ap (λ (x : Result Instr Fault). is_some (vector_of x)) (fetched_one flash a (listing a) (Ok i) (is.at a) here))

-- and any other instruction is none
pub no_row : (i : Instr) → ((v : Vector) → i ≡ instr.Vector v → ⊥) → false ≡ is_some (vector_in i)
no_row (instr.Scalar j) other = refl
no_row (instr.Branch j) other = refl
no_row (instr.Vector v) other = absurd (other v refl)
