-- What stands at an address, as a listing tells it.
use Rattle.std.proofs.Common.{◌≡◌, ℕ, ap, refl, Result, Ok, Err}
use Rattle.std.specs.Prelude.{codes}
use Rattle.hm_base.specs.declared.Fault.{Fault}
use Rattle.hm_codes.proofs.Unique.{unique}
use Rattle.hm_codes.specs.Listing.{IsFetched, IsListing, Listing, Stands}
use Rattle.hm_isa.specs.declared.Instr.{Instr}
use Rattle.hm_text_tables.specs.Tables.{printed_text}
use Rattle.hm_trace.specs.Lines.{text_of}

fetched_text : (flash : ℕ → ℕ) (a : ℕ) (x : Result Instr Fault) (i : Instr) → IsFetched flash a x → Stands flash a i → printed_text i a ≡ text_of a x
fetched_text flash a (Ok j) i fetched stands = ap (λ (k : Instr). printed_text k a) (unique flash a i j stands fetched)
fetched_text flash a (Err e) i fetched stands = absurd (fetched.0 i stands)

-- the text of the instruction that stands there
pub text_shown : (flash : ℕ → ℕ) (listing : Listing) (a : ℕ) (i : Instr) → IsListing flash listing → Stands flash a i → printed_text i a ≡ text_of a (listing a)
text_shown flash listing a i listed stands = fetched_text flash a (listing a) i (listed.at a) stands

missing_text : (flash : ℕ → ℕ) (a : ℕ) (x : Result Instr Fault) → IsFetched flash a x → ((i : Instr) → Stands flash a i → ⊥)
    → codes "no instruction" ≡ text_of a x
missing_text flash a (Ok j) fetched none = absurd (none j fetched)
missing_text flash a (Err e) fetched none = refl

-- that none does
pub text_missing : (flash : ℕ → ℕ) (listing : Listing) (a : ℕ) → IsListing flash listing → ((i : Instr) → Stands flash a i → ⊥)
    → codes "no instruction" ≡ text_of a (listing a)
text_missing flash listing a listed none = missing_text flash a (listing a) (listed.at a) none
