-- What stands at an address.
use Rattle.std.proofs.Common.{◌≡◌, ℕ, Result}
use Rattle.hm_base.specs.declared.Fault.{Fault}
use Rattle.hm_codes.proofs.Unique.{fetched_one}
use Rattle.hm_codes.specs.Listing.{Listing, IsListing, IsFetched}
use Rattle.hm_isa.specs.declared.Instr.{Instr}

-- what was fetched at the program counter is what the listing tells
pub listed_here : (listing : Listing) (flash : ℕ → ℕ) (pc : ℕ) (x : Result Instr Fault) → IsListing flash listing → IsFetched flash pc x → listing pc ≡ x
listed_here listing flash pc x is here = fetched_one flash pc (listing pc) x (is.at pc) here
