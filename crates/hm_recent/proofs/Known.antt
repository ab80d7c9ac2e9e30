-- What is kept of an address, where what stands there is kept.
use Rattle.std.proofs.Common.{◌≡◌, ℕ, List, sym, ◌∙◌, subst, Some}
use Rattle.hm_codes.specs.Listing.{Stands}
use Rattle.hm_recent.specs.Decodings.{instr_of}
use Rattle.hm_recent.specs.Kept.{HasKept, kept_of}
use Rattle.hm_recent.specs.declared.decoded.Decoded.{Decoded}
use Rattle.hm_recent.specs.declared.recent.Cached.{Cached}

-- it stands there
pub kept_stands : (r : List Cached) (flash : ℕ → ℕ) (addr : ℕ) (d : Decoded)
    → HasKept r flash addr → kept_of r addr ≡ Some d → Stands flash addr (instr_of d)
kept_stands r flash addr d h e =
    let there : Some h.0 ≡ Some d = sym h.1 ∙ e in
    let same : h.0 ≡ d = cc in
    subst (λ (x : Decoded). Stands flash addr (instr_of x)) same h.2
