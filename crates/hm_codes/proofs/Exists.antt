-- Every flash has a listing: whether an instruction stands at an address is decided, since all can be tried.
use Rattle.std.proofs.Common.{◌≡◌, ◌≤◌, ◌<◌, ◌+◌, ◌%◌, ℕ, arith, refl, List, [], ◌∷◌, ◌⊎◌, inl, inr, Result, Ok, Err}
use Rattle.std.proofs.lemmas.Bool.{cases_eq, cases_lt}
use Rattle.hm_base.specs.declared.Fault.{Fault}
use Rattle.hm_base.specs.Image.{flash_size}
use Rattle.hm_isa.specs.declared.Instr.{Instr}
use Rattle.hm_isa.specs.Code.{halfwords}
use Rattle.hm_layout.proofs.Search.{Decided, Found}
use Rattle.hm_codes.specs.Listing.{half_at, HalvesStand, Stands, IsFetched, missing, Listing, IsListing}
use Rattle.hm_codes.proofs.Unique.{coded_instr}

halves : (flash : ℕ → ℕ) (hs : List ℕ) (a : ℕ) → Decided (HalvesStand flash hs a)
halves flash [] a = inl tt
halves flash (h ∷ hs) a = go (cases_lt flash_size (a + 2)) (cases_eq (half_at flash a) h) (halves flash hs (a + 2))
  where
    go : (flash_size < a + 2) ⊎ (a + 2 ≤ flash_size) → (half_at flash a ≡ h) ⊎ (half_at flash a ≡ h → ⊥) → Decided (HalvesStand flash hs (a + 2))
        → Decided (HalvesStand flash (h ∷ hs) a)
    go (inl past) same others = inr (λ x. let within = x.0 in omega arith)
    go (inr within) (inr differs) others = inr (λ x. differs x.1)
    go (inr within) (inl e) (inr not_) = inr (λ x. not_ x.2)
    go (inr within) (inl e) (inl others) = inl (within, e, others)

stands : (flash : ℕ → ℕ) (a : ℕ) (i : Instr) → Decided (Stands flash a i)
stands flash a i = go (cases_eq (a % 2) 0) (halves flash (halfwords i) a)
  where
    go : (a % 2 ≡ 0) ⊎ (a % 2 ≡ 0 → ⊥) → Decided (HalvesStand flash (halfwords i) a) → Decided (Stands flash a i)
    go (inr odd) there = inr (λ h. odd h.even)
    go (inl even) (inr not_) = inr (λ h. not_ h.code)
    go (inl even) (inl code) = inl (record { even = even; code = code })

-- each address has an answer
fetched : (flash : ℕ → ℕ) (a : ℕ) → (x : Result Instr Fault) × IsFetched flash a x
fetched flash a = go (coded_instr.tried.find (λ i. Stands flash a i) (stands flash a))
  where
    go : Found (λ (i : Instr). Stands flash a i) → (x : Result Instr Fault) × IsFetched flash a x
    go (inl (i, h)) = (Ok i, h)
    go (inr none) = (Err (record { kind = missing flash a; addr = a }), ((λ i h. none (i, h)), refl))

pub exists : (flash : ℕ → ℕ) → (listing : Listing) × IsListing flash listing
exists flash = ((λ a. (fetched flash a).0), record { at = λ a. (fetched flash a).1 })
