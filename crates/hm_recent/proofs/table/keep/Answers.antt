use Rattle.std.proofs.Common.{◌≡◌, ℕ, ◌%◌, refl, ap, sym, ◌∙◌, subst, [], ◌∷◌, Option, IfSome, None, slice_index_or}
use Rattle.std.proofs.lemmas.Grind.{get_or-set_at}
use Rattle.std.proofs.lemmas.List.{get_or_default, length-set}
use Rattle.hm_codes.specs.Listing.{HalvesStand}
use Rattle.hm_recent.proofs.Halves.{coded_stands}
use Rattle.hm_recent.specs.Decodings.{instr_of}
use Rattle.hm_recent.specs.Kept.{instr_in}
use Rattle.hm_recent.specs.Places.{place_of}
use Rattle.hm_recent.specs.declared.recent.Cached.{Cached}
use Rattle.hm_mem.specs.Memory.{memory_of, flash_at}
use Rattle.hm_recent.proofs.table.keep.Goals as goal

-- what is kept is known by its halfwords
pub returns-then-holds-clause-kept : goal.returns-then-holds-clause-kept
returns-then-holds-clause-kept c =
    let flash = flash_at (memory_of c.args.m.now) in
    let recent = c.args.recent.now in
    let empty : Cached = record { entry = None } in
    let known = c.if-holds.ensures.code refl in
    let h = known.1 in
    let is = known.3 in (
      known.0,
      ap (λ (k : ℕ). instr_in (slice_index_or recent k empty)) (sym c.place_of-place.ensures.value)
          ∙ ap instr_in (get_or_default recent c.place_of-place.result empty c.index-recent-place.result c.place_of-place.ensures.below)
          ∙ known.2,
      coded_stands flash c.args.addr h.0 h.1 (instr_of known.0)
          (subst (λ (o : Option (ℕ × ℕ)). IfSome o (λ q. HalvesStand flash (q.0 ∷ q.1 ∷ []) c.args.addr)) is c.halves_at.ensures.stand)
          (subst (λ (o : Option (ℕ × ℕ)). IfSome o (λ q. c.args.addr % 2 ≡ 0)) is c.halves_at.ensures.even) known.4,
    )

-- what was decoded is put into its place
pub returns-clause-kept : goal.returns-clause-kept
returns-clause-kept c =
    let told = c.in_ok-recent.ensures.kept in
    let same = ap (λ (n : ℕ). place_of n c.args.addr) (length-set c.args.recent.now c.place_of-place.result c.in_ok-recent.field-0)
    ∙ sym c.place_of-place.ensures.value in (
      told.0,
      ap instr_in (get_or-set_at c.args.recent.now c.place_of-place.result _ _ _ same c.place_of-place.ensures.below) ∙ told.1,
      told.2,
    )
