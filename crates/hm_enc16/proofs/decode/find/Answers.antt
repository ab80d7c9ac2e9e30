use Rattle.std.proofs.Common.{◌≡◌}
use Rattle.hm_isa.specs.declared.widths.NarrowRow.TheVariants as narrow
use Rattle.hm_isa.specs.Code.{narrow_code}
use Rattle.hm_enc16.proofs.decode.find.Goals as goal

pub returns-clause-none : goal.returns-clause-none
returns-clause-none c r =
    elim r as (λ r. narrow_code r ≡ c.args.h → ⊥) [
      | narrow.S1 r ↦ c.in_default.ensures.none r
      | narrow.S2 r ↦ c.in_default-decode_s2.ensures.none r
      | narrow.S3 r ↦ c.in_default-decode_s3.ensures.none r
      | narrow.S4 r ↦ c.in_default-decode_s4.ensures.none r
      | narrow.S5 r ↦ c.in_default-decode_s5.ensures.none r
      | narrow.S6 r ↦ c.in_default-decode_s6.ensures.none r
      | narrow.S7 r ↦ c.in_default-decode_s7.ensures.none r
      | narrow.S8 r ↦ c.in_default-decode_s8.ensures.none r
      | narrow.S9 r ↦ c.in_default-decode_s9.ensures.none r
      | narrow.S10 r ↦ c.in_default-decode_s10.ensures.none r
      | narrow.S11 r ↦ c.in_default-decode_s11.ensures.none r
      | narrow.S12 r ↦ c.in_default-decode_s12.ensures.none r
      | narrow.S13 r ↦ c.in_default-decode_s13.ensures.none r
      | narrow.S14 r ↦ c.in_default-decode_s14.ensures.none r
      | narrow.S15 r ↦ c.in_default-decode_s15.ensures.none r
      | narrow.S16 r ↦ c.in_default-decode_s16.ensures.none r
      | narrow.S17 r ↦ c.in_default-decode_s17.ensures.none r
      | narrow.S18 r ↦ c.in_default-decode_s18.ensures.none r
      | narrow.S19 r ↦ c.in_default-decode_s19.ensures.none r
      | narrow.S20 r ↦ c.in_default-decode_s20.ensures.none r
      | narrow.S21 r ↦ c.in_default-decode_s21.ensures.none r
      | narrow.S23 r ↦ c.in_default-find_branch.ensures.no_s23 r
      | narrow.S24 r ↦ c.in_default-find_branch.ensures.no_s24 r
      | narrow.S25 r ↦ c.in_default-find_branch.ensures.no_s25 r
    ]
