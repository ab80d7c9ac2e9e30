-- Codes of one halfword are below 2^16, and those of two have 32 bits.
use Rattle.std.proofs.Common.{◌≡◌, ◌<◌, ◌^◌, ℕ, List, [], ◌∷◌, length, refl, ap, subst, arith}
use Rattle.std.proofs.lemmas.Bool.Decides.{nat_tests}
use Rattle.hm_isa.specs.declared.Instr.{Instr}
use Rattle.hm_isa.specs.declared.widths.ByWidth.TheVariants as by
use Rattle.hm_isa.specs.declared.widths.NarrowRow.{NarrowRow}
use Rattle.hm_isa.specs.declared.widths.WideRow.{WideRow}
use Rattle.hm_isa.specs.Code.{halfwords, halves_by_width, narrow_code, wide_code}
use Rattle.hm_isa.specs.Widths.{by_width}
use Rattle.hm_layout.proofs.Lengths.{below_32, has_32, kind_passes}
use Rattle.hm_codes.proofs.Widths.{code_length, first_of, joined, rejoined}
use Rattle.hm_codes.proofs.Unique.{coded_instr, length_instr}

-- the code of a row of one halfword is that
pub halves_narrow : (i : Instr) (r : NarrowRow) → by_width i ≡ by.Narrow r → halfwords i ≡ narrow_code r ∷ []
halves_narrow i r is = ap halves_by_width is

-- the first halfword of a code tells that it is the only one, and so is below 0xe800
only_below : (h : ℕ) → 1 ≡ code_length h → h < 65536
only_below h e = grind (arith, nat_tests)

pub narrow_below : (i : Instr) (r : NarrowRow) → by_width i ≡ by.Narrow r → narrow_code r < 65536
narrow_below i r is =
    only_below (narrow_code r) (subst (λ (hs : List ℕ). length hs ≡ code_length (first_of hs)) (halves_narrow i r is) (length_instr i))

instr_below : (i : Instr) → joined (halfwords i) < 2 ^ 32
instr_below i =
    let (k, m, h) = coded_instr.has refl i in
    below_32 k.bits (joined (halfwords i)) (kind_passes has_32 k coded_instr.kinds refl m) h.bits

pub wide_below : (i : Instr) (r : WideRow) → by_width i ≡ by.Wide r → wide_code r < 2 ^ 32
wide_below i r is =
    let same : joined (halfwords i) ≡ wide_code r = rw is (rejoined (wide_code r)) in
    subst (λ (w : ℕ). w < 2 ^ 32) same (instr_below i)
