use Rattle.std.proofs.Common.{◌≡◌, ◌||◌, ◌/◌, ◌%◌, ◌^◌, ℕ, Bool, true, false, nat_eq, arith, ap, ◌∙◌, sym, refl, ◌⊎◌, inl, inr}
use Rattle.std.proofs.lemmas.Bool.Decides.{nat_tests}
use Rattle.hm_base.specs.Bits.{field}
use Rattle.hm_isa.specs.declared.Vector.{Vector}
use Rattle.hm_isa.specs.Code.{vector_code}
use Rattle.hm_layout.proofs.Bits.{holds, holds_lem, or_cases, either}
use Rattle.hm_layout.proofs.Coded.{Kind}
use Rattle.hm_layout.proofs.Lengths.{kind_passes}
use Rattle.hm_codes.proofs.Vectors.{coded_vector}
use Rattle.hm_decode.proofs.may_be_vector.Goals as goal

-- bits 27 and 26 are set, or the second halfword is that of VCTP
abbrev is_vector_kind : Kind → Bool
is_vector_kind k = holds 26 2 3 k.bits || holds 0 16 0xe801 k.bits

vector_bits : (v : Vector) → (vector_code v / 2 ^ 26 % 2 ^ 2 ≡ 3) ⊎ (vector_code v / 2 ^ 0 % 2 ^ 16 ≡ 0xe801)
vector_bits v =
    let (k, m, h) = coded_vector.has refl v in
    let test : is_vector_kind k ≡ true = kind_passes is_vector_kind k coded_vector.kinds refl m in
    either (λ e. inl (holds_lem 26 2 3 k.bits (vector_code v) e h.bits)) (λ e. inr (holds_lem 0 16 0xe801 k.bits (vector_code v) e h.bits)) (or_cases _ _ test)

-- where they are not so, no vector instruction has the code
none_coded : (w class second : ℕ) → class ≡ field 26 2 w → second ≡ field 0 16 w → (class ≡ 3 → ⊥) → (second ≡ 0xe801 → ⊥) → (v : Vector) → vector_code v ≡ w
    → ⊥
unfolding field
none_coded w class second first last other others v is =
    either (λ e. other (first ∙ ap (λ (c : ℕ). c / 2 ^ 26 % 2 ^ 2) (sym is) ∙ e)) (λ e. others (last ∙ ap (λ (c : ℕ). c / 2 ^ 0 % 2 ^ 16) (sym is) ∙ e))
    (vector_bits v)

told : (second : ℕ) → nat_eq second 0xe801 ≡ false → second ≡ 0xe801 → ⊥
told second e is = grind (arith, nat_tests)

pub returns-else-class-eq3 : goal.returns-else-class-eq3
returns-else-class-eq3 c = record {
  refused = λ e v is. none_coded c.args.w c.bits-class.result c.bits-second.result c.bits-class.ensures.value c.bits-second.ensures.value c.if-class-eq3.false
      (told c.bits-second.result e) v is;
}
