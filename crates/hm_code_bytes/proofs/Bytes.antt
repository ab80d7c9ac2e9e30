-- The bytes of lists one behind another.
use Rattle.std.proofs.Common.{◌≡◌, ℕ, ◌*◌, ◌/◌, ◌%◌, length, List, [], ◌∷◌, ◌++◌, refl, sym, ap, ◌∙◌, arith}
use Rattle.std.proofs.lemmas.List.{append_assoc}
use Rattle.hm_isa.specs.declared.Instr.{Instr}
use Rattle.hm_isa.specs.Code.{halfwords}
use Rattle.hm_code_bytes.specs.Bytes.{all_halves, half_bytes}

pub length_halves : (hs : List ℕ) → length (half_bytes hs) ≡ 2 * length hs
length_halves [] = refl
length_halves (h ∷ hs) = let e = length_halves hs in omega arith

pub halves_append : (hs ks : List ℕ) → half_bytes (hs ++ ks) ≡ half_bytes hs ++ half_bytes ks
halves_append [] ks = refl
halves_append (h ∷ hs) ks = ap (λ (bs : List ℕ). h % 256 ∷ h / 256 ∷ bs) (halves_append hs ks)

pub all_append : (is js : List Instr) → all_halves (is ++ js) ≡ all_halves is ++ all_halves js
all_append [] js = refl
all_append (i ∷ is) js = ap (λ (hs : List ℕ). halfwords i ++ hs) (all_append is js) ∙ sym (append_assoc (halfwords i) (all_halves is) (all_halves js))
