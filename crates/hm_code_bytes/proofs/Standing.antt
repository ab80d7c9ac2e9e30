-- Halfwords whose bytes an image of one segment has stand in its flash.
use Rattle.std.proofs.Common.{◌≡◌, ℕ, ◌+◌, ◌*◌, ◌/◌, ◌%◌, ◌<◌, ◌≤◌, length, List, [], ◌∷◌, ◌++◌, ap, ◌∙◌, subst, arith}
use Rattle.std.specs.Prelude.{slice_index}
use Rattle.std.proofs.lemmas.Bool.Decides.{nat_tests}
use Rattle.std.proofs.lemmas.List.{append_assoc, get_or-append-add, length-append}
use Rattle.hm_base.specs.Image.{flash_byte, flash_size, flat}
use Rattle.hm_codes.specs.Listing.{HalvesStand, half_at}
use Rattle.hm_code_bytes.specs.Bytes.{half_bytes}
use Rattle.hm_code_bytes.proofs.Bytes.{length_halves}

pub flat_byte : (bytes : List ℕ) (a : ℕ) → a < length bytes → length bytes ≤ flash_size → flash_byte (flat bytes) a ≡ slice_index bytes a
flat_byte bytes a in_bytes fits = grind (arith, nat_tests)

byte_behind : (front back : List ℕ) (k : ℕ) → k < length back → length front + length back ≤ flash_size
    → flash_byte (flat (front ++ back)) (length front + k) ≡ slice_index back k
byte_behind front back k l fits =
    let size = length-append front back in
    flat_byte (front ++ back) (length front + k) (omega arith) (omega arith) ∙ get_or-append-add front back k 0

-- halfwords behind others
pub held : (front hs : List ℕ) → length front + 2 * length hs ≤ flash_size → HalvesStand (flash_byte (flat (front ++ half_bytes hs))) hs (length front)
held front [] fits = tt
held front (h ∷ hs) fits =
    let two : List ℕ = h % 256 ∷ h / 256 ∷ [] in
    let rest = half_bytes hs in
    let back : List ℕ = h % 256 ∷ h / 256 ∷ rest in
    let size = length_halves hs in
    let all : length front + length back ≤ flash_size = omega arith in
    let low : flash_byte (flat (front ++ back)) (length front) ≡ h % 256 =
    (let z : length front ≡ length front + 0 = omega arith in ap (flash_byte (flat (front ++ back))) z) ∙ byte_behind front back 0 (omega arith) all in
    let high : flash_byte (flat (front ++ back)) (length front + 1) ≡ h / 256 = byte_behind front back 1 (omega arith) all in
    let here : half_at (flash_byte (flat (front ++ back))) (length front) ≡ h =
    (λ j. low j + 256 * high j) ∙ (let e : h % 256 + 256 * (h / 256) ≡ h = omega arith in e) in
    let longer : length (front ++ two) ≡ length front + 2 = length-append front two in
    let next : HalvesStand (flash_byte (flat (front ++ two ++ rest))) hs (length (front ++ two)) = held (front ++ two) hs (omega arith) in
    let same : front ++ two ++ rest ≡ front ++ back = append_assoc front two rest in
    let there : HalvesStand (flash_byte (flat (front ++ back))) hs (length front + 2) =
    subst (λ (a : ℕ). HalvesStand (flash_byte (flat (front ++ back))) hs a) longer
    (subst (λ (bs : List ℕ). HalvesStand (flash_byte (flat bs)) hs (length (front ++ two))) same next) in
    (omega arith, here, there)
