-- Lanes and bytes give each other back.
use Rattle.std.proofs.Common.{◌≡◌, ℕ, ◌+◌, ◌*◌, ◌/◌, ◌%◌, ◌<◌, List, [], ◌∷◌, length, All, arith, refl}
use Rattle.std.specs.List.{flat_map}
use Rattle.std.proofs.lemmas.List.Elements.{All-head, All-tail}
use Rattle.hm_lane.specs.declared.lanes.Size.{Size}
use Rattle.hm_lane.specs.declared.lanes.Size.TheVariants.{Byte, Half, Word}
use Rattle.hm_lane.specs.Lanes.{bytes_of, words, halves, lanes, unlanes, modulus}

there_bytes : (l : List ℕ) → All (λ x. x < 256) l → flat_map (λ (x : ℕ). x % 256 ∷ []) l ≡ l
there_bytes [] a = refl
there_bytes (x ∷ l) a =
    let h : x < 256 = All-head (λ y. y < 256) x l a in
    let e : x % 256 ≡ x = omega arith in
    λ i. e i ∷ there_bytes l (All-tail (λ y. y < 256) x l a) i

there_halves : (l : List ℕ) → All (λ x. x < 65536) l → halves (flat_map (λ (x : ℕ). x % 256 ∷ x / 256 % 256 ∷ []) l) ≡ l
there_halves [] a = refl
there_halves (x ∷ l) a =
    let h : x < 65536 = All-head (λ y. y < 65536) x l a in
    let e : x % 256 + 256 * (x / 256 % 256) ≡ x = omega arith in
    λ i. e i ∷ there_halves l (All-tail (λ y. y < 65536) x l a) i

there_words : (l : List ℕ) → All (λ x. x < 4294967296) l → words (flat_map bytes_of l) ≡ l
there_words [] a = refl
there_words (x ∷ l) a =
    let h : x < 4294967296 = All-head (λ y. y < 4294967296) x l a in
    let e : x % 256 + 256 * (x / 256 % 256) + 65536 * (x / 65536 % 256) + 16777216 * (x / 16777216 % 256) ≡ x = omega arith in
    λ i. e i ∷ there_words l (All-tail (λ y. y < 4294967296) x l a) i

-- lanes that fit are read from the bytes that they make
pub lanes-unlanes : (z : Size) (l : List ℕ) → All (λ x. x < modulus z) l → lanes z (unlanes z l) ≡ l
lanes-unlanes Byte l a = there_bytes l a
lanes-unlanes Half l a = there_halves l a
lanes-unlanes Word l a = there_words l a

abbrev pub IsByte : ℕ → Type 0
IsByte x = x < 256

back_halves : (v : List ℕ) → length v % 2 ≡ 0 → All IsByte v → flat_map (λ (x : ℕ). x % 256 ∷ x / 256 % 256 ∷ []) (halves v) ≡ v
back_halves [] n a = refl
back_halves (x ∷ []) n a = absurd (omega arith)
back_halves (x ∷ y ∷ v) n a =
    let tail = All-tail IsByte x (y ∷ v) a in
    let p : x < 256 = All-head IsByte x (y ∷ v) a in
    let q : y < 256 = All-head IsByte y v tail in
    let e : (x + 256 * y) % 256 ≡ x = omega arith in
    let f : (x + 256 * y) / 256 % 256 ≡ y = omega arith in
    λ i. e i ∷ f i ∷ back_halves v (omega arith) (All-tail IsByte y v tail) i

back_words : (v : List ℕ) → length v % 4 ≡ 0 → All IsByte v → flat_map bytes_of (words v) ≡ v
back_words [] n a = refl
back_words (x ∷ []) n a = absurd (omega arith)
back_words (x ∷ y ∷ []) n a = absurd (omega arith)
back_words (x ∷ y ∷ z ∷ []) n a = absurd (omega arith)
back_words (x ∷ y ∷ z ∷ w ∷ v) n a =
    let tail = All-tail IsByte x (y ∷ z ∷ w ∷ v) a in
    let tail2 = All-tail IsByte y (z ∷ w ∷ v) tail in
    let tail3 = All-tail IsByte z (w ∷ v) tail2 in
    let p : x < 256 = All-head IsByte x (y ∷ z ∷ w ∷ v) a in
    let q : y < 256 = All-head IsByte y (z ∷ w ∷ v) tail in
    let r : z < 256 = All-head IsByte z (w ∷ v) tail2 in
    let s : w < 256 = All-head IsByte w v tail3 in
    let e : (x + 256 * y + 65536 * z + 16777216 * w) % 256 ≡ x = omega arith in
    let f : (x + 256 * y + 65536 * z + 16777216 * w) / 256 % 256 ≡ y = omega arith in
    let g : (x + 256 * y + 65536 * z + 16777216 * w) / 65536 % 256 ≡ z = omega arith in
    let h : (x + 256 * y + 65536 * z + 16777216 * w) / 16777216 % 256 ≡ w = omega arith in
    λ i. e i ∷ f i ∷ g i ∷ h i ∷ back_words v (omega arith) (All-tail IsByte w v tail3) i

back_bytes : (v : List ℕ) → All IsByte v → flat_map (λ (x : ℕ). x % 256 ∷ []) v ≡ v
back_bytes v a = there_bytes v a

-- 16 bytes are those of their lanes
pub unlanes-lanes : (z : Size) (v : List ℕ) → length v ≡ 16 → All (λ x. x < 256) v → unlanes z (lanes z v) ≡ v
unlanes-lanes Byte v n a = back_bytes v a
unlanes-lanes Half v n a = back_halves v (omega arith) a
unlanes-lanes Word v n a = back_words v (omega arith) a
