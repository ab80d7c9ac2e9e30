-- The image that is made of a text: what its flash and its SRAM hold.
use Rattle.std.proofs.Common.{◌≡◌, ℕ, ◌+◌, ◌-◌, ◌*◌, ◌<◌, ◌≤◌, Bool, true, false, nat_eq, nat_lt, length, List, [], ◌∷◌, ◌++◌, refl, sym, ap, ◌∙◌, subst, arith}
use Rattle.std.specs.Prelude.{All, if◌then◌else◌, slice_index}
use Rattle.std.proofs.lemmas.Bool.Decides.{nat_tests}
use Rattle.std.proofs.lemmas.List.Elements.{All-cons, All-head, All-nil, All-tail}
use Rattle.hm_base.specs.Image.{InFlash, IsImage, Segment, covers, first_byte, flash_byte, flash_size, flat, given, segment, with_segment, word_at}
use Rattle.hm_codes.specs.Listing.{HalvesStand}
use Rattle.hm_code_bytes.specs.Bytes.{all_halves, word_bytes}
use Rattle.hm_code_bytes.proofs.Standing.{flat_byte, held}
use Rattle.hm_isa.specs.declared.Instr.{Instr}
use Rattle.hm_kernel_lang.specs.declared.text.Array.{Array}
use Rattle.hm_kernel_lang.specs.declared.text.ElementType.{ElementType}
use Rattle.hm_kernel_lang.specs.declared.text.Text.{Text}
use Rattle.hm_kernel_lang.specs.Code.{code}
use Rattle.hm_kernel_lang.specs.Language.{address}
use Rattle.hm_kernel_lang.specs.Texts.{IsArray, IsText}
use Rattle.hm_kernel_code.specs.Images.{IsImageOf, IsMade, flash_bytes}
use Rattle.hm_kernel_instrs.specs.Instructions.{AreItems}
use Rattle.hm_kernel_code.specs.Segments.{AllApart, array_segment, with_array, with_arrays}
use Rattle.hm_kernel_code.proofs.Apart.{all_apart, all_placed, all_with_image, flat_is_image}
use Rattle.hm_kernel_code.proofs.Held.{items_stand, lines_stay, total}
use Rattle.hm_kernel_code.proofs.Room.{flash_length, room_of}
use Rattle.hm_kernel_code.proofs.Segments.{arrays_given, given_with}

-- FLASH is that of the segment in it
not_covered : (t : ElementType) (n : ℕ) (x : Array) (a : ℕ) → IsArray t n x → a < flash_size → covers (array_segment t x) a ≡ false
not_covered t n x a h l = let low = h.placed.low in grind (arith, nat_tests)

one_kept : (t : ElementType) (n : ℕ) (x : Array) (xs : List Array) (ss : List Segment) (a : ℕ) → IsArray t n x → a < flash_size → AllApart t (x ∷ xs) ss
    → given (with_array t x (with_arrays t xs ss)) 255 a ≡ given (with_arrays t xs ss) 255 a
one_kept t n x xs ss a h l apart = go (nat_eq (length x.values.items) 0)
  where
    rest : List Segment
    rest = with_arrays t xs ss

    go : (b : Bool) → given (if b then with_arrays t xs ss else with_segment (array_segment t x) (with_arrays t xs ss)) 255 a
        ≡ given (with_arrays t xs ss) 255 a
    go true = refl
    go false = given_with (array_segment t x) (with_arrays t xs ss) 255 a apart.0
        ∙ ap (λ (b : Bool). if b then slice_index (array_segment t x).bytes (a - x.addr) else given (with_arrays t xs ss) 255 a) (not_covered t n x a h l)

arrays_kept : (t : ElementType) (n : ℕ) (xs : List Array) (ss : List Segment) (a : ℕ) → All (IsArray t n) xs → a < flash_size → AllApart t xs ss
    → given (with_arrays t xs ss) 255 a ≡ given ss 255 a
arrays_kept t n [] ss a arrays l apart = refl
arrays_kept t n (x ∷ xs) ss a arrays l apart =
    one_kept t n x xs ss a (All-head (IsArray t n) x xs arrays) l apart ∙ arrays_kept t n xs ss a (All-tail (IsArray t n) x xs arrays) l apart.1

where_flash : (b : Bool) (x y z : ℕ) → (b ≡ true → x ≡ y) → (if b then x else z) ≡ (if b then y else z)
where_flash true x y z h = h refl
where_flash false x y z h = refl

flash_kept : (t : ElementType) (n : ℕ) (xs : List Array) (ss : List Segment) → All (IsArray t n) xs → AllApart t xs ss → (a : ℕ)
    → flash_byte (with_arrays t xs ss) a ≡ flash_byte ss a
flash_kept t n xs ss arrays apart a =
    where_flash (nat_lt a flash_size) (given (with_arrays t xs ss) 255 a) (given ss 255 a) 255
    (λ e. arrays_kept t n xs ss a arrays (grind (arith, nat_tests)) apart)

-- THE FIRST TWO WORDS
module _ (is : List Instr) (fits : length (flash_bytes is) ≤ flash_size) where
  abbrev bs : List ℕ
  bs = flash_bytes is

  at : (a : ℕ) → a < 8 → flash_byte (flat bs) a ≡ slice_index bs a
  at a h = let n = flash_length is in flat_byte bs a (omega arith) fits

  pub first_word : word_at (flash_byte (flat bs)) 0 ≡ 0x20040000
  first_word = λ j. at 0 (omega arith) j + 0x100 * at 1 (omega arith) j + 0x10000 * at 2 (omega arith) j + 0x1000000 * at 3 (omega arith) j

  pub second_word : word_at (flash_byte (flat bs)) 4 ≡ 9
  second_word = λ j. at 4 (omega arith) j + 0x100 * at 5 (omega arith) j + 0x10000 * at 6 (omega arith) j + 0x1000000 * at 7 (omega arith) j

-- SRAM is what the arrays are given
first_is : (ss : List Segment) (a : ℕ) → 0x20000000 ≤ a → a < 0x20040000 → first_byte ss a ≡ given ss 0 a
first_is ss a h k = grind (arith, nat_tests)

flat_none : (bs : List ℕ) (a : ℕ) → length bs ≤ flash_size → 0x20000000 ≤ a → given (flat bs) 0 a ≡ 0
flat_none bs a h k = grind (arith, nat_tests)

one_longer : (s : Segment) (ss : List Segment) → length (with_segment s ss) ≤ length ss + 1
one_longer s [] = omega arith
one_longer s (t ∷ ts) = go (nat_lt s.addr t.addr) (one_longer s ts)
  where
    go : (b : Bool) → length (with_segment s ts) ≤ length ts + 1 → length (if b then s ∷ t ∷ ts else t ∷ with_segment s ts) ≤ length (t ∷ ts) + 1
    go b i = grind arith

array_longer : (t : ElementType) (x : Array) (ss : List Segment) → length (with_array t x ss) ≤ length ss + 1
array_longer t x ss = go (nat_eq (length x.values.items) 0)
  where
    go : (b : Bool) → length (if b then ss else with_segment (array_segment t x) ss) ≤ length ss + 1
    go true = omega arith
    go false = one_longer (array_segment t x) ss

arrays_longer : (t : ElementType) (xs : List Array) (ss : List Segment) → length (with_arrays t xs ss) ≤ length ss + length xs
arrays_longer t [] ss = omega arith
arrays_longer t (x ∷ xs) ss = let one = array_longer t x (with_arrays t xs ss) in let others = arrays_longer t xs ss in omega arith

-- THE WHOLE
pub in_flash : (bs : List ℕ) → length bs ≤ flash_size → All InFlash (flat bs)
in_flash bs h = All-cons InFlash (segment 0 bs) [] (omega arith) (All-nil InFlash)

pub fits_flash : (x : Text) (is : List Instr) → IsText x → AreItems x.element (code x) is
    → (0 < length (flash_bytes is)) × (length (flash_bytes is) ≤ flash_size)
fits_flash x is text kinds = let n = flash_length is in let room = room_of x is text kinds in (omega arith, omega arith)

pub text_apart : (x : Text) (is : List Instr) → IsText x → AreItems x.element (code x) is → AllApart x.element x.arrays.items (flat (flash_bytes is))
text_apart x is text kinds = all_apart x.element x.count x.arrays.items (flat (flash_bytes is)) text.arrays text.apart
    (in_flash (flash_bytes is) (fits_flash x is text kinds).1)

module _ (x : Text) (image : List Segment) (text : IsText x) (made : IsMade x image) where
  abbrev t : ElementType
  t = x.element

  abbrev bytes : List ℕ
  bytes = flash_bytes made.instrs

  room : length bytes ≤ flash_size
  room = (fits_flash x made.instrs text made.kinds).1

  apart : AllApart t x.arrays.items (flat bytes)
  apart = text_apart x made.instrs text made.kinds

  flash_is : flash_byte image ≡ flash_byte (flat bytes)
  flash_is = ap flash_byte made.is ∙ (λ j a. flash_kept t x.count x.arrays.items (flat bytes) text.arrays apart a j)

  pub first_word_is : word_at (flash_byte image) 0 ≡ 0x20040000
  first_word_is = ap (λ (f : ℕ → ℕ). word_at f 0) flash_is ∙ first_word made.instrs room

  pc_is : word_at (flash_byte image) 4 ≡ 9
  pc_is = ap (λ (f : ℕ → ℕ). word_at f 4) flash_is ∙ second_word made.instrs room

  stand : HalvesStand (flash_byte image) (all_halves made.instrs) 8
  stand = subst (λ (f : ℕ → ℕ). HalvesStand f (all_halves made.instrs) 8) (sym flash_is)
      (held (word_bytes 0x20040000 ++ word_bytes 9) (all_halves made.instrs) (let r = room_of x made.instrs text made.kinds in omega arith))

  pub is_image : IsImageOf x image
  is_image =
      let fits = room_of x made.instrs text made.kinds in
      let many = total t (code x) made.instrs made.kinds in
      record {
        pc = pc_is;
        code = items_stand t (flash_byte image) 8 (code x) made.instrs refl made.kinds stand
            (lines_stay (address x.arrays.items) x.count x.lines.items 8 (omega arith));
        sram = λ a h k. first_is image a h k ∙ ap (λ (ss : List Segment). given ss 0 a) made.is
            ∙ arrays_given t x.arrays.items (flat bytes) a apart (flat_none bytes a room h);
      }

  pub is_sound : IsImage image
  is_sound = subst IsImage (sym made.is)
      (all_with_image t x.arrays.items (flat bytes) (all_placed t x.count x.arrays.items text.arrays) apart
      (flat_is_image bytes (fits_flash x made.instrs text made.kinds).0 room))

  pub few_segments : length image ≤ 17
  few_segments = let e = ap length made.is in let n = arrays_longer t x.arrays.items (flat bytes) in let few = text.few_arrays in omega arith
