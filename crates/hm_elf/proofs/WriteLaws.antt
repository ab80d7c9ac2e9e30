-- The file that an image is written as holds that image.
use Rattle.std.proofs.Common.{◌≡◌, ℕ, suc, ◌+◌, ◌*◌, ◌/◌, ◌%◌, ◌^◌, ◌<◌, ◌≤◌, Bool, cond, List, [], ◌∷◌, ◌++◌, length, map, take, drop, inl, inr, refl}
use Rattle.std.proofs.Common.{sym, ap, subst, ◌∙◌, arith, append_assoc, add-one, length-append}
use Rattle.std.specs.List.{AllByRecursion}
use Rattle.std.proofs.lemmas.Bool.{lt-ltb}
use Rattle.std.proofs.lemmas.List.{take_at, drop_all, drop_at, append-nil}
use Rattle.std.proofs.lemmas.Nat.{from_le_bytes-to_le_bytes_2, from_le_bytes-to_le_bytes_4}
use Rattle.hm_base.specs.Image.{Segment, segment, segment_at, IsPlaced, IsImage}
use Rattle.hm_base.proofs.Images.{drop_segment, placed_below}
use Rattle.hm_elf.specs.declared.reading.ProgramHeader.{ProgramHeader}
use Rattle.hm_elf.specs.Elf.{half, word, header_size, entry_size, IsHeader, header_at, headers_in, headers_of, loading, loaded, IsLoaded, with_segments}
use Rattle.hm_elf.specs.Elf.{IsImageFile}
use Rattle.hm_elf.specs.WriteImage.{half_bytes, word_bytes, file_header, program_header, program_headers, all_bytes, elf_file}
use Rattle.hm_elf.proofs.Placing.{with_segments-image}

-- ---- numbers

two_digits : (a b : ℕ) → a + 0x100 * b ≡ a + b * 256 ^ 1
two_digits a b = omega arith

four_digits : (a b c d : ℕ) → a + 0x100 * b + 0x10000 * c + 0x1000000 * d ≡ a + b * 256 ^ 1 + c * 256 ^ 2 + d * 256 ^ 3
four_digits a b c d = omega arith

half_again : (n : ℕ) → n < 2 ^ 16 → half (half_bytes n) 0 ≡ n
half_again n lt = two_digits (n % 256) (n / 256 ^ 1 % 256) ∙ from_le_bytes-to_le_bytes_2 n lt

word_again : (n : ℕ) → n < 2 ^ 32 → word (word_bytes n) 0 ≡ n
word_again n lt = four_digits (n % 256) (n / 256 ^ 1 % 256) (n / 256 ^ 2 % 256) (n / 256 ^ 3 % 256) ∙ from_le_bytes-to_le_bytes_4 n lt

-- ---- sizes

pub placed_short : (s : Segment) → IsPlaced s → length s.bytes ≤ 0x100000
placed_short s (some, inl flash) = omega arith
placed_short s (some, inr sram) = omega arith

length-program_headers : (offset : ℕ) (ss : List Segment) → length (program_headers offset ss) ≡ 32 * length ss
length-program_headers offset [] = refl
length-program_headers offset (s ∷ ss) =
    let rest = length-program_headers (offset + length s.bytes) ss in
    let both = length-append (program_header offset s) (program_headers (offset + length s.bytes) ss) in
    omega arith

length-all_bytes : (ss : List Segment) → IsImage ss → length (all_bytes ss) ≤ 0x100000 * length ss
length-all_bytes [] i = omega arith
length-all_bytes (s ∷ ss) i =
    let first = placed_short s i.0 in
    let rest = length-all_bytes ss i.2 in
    let both = length-append s.bytes (all_bytes ss) in
    omega arith

pub length-elf_file : (image : List Segment) → IsImage image → length image ≤ 64 → length (elf_file image) < 2 ^ 31
length-elf_file image i few =
    let headers = program_headers (header_size + entry_size * length image) image in
    let a = length-append (file_header (length image)) (headers ++ all_bytes image) in
    let b = length-append headers (all_bytes image) in
    let c = length-program_headers (header_size + entry_size * length image) image in
    let d = length-all_bytes image i in
    omega arith

-- ---- the file header

header_again : (count : ℕ) (rest : List ℕ) → count ≤ 64 → 32 * count ≤ length rest → IsHeader (file_header count ++ rest)
header_again count rest few long =
    let all = length-append (file_header count) rest in
    let is = half_again count (omega arith) in
    record {
      whole = omega arith;
      class = refl;
      order = refl;
      kind = refl;
      machine = refl;
      entries = inr refl;
      few = rw is few;
      table = rw is (omega arith);
    }

-- ---- program headers

-- what is written of a segment whose bytes begin at an offset
abbrev told_header : ℕ → Segment → ProgramHeader
told_header offset s = record { kind = 1; offset = offset; address = s.addr; file_size = length s.bytes; memory_size = length s.bytes }

abbrev told : ℕ → List Segment → List ProgramHeader
told offset [] = []
told offset (s ∷ ss) = told_header offset s ∷ told (offset + length s.bytes) ss

abbrev header_of : ℕ → ℕ → ℕ → ProgramHeader
header_of offset address size = record { kind = 1; offset = offset; address = address; file_size = size; memory_size = size }

header_is : (o p a b m n : ℕ) → o ≡ p → a ≡ b → m ≡ n → header_of o a m ≡ header_of p b n
header_is o p a b m n e f g = ap (λ (x : ℕ). header_of x a m) e ∙ ap (λ (x : ℕ). header_of p x m) f ∙ ap (λ (x : ℕ). header_of p b x) g

header_told : (offset : ℕ) (s : Segment) (rest : List ℕ) → offset < 2 ^ 32 → s.addr < 2 ^ 32 → length s.bytes < 2 ^ 32
    → header_at (program_header offset s ++ rest) ≡ told_header offset s
header_told offset s rest o a n =
    header_is (word (word_bytes offset) 0) offset (word (word_bytes s.addr) 0) s.addr (word (word_bytes (length s.bytes)) 0) (length s.bytes)
    (word_again offset o) (word_again s.addr a) (word_again (length s.bytes) n)

headers_told : (offset : ℕ) (ss : List Segment) (rest : List ℕ) → IsImage ss → offset + 0x100000 * length ss < 2 ^ 32
    → headers_in (length ss) (program_headers offset ss ++ rest) ≡ told offset ss
headers_told offset [] rest i small = refl
headers_told offset (s ∷ ss) rest i small =
    let short = placed_short s i.0 in
    let below = placed_below s i.0 in
    let next = offset + length s.bytes in
    let more = program_headers next ss ++ rest in
    ap (λ (h : ProgramHeader). h ∷ headers_in (length ss) more) (header_told offset s more (omega arith) (omega arith) (omega arith))
    ∙ ap (λ (hs : List ProgramHeader). told_header offset s ∷ hs) (headers_told next ss rest i.2 (omega arith))

loading_told : (offset : ℕ) (ss : List Segment) → IsImage ss → loading (told offset ss) ≡ told offset ss
loading_told offset [] i = refl
loading_told offset (s ∷ ss) i =
    let rest = told (offset + length s.bytes) ss in
    ap (λ (b : Bool). cond b (told_header offset s ∷ loading rest) (loading rest)) (lt-ltb 0 (length s.bytes) i.0.0)
    ∙ ap (λ (hs : List ProgramHeader). told_header offset s ∷ hs) (loading_told (offset + length s.bytes) ss i.2)

-- ---- the bytes

told_loaded : (bytes front : List ℕ) (offset : ℕ) (ss : List Segment) → bytes ≡ front ++ all_bytes ss → offset ≡ length front
    → AllByRecursion (IsLoaded bytes) (told offset ss) × (map (loaded bytes) (told offset ss) ≡ ss)
told_loaded bytes front offset [] b o = (tt, refl)
told_loaded bytes front offset (s ∷ ss) b o =
    let grown = length-append front s.bytes in
    let rest = told_loaded bytes (front ++ s.bytes) (offset + length s.bytes) ss (b ∙ sym (append_assoc front s.bytes (all_bytes ss))) (omega arith) in
    let whole = ap length b in
    let parts = length-append front (s.bytes ++ all_bytes ss) in
    let pieces = length-append s.bytes (all_bytes ss) in
    let inside : offset + length s.bytes ≤ length bytes = omega arith in
    let same : length s.bytes ≤ length s.bytes = omega arith in
    let first : IsLoaded bytes (told_header offset s) = (inside, same) in
    let part : take (length s.bytes) (drop offset bytes) ≡ s.bytes
    = ap (λ (x : List ℕ). take (length s.bytes) (drop offset x)) b
    ∙ ap (λ (x : List ℕ). take (length s.bytes) x) (drop_at front (s.bytes ++ all_bytes ss) offset (sym o))
    ∙ take_at s.bytes (all_bytes ss) (length s.bytes) refl in (
      (first, rest.0),
      ap (λ (x : List ℕ). segment s.addr x ∷ map (loaded bytes) (told (offset + length s.bytes) ss)) part
          ∙ ap (λ (x : List Segment). s ∷ x) rest.1,
    )

-- ---- the file

pub file_again : (image : List Segment) → IsImage image → length image ≤ 64 → IsImageFile (elf_file image) image
file_again image i few =
    let start = header_size + entry_size * length image in
    let headers = program_headers start image in
    let bytes = elf_file image in
    let count = length-program_headers start image in
    let both = length-append headers (all_bytes image) in
    let header : IsHeader bytes = header_again (length image) (headers ++ all_bytes image) few (omega arith) in
    let told_is : headers_of bytes ≡ told start image
    = ap (λ (n : ℕ). headers_in n (headers ++ all_bytes image)) (half_again (length image) (omega arith))
    ∙ headers_told start image (all_bytes image) i (omega arith) in
    let are : loading (headers_of bytes) ≡ told start image = ap loading told_is ∙ loading_told start image i in
    let front = file_header (length image) ++ headers in
    let regrouped : bytes ≡ front ++ all_bytes image = sym (append_assoc (file_header (length image)) headers (all_bytes image)) in
    let long = length-append (file_header (length image)) headers in
    let l = told_loaded bytes front start image regrouped (omega arith) in
    inl (
      refl,
      record {
        header = header;
        each_loaded = subst (λ (hs : List ProgramHeader). AllByRecursion (IsLoaded bytes) hs) (sym are) l.0;
        segments = sym (ap (λ (hs : List ProgramHeader). with_segments [] (map (loaded bytes) hs)) are ∙ ap (λ (ss : List Segment). with_segments [] ss) l.1
            ∙ with_segments-image image i);
        sound = i;
      },
    )

-- ---- the loops of the code

pub headers_step : (out : List ℕ) (offset k address : ℕ) (bytes : List ℕ) (image : List Segment) (whole : List ℕ) → k < length image
    → segment_at image k ≡ segment address bytes
    → out ++ program_headers offset (drop k image) ≡ whole
    → (out ++ program_header offset (segment address bytes)) ++ program_headers (offset + length bytes) (drop (k + 1) image) ≡ whole
headers_step out offset k address bytes image whole l is so_far =
    let next : drop k image ≡ segment address bytes ∷ drop (k + 1) image
    = drop_segment image k l ∙ ap (λ (s : Segment). s ∷ drop (suc k) image) is ∙ ap (λ (n : ℕ). segment address bytes ∷ drop n image) (sym (add-one k)) in
    append_assoc out (program_header offset (segment address bytes)) (program_headers (offset + length bytes) (drop (k + 1) image))
    ∙ sym (ap (λ (ss : List Segment). out ++ program_headers offset ss) next) ∙ so_far

pub bytes_step : (out : List ℕ) (k address : ℕ) (bytes : List ℕ) (image : List Segment) (whole : List ℕ) → k < length image
    → segment_at image k ≡ segment address bytes
    → out ++ all_bytes (drop k image) ≡ whole → (out ++ bytes) ++ all_bytes (drop (k + 1) image) ≡ whole
bytes_step out k address bytes image whole l is so_far =
    let next : drop k image ≡ segment address bytes ∷ drop (k + 1) image
    = drop_segment image k l ∙ ap (λ (s : Segment). s ∷ drop (suc k) image) is ∙ ap (λ (n : ℕ). segment address bytes ∷ drop n image) (sym (add-one k)) in
    append_assoc out bytes (all_bytes (drop (k + 1) image)) ∙ sym (ap (λ (ss : List Segment). out ++ all_bytes ss) next) ∙ so_far

pub headers_done : (out : List ℕ) (offset k : ℕ) (image : List Segment) (whole : List ℕ) → length image ≤ k
    → out ++ program_headers offset (drop k image) ≡ whole → out ≡ whole
headers_done out offset k image whole l so_far = sym (append-nil out) ∙ sym (ap (λ (ss : List Segment). out ++ program_headers offset ss) (drop_all k image l))
    ∙ so_far

pub bytes_done : (out : List ℕ) (k : ℕ) (image : List Segment) (whole : List ℕ) → length image ≤ k → out ++ all_bytes (drop k image) ≡ whole → out ≡ whole
bytes_done out k image whole l so_far = sym (append-nil out) ∙ sym (ap (λ (ss : List Segment). out ++ all_bytes ss) (drop_all k image l)) ∙ so_far
