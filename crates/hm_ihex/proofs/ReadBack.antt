-- An image is read back from its file.
use Rattle.std.proofs.Common.{◌≡◌, ◌⊎◌, ℕ, zero, suc, ◌+◌, ◌-◌, ◌*◌, ◌/◌, ◌%◌, ◌<◌, ◌≤◌, Bool, eqb, cond, List, [], ◌∷◌, ◌++◌, All, append_assoc, drop, take}
use Rattle.std.proofs.Common.{get_or, length, length-drop, Some, Ok, refl, sym, ap, subst, ◌∙◌, inl, inr, arith}
use Rattle.std.specs.List.{AllByRecursion}
use Rattle.std.proofs.lemmas.Bool.{cases_Bool, eqb-true, ne_eqb}
use Rattle.std.proofs.lemmas.Bool.Decides.{nat_tests}
use Rattle.std.proofs.lemmas.List.{drop_all, take_all, take-append-drop}
use Rattle.std.proofs.lemmas.List.Elements.{All-head}
use Rattle.hm_base.specs.Image.{Before, IsImage, Segment, flash_size, segment, segment_at, sram_size, sram_start}
use Rattle.hm_ihex.specs.Cells.{Cells, image_of, no_cells, runs, with_data}
use Rattle.hm_ihex.specs.Files.{Reading, by_record, first_reading, hex_in, lines_in}
use Rattle.hm_ihex.specs.Written.{AreBytes, all_pieces, base_text, data_text, end_text, hex_file, joined, joined_to, lines_of_pieces, pieces, room_at}
use Rattle.hm_ihex.proofs.Again.{Bytes, base_again, data_again, end_again, lines_shown, shown_again}
use Rattle.hm_ihex.proofs.Filled.{Puts, Rises, cells, fuse, puts_append, puts_flash, puts_sram, rises_end, runs_spread, spread}
use Rattle.hm_ihex.proofs.RecordForms.{length_taken}
use Rattle.hm_ihex.proofs.Longest.{all_both}
use Rattle.hm_ihex.proofs.Pieces.{pieces_none, pieces_some, room_few, room_some}
use Rattle.hm_ihex.proofs.Runs.{From, runs_from}
use Rattle.hm_ihex.proofs.Steps.{step}

-- ---- the lines of pieces

-- a segment that one record can give
pub record OneRecord (s : Segment) : Type 0 where
  pub some : 0 < length s.bytes
  pub few : length s.bytes ≤ 16
  pub within : s.addr % 65536 + length s.bytes ≤ 65536
  pub low : s.addr < 4294967296
  pub all : Bytes s.bytes

abbrev pub rebased : Reading → ℕ → Reading
rebased r base = record { base = base; cells = r.cells; count = r.count }

base_step : (k upper : ℕ) (r : Reading) (ls : List (List ℕ)) → upper < 65536
    → lines_in k r (base_text upper ∷ ls) ≡ lines_in (k + 1) (rebased r (65536 * upper)) ls
base_step k upper r ls lt = step k r (base_text upper) ls ∙ ap (by_record k r ls (λ q. lines_in (k + 1) q ls)) (base_again upper lt)

abbrev pub after : Reading → Cells → Reading
after r next = record { base = r.base; cells = next; count = r.count + 1 }

data_step : (k : ℕ) (r : Reading) (p : Segment) (next : Cells) (ls : List (List ℕ)) → r.base ≡ 65536 * (p.addr / 65536) → OneRecord p
    → with_data p.addr p.bytes r.cells ≡ Some next
    → lines_in k r (data_text (p.addr % 65536) p.bytes ∷ ls) ≡ lines_in (k + 1) (after r next) ls
data_step k r p next ls base h put =
    let few = h.few in
    let is : r.base + p.addr % 65536 ≡ p.addr = omega arith in
    step k r (data_text (p.addr % 65536) p.bytes) ls
    ∙ ap (by_record k r ls (λ q. lines_in (k + 1) q ls)) (data_again (p.addr % 65536) p.bytes h.all (omega arith) (omega arith) h.within)
    ∙ rw (is, put) refl

-- the lines of pieces give what the pieces give
pub read_pieces : (ps : List Segment) (k upper : ℕ) (r : Reading) (all : Cells) → AllByRecursion OneRecord ps → r.base ≡ 65536 * upper → Puts r.cells ps all
    → lines_in k r (lines_of_pieces upper ps) ≡ Ok (image_of all)
read_pieces [] k upper r all rise base put = step k r end_text [] ∙ ap (by_record k r [] (λ q. lines_in (k + 1) q [])) end_again
    ∙ ap (λ (c : Cells). Ok (image_of c)) put
read_pieces (p ∷ ps) k upper r all rise base put =
    let h = rise.0 in
    let low = h.low in
    let top = p.addr / 65536 in
    let ls = data_text (p.addr % 65536) p.bytes ∷ lines_of_pieces top ps in
    let rest : (j : ℕ) (q : Reading) → q.base ≡ 65536 * top → q.cells ≡ r.cells → lines_in j q ls ≡ Ok (image_of all)
    = λ j q is same. data_step j q p put.0 (lines_of_pieces top ps) is h (ap (with_data p.addr p.bytes) same ∙ put.1)
    ∙ read_pieces ps (j + 1) top (after q put.0) all rise.1 is put.2 in
    elim (cases_Bool (eqb top upper)) [
      | inl e ↦ ap (λ (t : Bool). lines_in k r (cond t [] (base_text top ∷ []) ++ ls)) e
          ∙ rest k r (base ∙ ap (λ (u : ℕ). 65536 * u) (sym (eqb-true top upper e))) refl
      | inr e ↦ ap (λ (t : Bool). lines_in k r (cond t [] (base_text top ∷ []) ++ ls)) e ∙ base_step k top r ls (omega arith)
          ∙ rest (k + 1) (rebased r (65536 * top)) refl refl
    ]

-- ---- the pieces of segments

-- a segment of an image whose bytes are bytes
pub record Sound (s : Segment) : Type 0 where
  pub some : 0 < length s.bytes
  pub all : Bytes s.bytes

bytes_take : (n : ℕ) (bytes : List ℕ) → Bytes bytes → Bytes (take n bytes)
bytes_take zero bytes h = tt
bytes_take (suc n) [] h = tt
bytes_take (suc n) (b ∷ bs) h = (h.0, bytes_take n bs h.1)

bytes_drop : (n : ℕ) (bytes : List ℕ) → Bytes bytes → Bytes (drop n bytes)
bytes_drop zero bytes h = h
bytes_drop (suc n) [] h = tt
bytes_drop (suc n) (b ∷ bs) h = bytes_drop n bs h.1

room_within : (a : ℕ) → a % 65536 + room_at a ≤ 65536
room_within a = grind (arith, nat_tests)

-- what a piece at an address has
a_piece : (a n : ℕ) (bytes : List ℕ) → 0 < length bytes → length bytes ≡ n → n ≤ room_at a → a < 4294967296 → Bytes bytes → OneRecord (segment a bytes)
a_piece a n bytes some is le low all =
    let few = room_few a in
    let within = room_within a in
    record { some = some; few = omega arith; within = omega arith; low = low; all = all }

order : (n m : ℕ) → (n ≤ m) ⊎ (m < n)
order n m = grind arith

-- the pieces of a segment rise as it does, and joined they are the segment
pub rises_piece : (n a p end : ℕ) (bytes : List ℕ) (rest : List Segment) → length bytes ≤ n → 0 < length bytes → p ≤ a → end ≤ 4294967296 → Bytes bytes
    → Rises OneRecord (a + length bytes) end rest → Rises OneRecord p end (pieces n a bytes ++ rest)
rises_piece zero a p end bytes rest le some from few all h = absurd (omega arith)
rises_piece (suc n) a p end bytes rest le some from few all h =
    let room = room_at a in
    let positive : 1 ≤ room_at a = room_some a in
    let last : a + length bytes ≤ end = rises_end OneRecord (a + length bytes) end rest h in
    let first = pieces_some n a bytes some in
    subst (λ (ps : List Segment). Rises OneRecord p end (ps ++ rest)) (sym first) (elim (order (length bytes) (room_at a)) [
      | inl short ↦
          let whole : take room bytes ≡ bytes = take_all room bytes short in
          let none : pieces n (a + room) (drop room bytes) ≡ [] = ap (pieces n (a + room)) (drop_all room bytes short) ∙ pieces_none n (a + room) in
          subst (λ (ps : List Segment). Rises OneRecord p end (segment a (take room bytes) ∷ ps ++ rest)) (sym none)
          (subst (λ (bs : List ℕ). Rises OneRecord p end (segment a bs ∷ rest)) (sym whole)
          (from, a_piece a (length bytes) bytes some refl short (omega arith) all, h))
      | inr long ↦
          let count : length (take room bytes) ≡ room_at a = length_taken room bytes (omega arith) in
          let left : length (drop room bytes) ≡ length bytes - room_at a = length-drop room bytes in
          let same : a + length bytes ≡ a + room_at a + length (drop room bytes) = omega arith in
          let later = subst (λ (k : ℕ). Rises OneRecord k end rest) same h in (
            from,
            a_piece a (room_at a) (take room bytes) (omega arith) count (omega arith) (omega arith) (bytes_take room bytes all),
            rises_piece n (a + room) (a + length (take room bytes)) end (drop room bytes) rest (omega arith) (omega arith) (omega arith) few
                (bytes_drop room bytes all) later,
          )
    ])

pub rises_pieces : (p end : ℕ) (ss : List Segment) → end ≤ 4294967296 → Rises Sound p end ss → Rises OneRecord p end (all_pieces ss)
rises_pieces p end [] few h = h
rises_pieces p end (s ∷ ss) few h =
    rises_piece (length s.bytes) s.addr p end s.bytes (all_pieces ss) (omega arith) h.1.some h.0 few h.1.all
    (rises_pieces (s.addr + length s.bytes) end ss few h.2)

pub joined_piece : (n a : ℕ) (bytes : List ℕ) (rest : List Segment) → length bytes ≤ n → 0 < length bytes
    → joined (pieces n a bytes ++ rest) ≡ joined_to (segment a bytes) (joined rest)
joined_piece zero a bytes rest le some = absurd (omega arith)
joined_piece (suc n) a bytes rest le some =
    let room = room_at a in
    let positive : 1 ≤ room_at a = room_some a in
    ap (λ (ps : List Segment). joined (ps ++ rest)) (pieces_some n a bytes some)
    ∙ (elim (order (length bytes) (room_at a)) [
      | inl short ↦
          ap (λ (ps : List Segment). joined_to (segment a (take room bytes)) (joined (ps ++ rest)))
          (ap (pieces n (a + room)) (drop_all room bytes short) ∙ pieces_none n (a + room))
          ∙ ap (λ (bs : List ℕ). joined_to (segment a bs) (joined rest)) (take_all room bytes short)
      | inr long ↦
          let count : length (take room bytes) ≡ room_at a = length_taken room bytes (omega arith) in
          let left : length (drop room bytes) ≡ length bytes - room_at a = length-drop room bytes in
          ap (joined_to (segment a (take room bytes))) (joined_piece n (a + room) (drop room bytes) rest (omega arith) (omega arith))
          ∙ fuse a (a + room) (take room bytes) (drop room bytes) (joined rest) (ap (λ (k : ℕ). a + k) (sym count))
          ∙ ap (λ (bs : List ℕ). joined_to (segment a bs) (joined rest)) (take-append-drop room bytes)
    ])

pub joined_pieces : (p end : ℕ) (ss : List Segment) → Rises Sound p end ss → joined (all_pieces ss) ≡ joined ss
joined_pieces p end [] h = refl
joined_pieces p end (s ∷ ss) h =
    joined_piece (length s.bytes) s.addr s.bytes (all_pieces ss) (omega arith) h.1.some ∙ ap (joined_to s) (joined_pieces (s.addr + length s.bytes) end ss h.2)

-- ---- flash and SRAM

-- an image as its segments in flash and those in SRAM
pub record Halves (p : ℕ) (image : List Segment) : Type 0 where
  pub flash : List Segment
  pub sram : List Segment
  pub whole : image ≡ flash ++ sram
  pub in_flash : Rises Sound p flash_size flash
  pub in_sram : Rises Sound sram_start (sram_start + sram_size) sram

abbrev Begins : ℕ → List Segment → Type 0
Begins p [] = Unit {0}
Begins p (s ∷ ss) = p ≤ s.addr

begins : (s : Segment) (ss : List Segment) → All (Before s) ss → Begins (s.addr + length s.bytes) ss
begins s [] h = tt
begins s (t ∷ ts) h = All-head (Before s) t ts h

sram_rises : (p : ℕ) (ss : List Segment) → sram_start ≤ p → p ≤ sram_start + sram_size → Begins p ss → IsImage ss → AreBytes ss
    → Rises Sound p (sram_start + sram_size) ss
sram_rises p [] low high begin image all = high
sram_rises p (s ∷ ss) low high begin image all =
    let some : 0 < length s.bytes = image.0.0 in
    elim image.0.1 [
      | inl flash ↦ absurd (omega arith)
      | inr sram ↦
          let end : s.addr + length s.bytes ≤ sram_start + sram_size = sram.1 in
          (begin, record { some = some; all = all.0 }, sram_rises (s.addr + length s.bytes) ss (omega arith) end (begins s ss image.1) image.2 all.1)
    ]

pub halves : (p : ℕ) (ss : List Segment) → p ≤ flash_size → Begins p ss → IsImage ss → AreBytes ss → Halves p ss
halves p [] high begin image all = record { flash = []; sram = []; whole = refl; in_flash = high; in_sram = omega arith }
halves p (s ∷ ss) high begin image all =
    let some : 0 < length s.bytes = image.0.0 in
    elim image.0.1 [
      | inl flash ↦
          let rest = halves (s.addr + length s.bytes) ss flash (begins s ss image.1) image.2 all.1 in
          record {
            flash = s ∷ rest.flash;
            sram = rest.sram;
            whole = ap (λ (xs : List Segment). s ∷ xs) rest.whole;
            in_flash = (begin, record { some = some; all = all.0 }, rest.in_flash);
            in_sram = rest.in_sram;
          }
      | inr sram ↦ record {
        flash = [];
        sram = s ∷ ss;
        whole = refl;
        in_flash = high;
        in_sram = sram_rises sram_start (s ∷ ss) (omega arith) (omega arith) sram.0 image all;
      }
    ]

pieces_append : (xs ys : List Segment) → all_pieces (xs ++ ys) ≡ all_pieces xs ++ all_pieces ys
pieces_append [] ys = refl
pieces_append (x ∷ xs) ys = ap (λ (ps : List Segment). pieces (length x.bytes) x.addr x.bytes ++ ps) (pieces_append xs ys)
    ∙ sym (append_assoc (pieces (length x.bytes) x.addr x.bytes) (all_pieces xs) (all_pieces ys))

-- a segment that ends in flash touches none of SRAM
apart : (s : Segment) (ts more : List Segment) → s.addr + length s.bytes ≤ flash_size → From sram_start more → joined_to s (ts ++ more) ≡ joined_to s ts ++ more
apart s [] [] end h = refl
apart s [] (t ∷ more) end h = rw (ne_eqb t.addr (s.addr + length s.bytes) (omega (arith, h.0))) refl
apart s (t ∷ ts) more end h = elim (cases_Bool (eqb t.addr (s.addr + length s.bytes))) [
  | inl e ↦ rw e refl
  | inr e ↦ rw e refl
]

joined_halves : (p : ℕ) (xs ys : List Segment) → Rises Sound p flash_size xs → From sram_start (joined ys) → joined (xs ++ ys) ≡ joined xs ++ joined ys
joined_halves p [] ys h more = refl
joined_halves p (x ∷ xs) ys h more =
    ap (joined_to x) (joined_halves (x.addr + length x.bytes) xs ys h.2 more)
    ∙ apart x (joined xs) (joined ys) (rises_end Sound (x.addr + length x.bytes) flash_size xs h.2) more

rises_all : (P : Segment → Type 0) (p end : ℕ) (ss : List Segment) → Rises P p end ss → AllByRecursion P ss
rises_all P p end [] h = tt
rises_all P p end (s ∷ ss) h = (h.1, rises_all P (s.addr + length s.bytes) end ss h.2)

-- cells of any size in which no byte is given
first_puts : (P : Segment → Type 0) (xs ys : List Segment) (start size : ℕ) → size ≡ start - sram_start → Rises P 0 flash_size xs → Rises P sram_start start ys
    → Puts (cells (no_cells flash_size) (no_cells size)) (xs ++ ys) (cells (spread 0 xs flash_size) (spread sram_start ys start))
first_puts P xs ys start size is flash sram =
    let end : flash_size - 0 ≡ flash_size = omega arith in
    let one = puts_flash P [] (no_cells size) 0 flash_size xs (omega arith) refl flash in
    let two = puts_sram P [] (spread 0 xs flash_size) sram_start start ys refl sram in
    puts_append (cells (no_cells flash_size) (no_cells size)) (cells (spread 0 xs flash_size) (no_cells size))
    (cells (spread 0 xs flash_size) (spread sram_start ys start)) xs ys
    one
    (subst (λ (n : ℕ). Puts (cells (spread 0 xs flash_size) (no_cells n)) ys (cells (spread 0 xs flash_size) (spread sram_start ys start))) (sym is) two)

some_of : (s : Segment) → OneRecord s → 0 < length s.bytes
some_of s h = h.some

read_halves : (image : List Segment) → Halves 0 image → hex_in (hex_file image) ≡ Ok (joined image)
read_halves image h =
    let xs = all_pieces h.flash in
    let ys = all_pieces h.sram in
    let end = sram_start + sram_size in
    let flash = rises_pieces 0 flash_size h.flash (omega arith) h.in_flash in
    let sram = rises_pieces sram_start end h.sram (omega arith) h.in_sram in
    let whole : all_pieces image ≡ xs ++ ys = ap all_pieces h.whole ∙ pieces_append h.flash h.sram in
    let put = first_puts OneRecord xs ys end sram_size (omega arith) flash sram in
    let runs_flash : runs 0 (spread 0 xs flash_size) ≡ joined h.flash = runs_spread OneRecord 0 flash_size xs some_of flash
    ∙ joined_pieces 0 flash_size h.flash h.in_flash in
    let runs_sram : runs sram_start (spread sram_start ys end) ≡ joined h.sram = runs_spread OneRecord sram_start end ys some_of sram
    ∙ joined_pieces sram_start end h.sram h.in_sram in
    let behind : From sram_start (joined h.sram) = subst (From sram_start) runs_sram (runs_from sram_start (spread sram_start ys end)) in
    ap (lines_in 1 first_reading) (shown_again (lines_of_pieces 0 (all_pieces image)) (lines_shown 0 (all_pieces image)))
    ∙ ap (λ (ps : List Segment). lines_in 1 first_reading (lines_of_pieces 0 ps)) whole
    ∙ read_pieces (xs ++ ys) 1 0 first_reading (cells (spread 0 xs flash_size) (spread sram_start ys end))
    (all_both OneRecord xs ys (rises_all OneRecord 0 flash_size xs flash) (rises_all OneRecord sram_start end ys sram)) refl put
    ∙ (λ i. Ok (runs_flash i ++ runs_sram i))
    ∙ ap (λ (ss : List Segment). Ok ss) (sym (joined_halves 0 h.flash h.sram h.in_flash behind) ∙ ap joined (sym h.whole))

-- THE IMAGE OF AN IMAGE'S FILE is the image, those segments that touch made one
pub read_back_is : (image : List Segment) → IsImage image → AreBytes image → hex_in (hex_file image) ≡ Ok (joined image)
read_back_is image is all = read_halves image (halves 0 image (omega arith) (first image) is all) where
  first : (ss : List Segment) → Begins 0 ss
  first [] = tt
  first (s ∷ ss) = omega arith

-- ---- the bytes of an image that code holds

pub bytes_from : (bytes : List ℕ) → ((k : ℕ) → k < length bytes → get_or bytes k 0 < 256) → Bytes bytes
bytes_from [] h = tt
bytes_from (b ∷ bs) h = (h 0 (omega arith), bytes_from bs (λ k lt. h (suc k) (omega arith)))

-- one more segment
pub bytes_below : (image : List Segment) (k : ℕ) (s : Segment) → segment_at image k ≡ s → Bytes s.bytes → ((j : ℕ) → j < k → Bytes (segment_at image j).bytes)
    → (j : ℕ) → j < k + 1 → Bytes (segment_at image j).bytes
bytes_below image k s is h below j lt = elim (order k j) [
  | inl e ↦ let same : j ≡ k = omega arith in subst (λ (n : ℕ). Bytes (segment_at image n).bytes) (sym same) (subst (λ (t : Segment). Bytes t.bytes) (sym is) h)
  | inr e ↦ below j e
]

pub are_bytes : (image : List Segment) (k : ℕ) → length image ≤ k → ((j : ℕ) → j < k → Bytes (segment_at image j).bytes) → AreBytes image
are_bytes [] k le h = tt
are_bytes (s ∷ ss) k le h = (h 0 (omega arith), are_bytes ss (k - 1) (omega arith) (λ j lt. h (suc j) (omega arith)))
