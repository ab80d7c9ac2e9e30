-- The pieces of segments, and their lines.
use Rattle.std.proofs.Common.{◌≡◌, ℕ, zero, suc, ◌+◌, ◌-◌, ◌/◌, ◌%◌, ◌<◌, ◌≤◌, List, [], ◌∷◌, ◌++◌, append_assoc, drop, drop-drop, length, length-drop, take}
use Rattle.std.proofs.Common.{refl, sym, ap, ◌∙◌, arith, inl, inr, ◌⊎◌}
use Rattle.std.specs.List.{flat_map}
use Rattle.std.proofs.lemmas.Bool.Decides.{nat_tests}
use Rattle.std.proofs.lemmas.List.{drop_all, take_all}
use Rattle.hm_base.specs.Image.{Segment, segment, segment_at}
use Rattle.hm_text_base.specs.Spans.{line}
use Rattle.hm_ihex.specs.Written.{all_pieces, base_lines, data_text, lines_of_pieces, pieces, room_at, text_of}

pub room_some : (a : ℕ) → 1 ≤ room_at a
room_some a = grind (arith, nat_tests)

pub room_few : (a : ℕ) → room_at a ≤ 16
room_few a = grind (arith, nat_tests)

pub pieces_none : (n a : ℕ) → pieces n a [] ≡ []
unfolding pieces
pieces_none zero a = refl
pieces_none (suc n) a = refl

pub pieces_some : (n a : ℕ) (bytes : List ℕ) → 0 < length bytes
    → pieces (suc n) a bytes ≡ segment a (take (room_at a) bytes) ∷ pieces n (a + room_at a) (drop (room_at a) bytes)
unfolding pieces
pieces_some n a [] some = absurd (omega arith)
pieces_some n a (b ∷ bs) some = refl

-- so many are enough
pieces_enough : (n m a : ℕ) (bytes : List ℕ) → length bytes ≤ n → length bytes ≤ m → pieces n a bytes ≡ pieces m a bytes
pieces_enough n m a [] le me = pieces_none n a ∙ sym (pieces_none m a)
pieces_enough zero m a (b ∷ bs) le me = absurd (omega arith)
pieces_enough (suc n) zero a (b ∷ bs) le me = absurd (omega arith)
pieces_enough (suc n) (suc m) a (b ∷ bs) le me =
    let some = room_some a in
    let left : length (drop (room_at a) (b ∷ bs)) ≡ length (b ∷ bs) - room_at a = length-drop (room_at a) (b ∷ bs) in
    pieces_some n a (b ∷ bs) (omega arith)
    ∙ ap (λ (ps : List Segment). segment a (take (room_at a) (b ∷ bs)) ∷ ps)
    (pieces_enough n m (a + room_at a) (drop (room_at a) (b ∷ bs)) (omega arith) (omega arith))
    ∙ sym (pieces_some m a (b ∷ bs) (omega arith))

-- the piece at a byte, and those behind it
pub record PieceAt (addr at end : ℕ) (bytes : List ℕ) : Type 0 where
  pub first : pieces (length bytes - at) (addr + at) (drop at bytes)
      ≡ segment (addr + at) (take (end - at) (drop at bytes)) ∷ pieces (length bytes - end) (addr + end) (drop end bytes)

take_long : (n m : ℕ) (xs : List ℕ) → length xs ≤ n → length xs ≤ m → take n xs ≡ take m xs
take_long n m xs le me = take_all n xs le ∙ sym (take_all m xs me)

pub piece_at : (addr at end : ℕ) (bytes : List ℕ) → at < length bytes
    → ((at + room_at (addr + at) ≤ length bytes) × (end ≡ at + room_at (addr + at))) ⊎ ((length bytes < at + room_at (addr + at)) × (end ≡ length bytes))
    → PieceAt addr at end bytes
piece_at addr at end bytes lt (inl h) =
    let room = room_at (addr + at) in
    let some : 1 ≤ room = room_some (addr + at) in
    let left : length (drop at bytes) ≡ length bytes - at = length-drop at bytes in
    let rest : length (drop end bytes) ≡ length bytes - end = length-drop end bytes in
    let fuel : length bytes - at ≡ suc (length bytes - at - 1) = omega arith in
    let count : end - at ≡ room = omega (arith, h.1) in
    let next : addr + at + room ≡ addr + end = omega (arith, h.1) in
    let behind : drop room (drop at bytes) ≡ drop end bytes = drop-drop room at bytes ∙ ap (λ (k : ℕ). drop k bytes) (sym h.1) in
    record {
      first = ap (λ (n : ℕ). pieces n (addr + at) (drop at bytes)) fuel ∙ pieces_some (length bytes - at - 1) (addr + at) (drop at bytes) (omega arith)
          ∙ (λ i. segment (addr + at) (take (sym count i) (drop at bytes)) ∷ pieces (length bytes - at - 1) (next i) (behind i))
          ∙ ap (λ (ps : List Segment). segment (addr + at) (take (end - at) (drop at bytes)) ∷ ps)
          (pieces_enough (length bytes - at - 1) (length bytes - end) (addr + end) (drop end bytes) (omega (arith, h.0, h.1)) (omega arith));
    }
piece_at addr at end bytes lt (inr h) =
    let room = room_at (addr + at) in
    let left : length (drop at bytes) ≡ length bytes - at = length-drop at bytes in
    let fuel : length bytes - at ≡ suc (length bytes - at - 1) = omega arith in
    let short : length bytes < at + room = h.0 in
    let last : end ≡ length bytes = h.1 in
    let behind : drop room (drop at bytes) ≡ [] = drop_all room (drop at bytes) (omega arith) in
    let none : drop end bytes ≡ [] = drop_all end bytes (omega arith) in
    record {
      first = ap (λ (n : ℕ). pieces n (addr + at) (drop at bytes)) fuel ∙ pieces_some (length bytes - at - 1) (addr + at) (drop at bytes) (omega arith)
          ∙ (λ i. segment (addr + at) (take_long room (end - at) (drop at bytes) (omega arith) (omega arith) i)
          ∷ pieces (length bytes - at - 1) (addr + at + room) (behind i))
          ∙ ap (λ (ps : List Segment). segment (addr + at) (take (end - at) (drop at bytes)) ∷ ps)
          (pieces_none (length bytes - at - 1) (addr + at + room)
          ∙ sym (ap (pieces (length bytes - end) (addr + end)) none ∙ pieces_none (length bytes - end) (addr + end)));
    }

flat_append : (xs ys : List (List ℕ)) → flat_map line (xs ++ ys) ≡ flat_map line xs ++ flat_map line ys
flat_append [] ys = refl
flat_append (x ∷ xs) ys = ap (λ (t : List ℕ). line x ++ t) (flat_append xs ys) ∙ sym (append_assoc (line x) (flat_map line xs) (flat_map line ys))

-- the lines of a piece in front of the others
pub piece_lines : (upper : ℕ) (p : Segment) (ps : List Segment)
    → text_of upper (p ∷ ps) ≡ flat_map line (base_lines upper p.addr) ++ (line (data_text (p.addr % 65536) p.bytes) ++ text_of (p.addr / 65536) ps)
piece_lines upper p ps = flat_append (base_lines upper p.addr) (data_text (p.addr % 65536) p.bytes ∷ lines_of_pieces (p.addr / 65536) ps)

-- the lines of a piece that were added behind a text
pub on_piece : (old mid new : List ℕ) (upper start : ℕ) (bytes : List ℕ) (qs ps rest : List Segment) (all : List ℕ)
    → mid ≡ old ++ flat_map line (base_lines upper start) → new ≡ mid ++ line (data_text (start % 65536) bytes)
    → qs ≡ segment start bytes ∷ ps → old ++ text_of upper (qs ++ rest) ≡ all → new ++ text_of (start / 65536) (ps ++ rest) ≡ all
on_piece old mid new upper start bytes qs ps rest all base more first whole =
    let b = flat_map line (base_lines upper start) in
    let d = line (data_text (start % 65536) bytes) in
    let t = text_of (start / 65536) (ps ++ rest) in
    ap (λ (x : List ℕ). x ++ t) (more ∙ ap (λ (x : List ℕ). x ++ d) base) ∙ append_assoc (old ++ b) d t ∙ append_assoc old b (d ++ t)
    ∙ ap (λ (x : List ℕ). old ++ x) (sym (piece_lines upper (segment start bytes) (ps ++ rest)))
    ∙ ap (λ (xs : List Segment). old ++ text_of upper (xs ++ rest)) (sym first) ∙ whole

-- no piece is left
pub no_piece : (out : List ℕ) (upper n addr at : ℕ) (bytes : List ℕ) (rest : List Segment) (all : List ℕ) → length bytes ≤ at
    → out ++ text_of upper (pieces n (addr + at) (drop at bytes) ++ rest) ≡ all → out ++ text_of upper rest ≡ all
no_piece out upper n addr at bytes rest all le whole =
    ap (λ (ps : List Segment). out ++ text_of upper (ps ++ rest)) (sym (ap (pieces n (addr + at)) (drop_all at bytes le) ∙ pieces_none n (addr + at))) ∙ whole

-- the pieces of the segments from number k on
pub segments_more : (image : List Segment) (k : ℕ) (s : Segment) → k < length image → segment_at image k ≡ s
    → all_pieces (drop k image) ≡ pieces (length s.bytes) s.addr s.bytes ++ all_pieces (drop (k + 1) image)
segments_more [] k s lt is = absurd (omega arith)
segments_more (x ∷ xs) zero s lt is = ap (λ (y : Segment). pieces (length y.bytes) y.addr y.bytes ++ all_pieces xs) is
segments_more (x ∷ xs) (suc k) s lt is =
    segments_more xs k s (omega arith) is
    ∙ ap (λ (j : ℕ). pieces (length s.bytes) s.addr s.bytes ++ all_pieces (drop j (x ∷ xs))) (let e : suc (k + 1) ≡ suc k + 1 = omega arith in e)

pub segments_done : (image : List Segment) (k : ℕ) → length image ≤ k → all_pieces (drop k image) ≡ []
segments_done image k le = ap all_pieces (drop_all k image le)
