-- An image that is being made stays one.
use Rattle.std.proofs.Common.{◌≡◌, ◌⊎◌, ℕ, ◌+◌, ◌^◌, ◌<◌, ◌≤◌, List, [], ◌∷◌, ◌++◌, length, replicate, All, Result, Ok, Err, refl, sym, subst, inl, inr, arith}
use Rattle.std.specs.Prelude.{IfOk, OnErr}
use Rattle.std.proofs.lemmas.List.{append-nil, length-append, length-replicate}
use Rattle.std.proofs.lemmas.List.Elements.{All-append, All-cons, All-nil, All-weaker}
use Rattle.hm_base.specs.Image.{Before, IsImage, IsPlaced, Segment, segment, with_segment}
use Rattle.hm_base.proofs.Images.{IsImage-with_segment, with_segment-behind}
use Rattle.hm_text_tables.proofs.Once.{some_or_none}
use Rattle.hm_source.specs.Places.{HasRoom}
use Rattle.hm_source.proofs.Rooms.{room_after_some}
use Rattle.hm_asm.specs.Making.{IsMade}
use Rattle.hm_asm.specs.Segments.{with_piece}

-- ROOM for bytes in two parts
room_more : (a n m : ℕ) → HasRoom a n → HasRoom (a + n) m → HasRoom a (n + m)
room_more a n m h k = elim (some_or_none n) [
  | inl e ↦
      (let start : a + n ≡ a = omega (arith, e) in
      let count : m ≡ n + m = omega (arith, e) in
      subst (λ (x : ℕ). HasRoom a x) count (subst (λ (x : ℕ). HasRoom x m) start k))
  | inr s ↦ room_after_some a n m s h k
]

low_end : (a n : ℕ) → HasRoom a n → a < 2 ^ 32 → a + n < 2 ^ 32
low_end a n (inl e) l = omega (arith, e, l)
low_end a n (inr (inl f)) l = omega (arith, f)
low_end a n (inr (inr s)) l = let t = s.1 in omega (arith, t)

-- BYTES that have room at the place
made_more : (ss : List Segment) (a : ℕ) (bs more : List ℕ) → IsMade (record { whole = ss; start = a; bytes = bs }) → HasRoom (a + length bs) (length more)
    → IsMade (record { whole = ss; start = a; bytes = bs ++ more })
made_more ss a bs more made room =
    let lengths = length-append bs more in
    let end = low_end (a + length bs) (length more) room made.place in
    record {
      image = made.image;
      behind = made.behind;
      room = subst (λ (n : ℕ). HasRoom a n) (sym lengths) (room_more a (length bs) (length more) made.room room);
      place = omega (arith, lengths, end);
    }

-- and no bytes where memory was wanted
pub made_zeros : {A E : Type 0} (r : Result A E) (ss : List Segment) (a n : ℕ) (bs out : List ℕ) → IsMade (record { whole = ss; start = a; bytes = bs })
    → HasRoom (a + length bs) n
    → IfOk r (λ _. out ≡ bs ++ replicate n 0) → OnErr r (out ≡ bs) → IsMade (record { whole = ss; start = a; bytes = out })
made_zeros (Err e) ss a n bs out made room added kept = subst (λ (x : List ℕ). IsMade (record { whole = ss; start = a; bytes = x })) (sym kept) made
made_zeros (Ok x) ss a n bs out made room added kept =
    subst (λ (x : List ℕ). IsMade (record { whole = ss; start = a; bytes = x })) (sym added)
    (made_more ss a bs (replicate n 0) made (subst (λ (x : ℕ). HasRoom (a + length bs) x) (sym (length-replicate n 0)) room))

-- A SEGMENT that is put behind the others
pub put_behind : (ss : List Segment) (a : ℕ) (bs : List ℕ) → (length bs ≡ 0 → ⊥) → All (λ s. Before s (segment a bs)) ss
    → with_segment (segment a bs) ss ≡ ss ++ with_piece a bs []
put_behind ss a [] some behind = absurd (some refl)
put_behind ss a (b ∷ bs) some behind = with_segment-behind (segment a (b ∷ bs)) ss behind

pub room_placed : (a : ℕ) (bs : List ℕ) → 0 < length bs → HasRoom a (length bs) → IsPlaced (segment a bs)
room_placed a bs some (inl e) = absurd (omega (arith, some, e))
room_placed a bs some (inr (inl f)) = (some, inl f)
room_placed a bs some (inr (inr s)) = (some, inr s)

image_behind : (ss : List Segment) (a : ℕ) (bs : List ℕ) → IsImage ss → All (λ s. Before s (segment a bs)) ss → HasRoom a (length bs)
    → IsImage (ss ++ with_piece a bs [])
image_behind ss a [] image behind room = subst (λ (x : List Segment). IsImage x) (sym (append-nil ss)) image
image_behind ss a (b ∷ bs) image behind room =
    subst (λ (x : List Segment). IsImage x) (with_segment-behind (segment a (b ∷ bs)) ss behind)
    (IsImage-with_segment (segment a (b ∷ bs)) ss (room_placed a (b ∷ bs) (omega arith) room)
    (All-weaker (λ s. Before s (segment a (b ∷ bs))) (λ s. Before (segment a (b ∷ bs)) s ⊎ Before s (segment a (b ∷ bs))) (λ s h. inr h) ss behind) image)

all_behind : (ss : List Segment) (a : ℕ) (bs : List ℕ) (at : ℕ) → All (λ s. Before s (segment a bs)) ss → a + length bs ≤ at
    → All (λ s. Before s (segment at [])) (ss ++ with_piece a bs [])
all_behind ss a [] at behind l =
    All-append (λ s. Before s (segment at [])) ss []
    (All-weaker (λ s. Before s (segment a [])) (λ s. Before s (segment at [])) (λ s h. omega (arith, h, l)) ss behind)
    (All-nil (λ s. Before s (segment at [])))
all_behind ss a (b ∷ bs) at behind l =
    All-append (λ s. Before s (segment at [])) ss (segment a (b ∷ bs) ∷ [])
    (All-weaker (λ s. Before s (segment a (b ∷ bs))) (λ s. Before s (segment at [])) (λ s h. omega (arith, h, l)) ss behind)
    (All-cons (λ s. Before s (segment at [])) (segment a (b ∷ bs)) [] l (All-nil (λ s. Before s (segment at []))))

-- going on at an address
pub made_moved : (ss : List Segment) (a : ℕ) (bs : List ℕ) (at : ℕ) → IsMade (record { whole = ss; start = a; bytes = bs }) → a + length bs ≤ at → at < 2 ^ 32
    → IsMade (record { whole = ss ++ with_piece a bs []; start = at; bytes = [] })
made_moved ss a bs at made l low = record {
  image = image_behind ss a bs made.image made.behind made.room;
  behind = all_behind ss a bs at made.behind l;
  room = inl refl;
  place = omega (arith, low);
}
