-- Codes that are added behind bytes, item by item and draw by draw.
use Rattle.std.proofs.Common.{◌≡◌, ℕ, zero, suc, ◌+◌, ◌<◌, ◌≤◌, length, List, [], ◌∷◌, ◌++◌, refl, sym, ap, ◌∙◌, subst, arith, take, get_or}
use Rattle.std.proofs.Common.{append-nil}
use Rattle.std.proofs.lemmas.Grind.{flat_map-append}
use Rattle.std.proofs.lemmas.List.{append_assoc, length-append, take_more}
use Rattle.std.specs.List.{flat_map}
use Rattle.std.specs.Prelude.{IfOk, Result, Ok, Err}
use Rattle.hm_base.specs.Draws.{draw, drawn}
use Rattle.hm_base.specs.Image.{Segment, flash_size, flat}
use Rattle.hm_base.specs.declared.errors.OutOfMemory.{OutOfMemory}
use Rattle.hm_isa.specs.declared.Instr.{Instr}
use Rattle.hm_isa.specs.Code.{halfwords}
use Rattle.hm_soak.specs.Adding.{AddsCodes}
use Rattle.hm_code_bytes.specs.Bytes.{all_halves, half_bytes, word_bytes}
use Rattle.hm_soak_laws.specs.Image.{IsItem, IsSoak, vectors}
use Rattle.hm_soak_laws.specs.Soak.{Bkpt, Item, code, fill, filled, handler, head, many, operation, operations}
use Rattle.hm_code_bytes.proofs.Bytes.{all_append, halves_append, length_halves}
use Rattle.hm_code_bytes.proofs.Made.{items_append}
use Rattle.hm_soak_laws.proofs.Whole.{size_is}

-- the vectors as words
abbrev pub vector_words : List ℕ
vector_words = 0x20010000 ∷ 0x45 ∷ 0 ∷ 0 ∷ 0 ∷ 0 ∷ 0 ∷ 0 ∷ 0 ∷ 0 ∷ 0 ∷ 0 ∷ 0 ∷ 0 ∷ 0 ∷ 0 ∷ 0x4083 ∷ []

pub words_all : (k : ℕ) (bytes : List ℕ) → k ≡ 17 → bytes ≡ flat_map word_bytes (take k vector_words) → bytes ≡ vectors
words_all k bytes e h = h ∙ ap (λ (n : ℕ). flat_map word_bytes (take n vector_words)) e

pub words_next : (ws : List ℕ) (i : ℕ) (bytes newer : List ℕ) → i < length ws → bytes ≡ flat_map word_bytes (take i ws)
    → newer ≡ bytes ++ word_bytes (get_or ws i 0)
    → newer ≡ flat_map word_bytes (take (i + 1) ws)
words_next ws i bytes newer l h e =
    e ∙ ap (λ (b : List ℕ). b ++ word_bytes (get_or ws i 0)) h
    ∙ ap (λ (b : List ℕ). flat_map word_bytes (take i ws) ++ b) (sym (append-nil (word_bytes (get_or ws i 0))))
    ∙ sym (flat_map-append word_bytes (take i ws) (get_or ws i 0 ∷ [])) ∙ ap (flat_map word_bytes) (sym (take_more ws i 0 l))

-- WHAT IS ADDED
pub adds_none : (old : List ℕ) → AddsCodes [] old old
adds_none old = record { instrs = []; items = tt; is = sym (append-nil old) }

pub adds_one : (x : Item) (i : Instr) (old new : List ℕ) → IsItem x i → new ≡ old ++ half_bytes (halfwords i) → AddsCodes (x ∷ []) old new
adds_one x i old new h e = record { instrs = i ∷ []; items = (h, tt); is = e ∙ ap (λ (hs : List ℕ). old ++ half_bytes hs) (sym (append-nil (halfwords i))) }

pub adds_more : (xs ys : List Item) (a b c : List ℕ) → AddsCodes xs a b → AddsCodes ys b c → AddsCodes (xs ++ ys) a c
adds_more xs ys a b c h k = record {
  instrs = h.instrs ++ k.instrs;
  items = items_append IsItem xs ys h.instrs k.instrs h.items k.items;
  is =
      let hs = all_halves h.instrs in
      let ks = all_halves k.instrs in
      k.is ∙ ap (λ (bs : List ℕ). bs ++ half_bytes ks) h.is ∙ append_assoc a (half_bytes hs) (half_bytes ks)
      ∙ ap (λ (bs : List ℕ). a ++ bs) (sym (halves_append hs ks)) ∙ ap (λ (ls : List ℕ). a ++ half_bytes ls) (sym (all_append h.instrs k.instrs));
}

pub adds_next : (xs : List Item) (x : Item) (i : Instr) (a b c : List ℕ) → AddsCodes xs a b → IsItem x i → c ≡ b ++ half_bytes (halfwords i)
    → AddsCodes (xs ++ (x ∷ [])) a c
adds_next xs x i a b c h is e = adds_more xs (x ∷ []) a b c h (adds_one x i b c is e)

-- the last of them, by a call that may find no memory
pub adds_last : (xs : List Item) (x : Item) (i : Instr) (a b c : List ℕ) (r : Result (Unit {0}) OutOfMemory) → AddsCodes xs a b → IsItem x i
    → IfOk r (λ u. c ≡ b ++ half_bytes (halfwords i))
    → IfOk r (λ u. AddsCodes (xs ++ (x ∷ [])) a c)
adds_last xs x i a b c (Ok u) h is e = adds_next xs x i a b c h is e
adds_last xs x i a b c (Err e) h is none = tt

-- DRAWS at the end of a list
pub drawn_more : (n x : ℕ) → drawn (suc n) x ≡ draw (drawn n x)
drawn_more zero x = refl
drawn_more (suc n) x = drawn_more n (draw x)

fill_more : (n j x : ℕ) → fill (suc n) j x ≡ fill n j x ++ filled (j + n) (draw (drawn n x))
unfolding fill
fill_more zero j x = let e : j ≡ j + 0 = omega arith in ap (λ (k : ℕ). filled k (draw x)) e
fill_more (suc n) j x =
    let e : j + 1 + n ≡ j + suc n = omega arith in
    ap (λ (l : List Item). filled j (draw x) ++ l)
    (fill_more n (j + 1) (draw x) ∙ ap (λ (k : ℕ). fill n (j + 1) (draw x) ++ filled k (draw (drawn n (draw x)))) e)

operations_more : (n k x : ℕ) → operations (suc n) k x ≡ operations n k x ++ (operation (k + n) (draw (drawn n x)) ∷ [])
unfolding operations
operations_more zero k x = let e : k ≡ k + 0 = omega arith in ap (λ (l : ℕ). operation l (draw x) ∷ []) e
operations_more (suc n) k x =
    let e : k + 1 + n ≡ k + suc n = omega arith in
    ap (λ (l : List Item). operation k (draw x) ∷ l)
    (operations_more n (k + 1) (draw x) ∙ ap (λ (m : ℕ). operations n (k + 1) (draw x) ++ (operation m (draw (drawn n (draw x))) ∷ [])) e)

operations_none : (k x : ℕ) → operations 0 k x ≡ []
unfolding operations
operations_none k x = refl

-- the first so many registers, and the first so many operations
pub record Fills (number : ℕ) (old : List ℕ) (n x : ℕ) (new : List ℕ) : Type 0 where
  pub last : x ≡ drawn n number
  pub codes : AddsCodes (fill n 0 number) old new

fill_none : (j x : ℕ) → fill 0 j x ≡ []
unfolding fill
fill_none j x = refl

pub fills_none : (number : ℕ) (old : List ℕ) → Fills number old 0 number old
fills_none number old = record { last = refl; codes = subst (λ (l : List Item). AddsCodes l old old) (sym (fill_none 0 number)) (adds_none old) }

pub fills_next : (number : ℕ) (old : List ℕ) (n x y : ℕ) (new newer : List ℕ) → Fills number old n x new → y ≡ draw x → AddsCodes (filled n y) new newer
    → Fills number old (n + 1) y newer
fills_next number old n x y new newer h e k =
    let s : suc n ≡ n + 1 = omega arith in
    let drew : y ≡ draw (drawn n number) = e ∙ ap draw h.last in
    let z : n ≡ 0 + n = omega arith in
    let here : AddsCodes (filled (0 + n) (draw (drawn n number))) new newer =
    subst (λ (j : ℕ). AddsCodes (filled j (draw (drawn n number))) new newer) z (subst (λ (v : ℕ). AddsCodes (filled n v) new newer) drew k) in
    subst (λ (m : ℕ). Fills number old m y newer) s (record {
      last = drew ∙ sym (drawn_more n number);
      codes = subst (λ (l : List Item). AddsCodes l old newer) (sym (fill_more n 0 number))
          (adds_more (fill n 0 number) (filled (0 + n) (draw (drawn n number))) old new newer h.codes here);
    })

pub record Operates (first : ℕ) (old : List ℕ) (n x : ℕ) (new : List ℕ) : Type 0 where
  pub last : x ≡ drawn n first
  pub codes : AddsCodes (operations n 0 first) old new

pub operates_none : (first : ℕ) (old : List ℕ) → Operates first old 0 first old
operates_none first old = record { last = refl; codes = subst (λ (l : List Item). AddsCodes l old old) (sym (operations_none 0 first)) (adds_none old) }

pub operates_next : (first : ℕ) (old : List ℕ) (n x y : ℕ) (i : Instr) (new newer : List ℕ) → Operates first old n x new → y ≡ draw x → IsItem (operation n y) i
    → newer ≡ new ++ half_bytes (halfwords i)
    → Operates first old (n + 1) y newer
operates_next first old n x y i new newer h e is k =
    let s : suc n ≡ n + 1 = omega arith in
    let drew : y ≡ draw (drawn n first) = e ∙ ap draw h.last in
    let z : n ≡ 0 + n = omega arith in
    let item : IsItem (operation (0 + n) (draw (drawn n first))) i =
    subst (λ (j : ℕ). IsItem (operation j (draw (drawn n first))) i) z (subst (λ (v : ℕ). IsItem (operation n v) i) drew is) in
    let here = adds_one (operation (0 + n) (draw (drawn n first))) i new newer item k in
    subst (λ (m : ℕ). Operates first old m y newer) s (record {
      last = drew ∙ sym (drawn_more n first);
      codes = subst (λ (l : List Item). AddsCodes l old newer) (sym (operations_more n 0 first))
          (adds_more (operations n 0 first) (operation (0 + n) (draw (drawn n first)) ∷ []) old new newer h.codes here);
    })

-- THE WHOLE
pub adds_all : (number : ℕ) (a b c d e : List ℕ) → AddsCodes head a b → AddsCodes (fill 4 0 number) b c → AddsCodes (operations many 0 (drawn 4 number)) c d
    → AddsCodes (Bkpt 0 ∷ handler) d e
    → AddsCodes (code number) a e
unfolding code
adds_all number a b c d e h f o t =
    let middle = adds_more (fill 4 0 number) (operations many 0 (drawn 4 number)) b c d f o in
    let back = adds_more (fill 4 0 number ++ operations many 0 (drawn 4 number)) (Bkpt 0 ∷ handler) b d e middle t in
    adds_more head ((fill 4 0 number ++ operations many 0 (drawn 4 number)) ++ (Bkpt 0 ∷ handler)) a b e h back

-- by a last call that may find no memory
pub all_added : (number last : ℕ) (a b c d e : List ℕ) (r : Result (Unit {0}) OutOfMemory) → AddsCodes head a b → AddsCodes (fill 4 0 number) b c
    → last ≡ drawn 4 number
    → AddsCodes (operations many 0 last) c d → IfOk r (λ u. AddsCodes (Bkpt 0 ∷ handler) d e) → IfOk r (λ u. AddsCodes (code number) a e)
all_added number last a b c d e (Ok u) h f l o t = adds_all number a b c d e h f (subst (λ (x : ℕ). AddsCodes (operations many 0 x) c d) l o) t
all_added number last a b c d e (Err x) h f l o none = tt

-- the bytes fit flash
pub fits_flash : (number : ℕ) (new : List ℕ) → AddsCodes (code number) vectors new → (0 < length new) × (length new ≤ flash_size)
unfolding code
fits_flash number new h =
    let few = size_is many number (drawn 4 number) h.instrs h.items in
    let twice = length_halves (all_halves h.instrs) in
    let sum = ap length h.is ∙ length-append vectors (half_bytes (all_halves h.instrs)) in
    (omega arith, omega arith)

pub is_soak : (number : ℕ) (new : List ℕ) (image : List Segment) → AddsCodes (code number) vectors new → image ≡ flat new → IsSoak number image
is_soak number new image h e = record { instrs = h.instrs; items = h.items; is = e ∙ ap flat h.is }

pub soak_ok : (number : ℕ) (new : List ℕ) (r : Result (List Segment) OutOfMemory) → AddsCodes (code number) vectors new → IfOk r (λ image. image ≡ flat new)
    → IfOk r (λ image. IsSoak number image)
soak_ok number new (Ok image) h e = is_soak number new image h e
soak_ok number new (Err x) h e = tt
