-- What a beat that loads fills words with, by what stands in a state.
use Rattle.std.proofs.Common.{◌≡◌, ℕ, zero, suc, ◌+◌, ◌%◌, ◌^◌, ◌<◌, false, List, [], ◌∷◌, ◌++◌, drop, get_or, length, map, refl, ◌∙◌, ap}
use Rattle.std.proofs.Common.{subst, arith}
use Rattle.std.proofs.lemmas.List.{get_or-map}
use Rattle.hm_base.specs.declared.Place.{Place}
use Rattle.hm_base.specs.declared.Place.TheVariants.{R, QWord}
use Rattle.hm_regs.specs.Writes.{write}
use Rattle.hm_lane.specs.declared.lanes.Size.{Size}
use Rattle.hm_lane.specs.declared.lanes.Size.TheVariants as size
use Rattle.hm_state.specs.State.{At, Byte, Cell, State, Value, at, into, same_cell}
use Rattle.hm_beat.specs.Touches.{span_bytes}
use Rattle.hm_beat.proofs.Chained.{Off}
use Rattle.hm_kinds.specs.Row.{numbers}
use Rattle.hm_moves.specs.declared.elements.Element.{Element}
use Rattle.hm_moves.specs.Coded.{laid_all}
use Rattle.hm_moves.specs.Moves.{Moves, bytes_of_elements, as_loaded, filled, laid, little_endian, byte_count, words_from}
use Rattle.hm_moves.specs.Ways.{each_from}
use Rattle.hm_moves.specs.Wholes.{read_at}

-- WHAT IS READ
-- words from number j on, each from what stands there
abbrev pub laid_words : Size → ℕ → List Element → (ℕ → ℕ) → State → List Place → List (Cell × Value)
laid_words z j es v u [] = []
laid_words z j es v u (p ∷ ps) = into (write p (laid_all z j es v (at p u % 2 ^ 32))) ∷ laid_words z (j + 1) es v u ps

split_read : (u : State) (bs rest : List ℕ) (cs : List Cell)
    → numbers (map u.cell (map Byte (bs ++ rest) ++ cs)) ≡ numbers (map u.cell (map Byte bs)) ++ numbers (map u.cell (map Byte rest ++ cs))
split_read u [] rest cs = refl
split_read u (b ∷ bs) rest cs = ap (λ xs. (u.cell (Byte b)).n ∷ xs) (split_read u bs rest cs)

number_first : (y : Size) (u : State) (a : ℕ) (xs : List ℕ)
    → little_endian (byte_count y) (numbers (map u.cell (map Byte (span_bytes a (byte_count y)))) ++ xs) ≡ read_at y u a
number_first size.Byte u a xs = refl
number_first size.Half u a xs = refl
number_first size.Word u a xs = refl

drop_first : (y : Size) (u : State) (a : ℕ) (xs : List ℕ) → drop (byte_count y) (numbers (map u.cell (map Byte (span_bytes a (byte_count y)))) ++ xs) ≡ xs
drop_first size.Byte u a xs = refl
drop_first size.Half u a xs = refl
drop_first size.Word u a xs = refl

-- what a beat fills a word with, by what stands in the bytes and in the word
pub filled_got : (i : Moves) (j : ℕ) (es : List Element) (u : State) (cs : List Cell)
    → filled i j es (numbers (map u.cell (map Byte (bytes_of_elements i.memory es) ++ cs)))
    ≡ laid_all i.register j es (λ a. as_loaded i (read_at i.memory u a)) (get_or (numbers (map u.cell cs)) j 0 % 2 ^ 32)
filled_got i j [] u cs = refl
filled_got i j (e ∷ es) u cs =
    let y = i.memory in
    let bs = span_bytes e.addr (byte_count y) in
    let xs = numbers (map u.cell (map Byte (bytes_of_elements y es) ++ cs)) in
    (λ t. laid i j e (little_endian (byte_count y) (split_read u bs (bytes_of_elements y es) cs t))
    (filled i j es (drop (byte_count y) (split_read u bs (bytes_of_elements y es) cs t))))
    ∙ (λ t. laid i j e (number_first y u e.addr xs t) (filled i j es (drop_first y u e.addr xs t)))
    ∙ ap (laid i j e (read_at y u e.addr)) (filled_got i j es u cs)

stand : (u : State) (ps : List Place) → numbers (map u.cell (map At ps)) ≡ map (λ p. at p u) ps
stand u [] = refl
stand u (p ∷ ps) = ap (λ xs. at p u ∷ xs) (stand u ps)

stands : (u : State) (ps : List Place) (k : ℕ) → k < length ps → get_or (numbers (map u.cell (map At ps))) k 0 ≡ at (get_or ps k (R 0)) u
stands u ps k low = ap (λ xs. get_or xs k 0) (stand u ps) ∙ get_or-map (λ p. at p u) ps k (R 0) 0 low

words_laid : (i : Moves) (j : ℕ) (es : List Element) (u : State) (cs : List Cell) (ps : List Place)
    → ((k : ℕ) → k < length ps → get_or (numbers (map u.cell cs)) (j + k) 0 ≡ at (get_or ps k (R 0)) u)
    → words_from i j es (numbers (map u.cell (map Byte (bytes_of_elements i.memory es) ++ cs))) ps
    ≡ laid_words i.register j es (λ a. as_loaded i (read_at i.memory u a)) u ps
words_laid i j es u cs [] h = refl
words_laid i j es u cs (p ∷ ps) h =
    let old : get_or (numbers (map u.cell cs)) j 0 ≡ at p u =
    subst (λ (k : ℕ). get_or (numbers (map u.cell cs)) k 0 ≡ at p u) (omega arith) (h 0 (omega arith)) in
    let lay : ℕ → ℕ = λ x. laid_all i.register j es (λ a. as_loaded i (read_at i.memory u a)) (x % 2 ^ 32) in
    λ t. into (write p ((filled_got i j es u cs ∙ ap lay old) t)) ∷ words_laid i (j + 1) es u cs ps next t
  where
    next : (k : ℕ) → k < length ps → get_or (numbers (map u.cell cs)) (j + 1 + k) 0 ≡ at (get_or ps k (R 0)) u
    next k low = subst (λ (m : ℕ). get_or (numbers (map u.cell cs)) m 0 ≡ at (get_or ps k (R 0)) u) (omega arith) (h (suc k) (omega arith))

-- the words of a beat that reads them
pub words_got : (i : Moves) (es : List Element) (u : State) (ps : List Place)
    → words_from i 0 es (numbers (map u.cell (map Byte (bytes_of_elements i.memory es) ++ map At ps))) ps
    ≡ laid_words i.register 0 es (λ a. as_loaded i (read_at i.memory u a)) u ps
words_got i es u ps =
    words_laid i 0 es u (map At ps) ps
    (λ k low. subst (λ (m : ℕ). get_or (numbers (map u.cell (map At ps))) m 0 ≡ at (get_or ps k (R 0)) u) (omega arith) (stands u ps k low))

-- the same bytes are read alike
pub same_got : (y : Size) (s u : State) → ((a : ℕ) → u.cell (Byte a) ≡ s.cell (Byte a)) → (a : ℕ) → read_at y u a ≡ read_at y s a
same_got y s u h a = ap (little_endian (byte_count y)) (same_read (span_bytes a (byte_count y)))
  where
    same_read : (bs : List ℕ) → numbers (map u.cell (map Byte bs)) ≡ numbers (map s.cell (map Byte bs))
    same_read [] = refl
    same_read (b ∷ bs) = λ t. (h b t).n ∷ same_read bs t

-- words are filled, and no other cell
pub off_laid : (z : Size) (j : ℕ) (es : List Element) (v : ℕ → ℕ) (u : State) (f : ℕ → ℕ) (k m : ℕ) (c : Cell) → ((q : ℕ) → same_cell (At (QWord q)) c ≡ false)
    → Off c (laid_words z j es v u (each_from (λ x. QWord (f x)) k m))
off_laid z j es v u f k zero c h = tt
off_laid z j es v u f k (suc m) c h = (h (f k), off_laid z (j + 1) es v u f (k + 1) m c h)
