-- The elements of one word of one register: their faults, the word that they are loaded to, and the bytes that they are stored to.
use Rattle.std.proofs.Common.{◌≡◌, ℕ, zero, suc, ◌+◌, ◌*◌, ◌/◌, ◌%◌, ◌^◌, ◌<◌, ◌≤◌, Bool, true, false, cond, List, [], ◌∷◌, ◌++◌, get_or, length, map, None}
use Rattle.std.proofs.Common.{refl, sym, ◌∙◌, ap, arith}
use Rattle.std.proofs.Math.Nat.{mod-eq_of_lt}
use Rattle.std.proofs.lemmas.Nat.{mod_low, pow-add, pow_pos, shl-shr, shr-shr}
use Rattle.std.specs.Option.{option_or}
use Rattle.hm_base.specs.Bits.{field, put_field}
use Rattle.hm_base.proofs.Fields.{field_of_low}
use Rattle.hm_lane.specs.declared.lanes.Size.{Size}
use Rattle.hm_lane.specs.declared.lanes.Size.TheVariants as size
use Rattle.hm_lane.specs.Lanes.{bytes_of, lanes, per_word, unlanes, word_of}
use Rattle.hm_mem.specs.declared.Access.TheVariants.{Vector}
use Rattle.hm_mem.specs.Devices.{byte_of}
use Rattle.hm_mem.specs.Seen.{fault_kind}
use Rattle.hm_state.specs.State.{Byte, State}
use Rattle.hm_beat.specs.Touches.{span_bytes}
use Rattle.hm_kinds.specs.Row.{numbers}
use Rattle.hm_moves.specs.declared.elements.Element.{Element}
use Rattle.hm_moves.specs.Moves.{Moves, active_ones, all_bytes_from, bytes_from, as_loaded, fault_after, filled, first_fault, byte_count}
use Rattle.hm_moves.specs.Coded.{laid_all}
use Rattle.hm_moves.specs.Moves as moves
use Rattle.hm_moves.specs.Ways.{each_from}
use Rattle.hm_moves.specs.Wholes.{fault_of, loaded_elements, read_at, number_bytes, element_bytes}
use Rattle.hm_moves.proofs.Laying.{filled_got}

-- an element of a word, at an address
abbrev pub placed : Size → (ℕ → ℕ) → ℕ → Element
placed z f j = record { addr = f j; word = 0; lane = byte_count z * j }

-- the active ones of a word
abbrev pub word_elements : Size → (ℕ → ℕ) → List Bool → List Element
word_elements z f q = active_ones q (each_from (placed z f) 0 (per_word z))

-- which of its elements are active
abbrev pub word_active : Size → List Bool → List Bool
word_active z q = each_from (λ j. get_or q (byte_count z * j) false) 0 (per_word z)

-- FAULTS
-- an element has its fault where it is active
one_fault : (store : Bool) (len : ℕ) (p : Bool) (e : Element) (es : List Element)
    → first_fault store len (cond p (e ∷ []) [] ++ es)
    ≡ option_or (cond p (fault_after (fault_kind true Vector store len e.addr) e.addr) None) (first_fault store len es)
one_fault store len true e es = refl
one_fault store len false e es = refl

-- the first fault of active elements
pub active_faults : (store : Bool) (len : ℕ) (q : List Bool) (f : ℕ → Element) (j n : ℕ)
    → first_fault store len (active_ones q (each_from f j n))
    ≡ fault_of store len (each_from (λ k. get_or q (f k).lane false) j n) (each_from (λ k. (f k).addr) j n)
active_faults store len q f j zero = refl
active_faults store len q f j (suc n) =
    let p = get_or q (f j).lane false in
    one_fault store len p (f j) (active_ones q (each_from f (j + 1) n))
    ∙ ap (option_or (cond p (fault_after (fault_kind true Vector store len (f j).addr) (f j).addr) None)) (active_faults store len q f (j + 1) n)

-- LANES AS FIELDS
lane_bytes : (x : ℕ) → (x / 2 ^ 0 % 2 ^ 8 ≡ x % 256) × (x / 2 ^ 0 % 2 ^ 16 ≡ x % 256 + 256 * (x / 256 % 256))
    × (x / 2 ^ 16 % 2 ^ 16 ≡ x / 65536 % 256 + 256 * (x / 16777216 % 256))
    × (x / 2 ^ 0 % 2 ^ 32 ≡ x % 256 + 256 * (x / 256 % 256) + 65536 * (x / 65536 % 256) + 16777216 * (x / 16777216 % 256))
lane_bytes x = (omega arith, omega arith, omega arith, omega arith)

-- element j of a word is a field of it
pub lane_field : (z : Size) (x j : ℕ) → j < per_word z → get_or (lanes z (bytes_of x)) j 0 ≡ field (8 * (byte_count z * j)) (8 * byte_count z) x
unfolding field
lane_field size.Byte x zero h = sym (lane_bytes x).0
lane_field size.Byte x (suc zero) h = refl
lane_field size.Byte x (suc (suc zero)) h = refl
lane_field size.Byte x (suc (suc (suc zero))) h = refl
lane_field size.Byte x (suc (suc (suc (suc j)))) h = absurd (omega arith)
lane_field size.Half x zero h = sym (lane_bytes x).1
lane_field size.Half x (suc zero) h = sym (lane_bytes x).2
lane_field size.Half x (suc (suc j)) h = absurd (omega arith)
lane_field size.Word x zero h = sym (lane_bytes x).3
lane_field size.Word x (suc j) h = absurd (omega arith)

-- WORDS THAT ARE LOADED
-- a field put where there was nothing, and nothing below it
put_low : (p : Bool) (lo n x u : ℕ) → cond p (put_field lo n x (u * 2 ^ (lo + n))) (u * 2 ^ (lo + n)) ≡ (u * 2 ^ n + cond p x 0 % 2 ^ n) * 2 ^ lo
unfolding put_field
put_low true lo n x u =
    let e : u * 2 ^ (lo + n) ≡ u * 2 ^ n * 2 ^ lo + 0 = ap (λ m. u * m) (pow-add 2 lo n) ∙ omega arith in
    let high : u * 2 ^ (lo + n) / 2 ^ (lo + n) ≡ u = shl-shr u (lo + n) in
    let low : u * 2 ^ (lo + n) % 2 ^ lo ≡ 0 = ap (λ m. m % 2 ^ lo) e ∙ mod_low (u * 2 ^ n) lo 0 (pow_pos lo) in
    (λ j. high j * 2 ^ (lo + n) + x % 2 ^ n * 2 ^ lo + low j) ∙ (λ j. e j + x % 2 ^ n * 2 ^ lo + 0) ∙ omega arith
put_low false lo n x u =
    let none : 0 % 2 ^ n ≡ 0 = mod-eq_of_lt (pow_pos n) in
    let e : u * 2 ^ (lo + n) ≡ (u * 2 ^ n + 0) * 2 ^ lo = ap (λ m. u * m) (pow-add 2 lo n) ∙ omega arith in
    e ∙ sym (ap (λ m. (u * 2 ^ n + m) * 2 ^ lo) none)

-- n elements of a word from number j on, laid into it
abbrev laid_from : Size → (ℕ → Bool) → (ℕ → ℕ) → ℕ → ℕ → ℕ
laid_from z p g j zero = 0
laid_from z p g j (suc n) = cond (p j) (put_field (8 * (byte_count z * j)) (8 * byte_count z) (g j) (laid_from z p g (j + 1) n)) (laid_from z p g (j + 1) n)

-- the word of four lanes, of two and of one
four_laid : (p : ℕ → Bool) (g : ℕ → ℕ)
    → (let v : ℕ → ℕ = λ j. cond (p j) (g j) 0 in laid_from size.Byte p g 0 4 ≡ v 0 % 256 + 256 * (v 1 % 256) + 65536 * (v 2 % 256) + 16777216 * (v 3 % 256))
four_laid p g =
    let v : ℕ → ℕ = λ j. cond (p j) (g j) 0 in
    let one : ℕ → ℕ → ℕ → ℕ = λ j lo w. cond (p j) (put_field lo 8 (g j) w) w in
    let u3 : ℕ = 0 * 2 ^ 8 + v 3 % 2 ^ 8 in
    let u2 : ℕ = u3 * 2 ^ 8 + v 2 % 2 ^ 8 in
    let u1 : ℕ = u2 * 2 ^ 8 + v 1 % 2 ^ 8 in
    ap (λ w. one 0 0 (one 1 8 (one 2 16 w))) (put_low (p 3) 24 8 (g 3) 0)
    ∙ ap (λ w. one 0 0 (one 1 8 w)) (put_low (p 2) 16 8 (g 2) u3)
    ∙ ap (one 0 0) (put_low (p 1) 8 8 (g 1) u2)
    ∙ put_low (p 0) 0 8 (g 0) u1 ∙ omega arith

two_laid : (p : ℕ → Bool) (g : ℕ → ℕ) → (let v : ℕ → ℕ = λ j. cond (p j) (g j) 0 in
    laid_from size.Half p g 0 2 ≡ v 0 % 256 + 256 * (v 0 / 256 % 256) + 65536 * (v 1 % 256) + 16777216 * (v 1 / 256 % 256))
two_laid p g =
    let v : ℕ → ℕ = λ j. cond (p j) (g j) 0 in
    let u1 : ℕ = 0 * 2 ^ 16 + v 1 % 2 ^ 16 in
    ap (λ w. cond (p 0) (put_field 0 16 (g 0) w) w) (put_low (p 1) 16 16 (g 1) 0)
    ∙ put_low (p 0) 0 16 (g 0) u1 ∙ omega arith

one_laid : (p : ℕ → Bool) (g : ℕ → ℕ) → (let v : ℕ → ℕ = λ j. cond (p j) (g j) 0 in
    laid_from size.Word p g 0 1 ≡ v 0 % 256 + 256 * (v 0 / 256 % 256) + 65536 * (v 0 / 65536 % 256) + 16777216 * (v 0 / 16777216 % 256))
one_laid p g = put_low (p 0) 0 32 (g 0) 0 ∙ omega arith

-- the word of the elements that are loaded, or of zeros
word_laid : (z : Size) (p : ℕ → Bool) (f g : ℕ → ℕ)
    → laid_from z p (λ j. g (f j)) 0 (per_word z) ≡ word_of (unlanes z (loaded_elements g (each_from p 0 (per_word z)) (each_from f 0 (per_word z))))
word_laid size.Byte p f g = four_laid p (λ j. g (f j))
word_laid size.Half p f g = two_laid p (λ j. g (f j))
word_laid size.Word p f g = one_laid p (λ j. g (f j))

-- an element is laid where it is active
laid_one : (z : Size) (v : ℕ → ℕ) (p : Bool) (e : Element) (es : List Element)
    → laid_all z 0 (cond p (e ∷ []) [] ++ es) v 0 ≡ cond p (laid_all z 0 (e ∷ es) v 0) (laid_all z 0 es v 0)
laid_one z v true e es = refl
laid_one z v false e es = refl

laid_active : (z : Size) (v : ℕ → ℕ) (q : List Bool) (f : ℕ → ℕ) (j n : ℕ)
    → laid_all z 0 (active_ones q (each_from (placed z f) j n)) v 0 ≡ laid_from z (λ k. get_or q (byte_count z * k) false) (λ k. v (f k)) j n
laid_active z v q f j zero = refl
laid_active z v q f j (suc n) =
    let e = placed z f j in
    let p = get_or q (byte_count z * j) false in
    laid_one z v p e (active_ones q (each_from (placed z f) (j + 1) n))
    ∙ ap (λ w. cond p (put_field (8 * e.lane) (8 * byte_count z) (v (f j)) w) w) (laid_active z v q f (j + 1) n)

-- a word that is filled is that of the elements that are loaded
pub filled_word : (i : Moves) (s : State) (q : List Bool) (f : ℕ → ℕ) → (let es = word_elements i.register f q in
    filled i 0 es (numbers (map s.cell (map Byte (moves.bytes_of_elements i.memory es) ++ [])))
    ≡ word_of (unlanes i.register (loaded_elements (λ a. as_loaded i (read_at i.memory s a)) (word_active i.register q) (each_from f 0 (per_word i.register)))))
filled_word i s q f =
    let z = i.register in
    let v : ℕ → ℕ = λ a. as_loaded i (read_at i.memory s a) in
    filled_got i 0 (word_elements z f q) s [] ∙ laid_active z v q f 0 (per_word z) ∙ word_laid z (λ k. get_or q (byte_count z * k) false) f v

-- BYTES THAT ARE STORED
-- byte k of an element is one of its word
byte_field : (lo n x k : ℕ) → k + 1 ≤ n → byte_of (field (8 * lo) (8 * n) x) k ≡ byte_of x (lo + k)
unfolding field
byte_field lo n x k h = field_of_low (8 * k) 8 (8 * n) (x / 2 ^ (8 * lo)) (omega arith)
    ∙ ap (λ m. m % 256) (shr-shr x (8 * lo) (8 * k) ∙ ap (λ m. x / 2 ^ m) (omega arith))

-- and so is byte k of a lane
pub lane_byte : (z : Size) (x j k : ℕ) → j < per_word z → k < byte_count z → byte_of (get_or (lanes z (bytes_of x)) j 0) k ≡ byte_of x (byte_count z * j + k)
lane_byte z x j k low h = ap (λ m. byte_of m k) (lane_field z x j low) ∙ byte_field (byte_count z * j) (byte_count z) x k (omega arith)

-- bytes of a word from a lane on are those of the lane
bytes_alike : (z : Size) (x j a : ℕ) (bs : List ℕ) (k : ℕ) → j < per_word z → k + length bs ≤ byte_count z
    → bytes_from false (record { addr = a; word = 0; lane = byte_count z * j }) (x ∷ []) k bs ≡ number_bytes (get_or (lanes z (bytes_of x)) j 0) k bs
bytes_alike z x j a [] k low fits = refl
bytes_alike z x j a (b ∷ bs) k low fits =
    λ t. (Byte b, record { n = sym (lane_byte z x j k low (omega arith)) t; taint = false }) ∷ bytes_alike z x j a bs (k + 1) low (omega arith) t

pub span_length : (y : Size) (a : ℕ) → length (span_bytes a (byte_count y)) ≡ byte_count y
span_length size.Byte a = refl
span_length size.Half a = refl
span_length size.Word a = refl

-- an element is stored where it is active
stored_one : (y : Size) (p : Bool) (e : Element) (es : List Element) (xs : List ℕ)
    → all_bytes_from false y (cond p (e ∷ []) [] ++ es) xs
    ≡ cond p (bytes_from false e xs 0 (span_bytes e.addr (byte_count y))) [] ++ all_bytes_from false y es xs
stored_one y true e es xs = refl
stored_one y false e es xs = refl

stored_active : (y z : Size) (q : List Bool) (f : ℕ → ℕ) (x j n : ℕ) → byte_count y ≤ byte_count z → j + n ≤ per_word z
    → all_bytes_from false y (active_ones q (each_from (placed z f) j n)) (x ∷ [])
    ≡ element_bytes y (each_from (λ k. get_or q (byte_count z * k) false) j n) (each_from f j n) (each_from (λ k. get_or (lanes z (bytes_of x)) k 0) j n)
stored_active y z q f x j zero narrow low = refl
stored_active y z q f x j (suc n) narrow low =
    let e = placed z f j in
    let p = get_or q (byte_count z * j) false in
    let bs = span_bytes (f j) (byte_count y) in
    let long = span_length y (f j) in
    stored_one y p e (active_ones q (each_from (placed z f) (j + 1) n)) (x ∷ [])
    ∙ (λ t. cond p (bytes_alike z x j (f j) bs 0 (omega arith) (omega (arith, long)) t) [] ++ stored_active y z q f x (j + 1) n narrow (omega arith) t)

-- the bytes that a word is stored to are those of its elements
pub stored_word : (y z : Size) (q : List Bool) (f : ℕ → ℕ) (x : ℕ) → byte_count y ≤ byte_count z
    → all_bytes_from false y (word_elements z f q) (x ∷ [])
    ≡ element_bytes y (word_active z q) (each_from f 0 (per_word z)) (each_from (λ k. get_or (lanes z (bytes_of x)) k 0) 0 (per_word z))
stored_word y z q f x narrow = stored_active y z q f x 0 (per_word z) narrow (omega arith)
