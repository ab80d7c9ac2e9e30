-- What a text says is said by a value.
use Rattle.std.proofs.Common.{◌≡◌, ℕ, suc, ◌+◌, ◌<◌, ◌≤◌, ◌^◌, List, [], ◌∷◌, ◌++◌, length, map, max, refl, sym, ap, subst, arith, inl, inr, Box}
use Rattle.std.proofs.Common.{Global, Vec}
use Rattle.std.specs.Prelude.{All, codes, decimal}
use Rattle.std.specs.List.{AllByRecursion, flat_map, join_with_byte}
use Rattle.std.proofs.lemmas.List.{length-append, length-map}
use Rattle.std.proofs.lemmas.List.Elements.{All-cons, All-nil}
use denote.RawPtr.{null_ptr}
use Rattle.hm_text_base.specs.Spans.{line}
use Rattle.hm_text_base.specs.Texts.{hex8}
use Rattle.hm_kernel_lang.specs.declared.text.Array.{Array}
use Rattle.hm_kernel_lang.specs.declared.text.ElementType.{ElementType}
use Rattle.hm_kernel_lang.specs.declared.text.Expr.{Expr}
use Rattle.hm_kernel_lang.specs.declared.text.Expr.TheVariants.{Name, Number, Apply'}
use Rattle.hm_kernel_lang.specs.declared.text.Line.{Line}
use Rattle.hm_kernel_lang.specs.declared.text.Text.{Text}
use Rattle.hm_kernel_lang.specs.Language.{names, need, numbers}
use Rattle.hm_kernel_lang.specs.Texts.{IsOver, IsSet, IsText}
use Rattle.hm_kernel_text.specs.Held.{array_written, expr_written, name_at, set_written, written}
use Rattle.hm_kernel_text.specs.Trees.{Tree, word, apply, leaves, tree_need}
use Rattle.hm_kernel_text.specs.Written.{AreArrays, IsKernel, IsOverArrays, IsThere, IsWritten, IsWrittenSet, Written, WrittenArray, WrittenSet, array_text}
use Rattle.hm_kernel_text.specs.Written.{header_text, kernel_lines, length_text, set_text, type_text}
use Rattle.hm_kernel_text.proofs.TextLaws.{text_sound}

-- ---- values of lists

-- the heap's handle has nothing in it
some_global : Global
some_global = record { memory = record { seal = tt } }

abbrev vec_of : {A : Type 0} (xs : List A) → length xs < 2 ^ 63 → Vec A Global
vec_of xs h = record { ptr = null_ptr; len = length xs; cap = length xs; alloc = some_global; items = xs; ok = (refl, omega arith); small = h }

some_box : Box (Unit {0}) Global
some_box = record { ptr = null_ptr; alloc = some_global; value = tt }

-- ---- arrays

abbrev IsShort : WrittenArray → Type 0
IsShort a = (length a.name < 2 ^ 63) × (length a.values < 2 ^ 63)

arrays_exist : (ws : List WrittenArray) → AllByRecursion IsShort ws → (xs : List Array) × (map array_written xs ≡ ws)
arrays_exist [] h = ([], refl)
arrays_exist (a ∷ ws) h =
    let rest = arrays_exist ws h.1 in
    let x : Array = record { name = vec_of a.name h.0.0; addr = a.addr; values = vec_of a.values h.0.1 } in
    (x ∷ rest.0, ap (λ (r : List WrittenArray). a ∷ r) rest.1)

-- ---- expressions

there_at : (xs : List Array) (w : List ℕ) → IsThere (map array_written xs) w → (i : ℕ) × (i < length xs) × (name_at xs i ≡ w)
there_at [] w h = absurd h
there_at (x ∷ xs) w (inl e) = (0, omega arith, e)
there_at (x ∷ xs) w (inr h) = let r = there_at xs w h in (suc r.0, omega (arith, r.1), r.2)

record Says (t : ElementType) (xs : List Array) (e : Tree) : Type 0 where
  expr : Expr
  is : expr_written xs expr ≡ e
  over : IsOver t (length xs) expr
  count : names expr + numbers expr ≡ leaves e
  registers : need expr ≡ tree_need e

expr_exists : (t : ElementType) (xs : List Array) (e : Tree) → IsOverArrays t (map array_written xs) e → Says t xs e
expr_exists t xs (word w) (inl h) =
    let r = there_at xs w h in
    record { expr = Name r.0; is = ap word r.2; over = r.1; count = refl; registers = refl }
expr_exists t xs (word w) (inr n) = record { expr = Number n.0; is = ap word (sym n.2); over = n.1; count = refl; registers = refl }
expr_exists t xs (apply o l r) h =
    let a = expr_exists t xs l h.0 in
    let b = expr_exists t xs r h.1 in
    record {
      expr = Apply' o some_box a.expr some_box b.expr;
      is = λ j. apply o (a.is j) (b.is j);
      over = (a.over, b.over);
      count = omega (arith, a.count, b.count);
      registers = λ j. max (a.registers j) (1 + b.registers j);
    }

-- ---- lines

record Sets (t : ElementType) (xs : List Array) (ss : List WrittenSet) : Type 0 where
  lines : List Line
  are : map (set_written xs) lines ≡ ss
  sets : All (IsSet t (length xs)) lines

sets_exist : (t : ElementType) (xs : List Array) (ss : List WrittenSet) → AllByRecursion (IsWrittenSet t (map array_written xs)) ss → Sets t xs ss
sets_exist t xs [] h = record { lines = []; are = refl; sets = All-nil (IsSet t (length xs)) }
sets_exist t xs (s ∷ ss) h =
    let rest = sets_exist t xs ss h.1 in
    let at = there_at xs s.name h.0.target in
    let e = expr_exists t xs s.expr h.0.over in
    let l : Line = record { array = at.0; expr = e.expr } in
    let one : set_written xs l ≡ s = (λ j. record { name = at.2 j; expr = e.is j }) in
    let set : IsSet t (length xs) l =
    record { target = at.1; over = e.over; few = omega (arith, e.count, h.0.few); shallow = omega (arith, e.registers, h.0.shallow) } in
    record { lines = l ∷ rest.lines; are = (λ j. one j ∷ rest.are j); sets = All-cons (IsSet t (length xs)) l rest.lines set rest.sets }

-- ---- names and values are no longer than the text

array_long : (a : WrittenArray) → length a.name ≤ length (line (array_text a))
array_long a =
    let more = join_with_byte 32 (a.name ∷ hex8 a.addr ∷ map decimal a.values) in
    let rest = join_with_byte 32 (hex8 a.addr ∷ map decimal a.values) in
    let first = length-append (codes "array") (32 ∷ more) in
    let second = length-append a.name (32 ∷ rest) in
    let whole = length-append (array_text a) (10 ∷ []) in
    omega (arith, first, second, whole)

names_in : (ws : List WrittenArray) (rest : List (List ℕ)) (n : ℕ) → length (flat_map line (map array_text ws ++ rest)) ≤ n
    → AllByRecursion (λ a. length a.name ≤ n) ws
names_in [] rest n h = tt
names_in (a ∷ ws) rest n h =
    let parts = length-append (line (array_text a)) (flat_map line (map array_text ws ++ rest)) in
    (omega (arith, array_long a), names_in ws rest n (omega arith))

few_values : (t : ElementType) (n : ℕ) (front ws : List WrittenArray) → n ≤ 65536 → AreArrays t n front ws → AllByRecursion (λ a. length a.values ≤ 65536) ws
few_values t n front [] le h = tt
few_values t n front (a ∷ ws) le h = (omega (arith, h.0.few), few_values t n (front ++ a ∷ []) ws le h.1)

short : (ws : List WrittenArray) (n : ℕ) → n < 2 ^ 63 → AllByRecursion (λ a. length a.name ≤ n) ws → AllByRecursion (λ a. length a.values ≤ 65536) ws
    → AllByRecursion IsShort ws
short [] n lt h k = tt
short (a ∷ ws) n lt h k = ((omega (arith, h.0), omega (arith, k.0)), short ws n lt h.1 k.1)

-- a tail of lines is no longer than all of them
behind : (l : List ℕ) (ls : List (List ℕ)) (n : ℕ) → length (flat_map line (l ∷ ls)) ≤ n → length (flat_map line ls) ≤ n
behind l ls n h = let parts = length-append (line l) (flat_map line ls) in omega arith

names_short : (text : List ℕ) (w : Written) → IsKernel text w → AllByRecursion (λ a. length a.name ≤ length text) w.arrays
names_short text w h =
    let n = length text in
    let others = map array_text w.arrays ++ map set_text w.sets in
    let e = ap length h.bytes_are in
    let whole : length (flat_map line (kernel_lines w)) ≤ n = omega arith in
    names_in w.arrays (map set_text w.sets) n
    (behind (length_text w.count) others n
    (behind (type_text w.element) (length_text w.count ∷ others) n (behind header_text (type_text w.element ∷ length_text w.count ∷ others) n whole)))

-- ---- texts

-- a value that says this
pub record Said (w : Written) : Type 0 where
  pub text : Text
  pub sound : IsText text
  pub is : written text ≡ w

-- a text that is no longer than a file may be has a value
pub text_exists : (text : List ℕ) (w : Written) → length text < 2 ^ 63 → IsKernel text w → Said w
text_exists text w lt h =
    let t = w.element in
    let fits = h.fits in
    let a = arrays_exist w.arrays (short w.arrays (length text) lt (names_short text w h) (few_values t w.count [] w.arrays fits.count fits.arrays)) in
    let xs = a.0 in
    let s = sets_exist t xs w.sets (subst (λ (ws : List WrittenArray). AllByRecursion (IsWrittenSet t ws) w.sets) (sym a.1) fits.sets) in
    let many = ap length a.1 in
    let lines = ap length s.are in
    let few = fits.few_arrays in
    let few_lines = fits.few_sets in
    let x : Text
    = record {
      element = t;
      count = w.count;
      arrays = vec_of xs (let same = length-map xs array_written in omega arith);
      lines = vec_of s.lines (let same = length-map s.lines (set_written xs) in omega arith);
    } in
    let is : written x ≡ w = (λ j. record { element = t; count = w.count; arrays = a.1 j; sets = s.are j }) in
    record { text = x; sound = text_sound x (subst IsWritten (sym is) fits) s.sets; is = is }
