-- What is written is read: lines, and all of a text.
use Rattle.std.proofs.Common.{◌≡◌, ◌≢◌, ℕ, ◌+◌, ◌*◌, ◌%◌, ◌^◌, ◌<◌, ◌≤◌, Bool, true, false, eqb, leb, ltb, List, [], ◌∷◌, ◌++◌}
use Rattle.std.proofs.Common.{length, map, Some, Result, Ok, refl, sym, ap, subst, ◌∙◌, arith, inl, inr}
use Rattle.std.proofs.Common.{append_assoc}
use Rattle.std.specs.Prelude.{◌⊎◌, codes, decimal, bytes_eq, is_none, not, ◌&&◌, ◌||◌}
use Rattle.std.specs.Char.{is_ascii_alphanumeric, is_ascii_digit, is_ascii_lowercase}
use Rattle.std.specs.List.{AllByRecursion, list_all, list_any}
use Rattle.std.proofs.lemmas.Bool.{eq-eqb, ne_eqb, le-leb, le-ltb, lt-ltb, and_parts, and_right, or_right}
use Rattle.std.proofs.lemmas.Bool.Decides.{nat_tests}
use Rattle.std.proofs.Math.Bool.{or-true}
use Rattle.std.proofs.lemmas.List.{append-nil, length-map, length_push}
use Rattle.std.proofs.lemmas.Slice.Eq.{bytes_eq-Decides}
use Rattle.hm_base.specs.Image.{sram_start, sram_size}
use Rattle.hm_text_base.specs.Reading.{◌>>=◌}
use Rattle.hm_text_base.specs.Spans.{Lacks, lines_of}
use Rattle.hm_text_base.specs.Texts.{hex8}
use Rattle.hm_text_base.proofs.LineLaws.{lines_again}
use Rattle.hm_text_base.proofs.NumberLaws.{hex8_again, hex8_lacks, word_again}
use Rattle.hm_text_base.proofs.SpanLaws.{Lacks_append, Lacks_from_test, split_join}
use Rattle.hm_kernel_lang.specs.declared.text.ElementType.{ElementType}
use Rattle.hm_kernel_lang.specs.declared.text.Op.{Op}
use Rattle.hm_kernel_lang.specs.Language.{bytes, modulus}
use Rattle.hm_kernel_lang.specs.Correct.{IsPlaced}
use Rattle.hm_kernel_lang.proofs.Numbers.{number_fits}
use Rattle.hm_kernel_text.specs.declared.errors.KernelKind.{KernelKind}
use Rattle.hm_kernel_text.specs.declared.errors.KernelErr.{KernelErr}
use Rattle.hm_kernel_text.specs.Trees.{Tree, word, apply, leaves, op_text, tree_need, tree_text}
use Rattle.hm_kernel_text.specs.Words.{op_in, is_name, is_numeral, number_below, words_of}
use Rattle.hm_kernel_text.specs.Written.{WrittenArray, WrittenSet, Written, HasOtherName, IsApart, IsNewArray, AreArrays, IsThere}
use Rattle.hm_kernel_text.specs.Written.{IsOverArrays, IsWrittenSet, IsWritten, IsKernel, array_text, set_text, header_text, type_text, length_text}
use Rattle.hm_kernel_text.specs.Written.{kernel_lines, kernel_text}
use Rattle.hm_kernel_text.specs.ReadLine.{an_array, a_set, by_form, form_from, form_in, in_range, is_placed, is_there, knows, line_in, share}
use Rattle.hm_kernel_text.specs.ReadLine.{values_in, with_array, with_set, with_written_array, with_written_set}
use Rattle.hm_kernel_text.specs.ReadFile.{first_written, kernel_in, length_in, lines_in, on_line, type_in}
use Rattle.hm_kernel_text.proofs.FoundLaws.{IsLeafy, joined}
use Rattle.hm_kernel_text.proofs.AgainWords.{IsWord, leaf_word, lacks_all, name_word, numeral_again, words_front, goes, tree_again}

-- ---- numbers

pub number_again : (limit n : ℕ) → n < limit → n < 2 ^ 32 → number_below limit (decimal n) ≡ Some n
number_again limit n lt small = rw (word_again n small, lt-ltb n limit lt) refl

-- ---- names that are there

-- each array has a name
abbrev AreNamed : List WrittenArray → Type 0
AreNamed [] = Unit {0}
AreNamed (a ∷ more) = (is_name a.name ≡ true) × AreNamed more

are_named : (t : ElementType) (n : ℕ) (front arrays : List WrittenArray) → AreArrays t n front arrays → AreNamed arrays
are_named t n front [] are = tt
are_named t n front (a ∷ more) are = (are.0.name, are_named t n (front ++ a ∷ []) more are.1)

there_again : (arrays : List WrittenArray) (name : List ℕ) → IsThere arrays name → is_there name arrays ≡ true
there_again [] name there = absurd there
there_again (a ∷ more) name (inl is) = rw ((bytes_eq-Decides a.name name).1 is) refl
there_again (a ∷ more) name (inr there) = or_right (bytes_eq a.name name) (is_there name more) (there_again more name there)

there_named : (arrays : List WrittenArray) (name : List ℕ) → AreNamed arrays → IsThere arrays name → is_name name ≡ true
there_named [] name named there = absurd there
there_named (a ∷ more) name named (inl is) = subst (λ (x : List ℕ). is_name x ≡ true) is named.0
there_named (a ∷ more) name named (inr there) = there_named more name named.1 there

-- ---- expressions over arrays

-- what the reader asks of one
record Passes (t : ElementType) (arrays : List WrittenArray) (e : Tree) : Type 0 where
  leafy : IsLeafy e
  known : knows arrays e ≡ true
  small : in_range (modulus t) e ≡ true

name_passes : (t : ElementType) (arrays : List WrittenArray) (w : List ℕ) → is_name w ≡ true → is_there w arrays ≡ true → Passes t arrays (word w)
name_passes t arrays w named there = record { leafy = rw named refl; known = rw (named, there) refl; small = rw named refl }

number_go : (named : Bool) (t : ElementType) (arrays : List WrittenArray) (w : List ℕ) (n : ℕ) → is_name w ≡ named → is_numeral w ≡ true
    → number_below (modulus t) w ≡ Some n → (named ≡ true → ⊥) → Passes t arrays (word w)
number_go true t arrays w n is numeral small not_name = absurd (not_name refl)
number_go false t arrays w n is numeral small not_name = record { leafy = rw (is, numeral) refl; known = rw is refl; small = rw (is, small) refl }

digit_not_lower : (b : ℕ) → is_ascii_digit b ≡ true → is_ascii_lowercase b ≡ true → ⊥
digit_not_lower b d l = grind (arith, nat_tests)

pub numeral_not_name : (w : List ℕ) → is_numeral w ≡ true → is_name w ≡ true → ⊥
unfolding is_numeral is_name
numeral_not_name [] d l = absurd cc
numeral_not_name (b ∷ w) d l =
    let outer = and_parts (not (eqb (length (b ∷ w)) 0)) (list_all is_ascii_digit (b ∷ w) && (eqb (length (b ∷ w)) 1 || not (eqb b 48))) d in
    let inner = and_parts (list_all is_ascii_digit (b ∷ w)) (eqb (length (b ∷ w)) 1 || not (eqb b 48)) outer.1 in
    let digit = and_parts (is_ascii_digit b) (list_all is_ascii_digit w) inner.0 in
    let lower = and_parts (is_ascii_lowercase b) (list_all is_ascii_alphanumeric (b ∷ w) && is_none (op_in (b ∷ w))) l in
    digit_not_lower b digit.0 lower.0

number_passes : (t : ElementType) (arrays : List WrittenArray) (n : ℕ) → n < modulus t → Passes t arrays (word (decimal n))
number_passes t arrays n lt =
    let small = number_fits t n lt in
    let numeral = numeral_again n small in
    number_go (is_name (decimal n)) t arrays (decimal n) n refl numeral (number_again (modulus t) n lt small) (numeral_not_name (decimal n) numeral)

passes : (t : ElementType) (arrays : List WrittenArray) (e : Tree) → AreNamed arrays → IsOverArrays t arrays e → Passes t arrays e
passes t arrays (word w) named (inl there) = name_passes t arrays w (there_named arrays w named there) (there_again arrays w there)
passes t arrays (word w) named (inr number) = subst (λ (x : List ℕ). Passes t arrays (word x)) (sym number.2) (number_passes t arrays number.0 number.1)
passes t arrays (apply o l r) named over =
    let left = passes t arrays l named over.0 in
    let right = passes t arrays r named over.1 in
    record { leafy = (left.leafy, right.leafy); known = rw (left.known, right.known) refl; small = rw (left.small, right.small) refl }

-- ---- marks that lines lack

word_lacks : (mark : ℕ) (w : List ℕ) → is_ascii_alphanumeric mark ≡ false → IsWord w → Lacks mark w
word_lacks mark w fails is = lacks_all mark is_ascii_alphanumeric w fails is.letters

decimal_word : (n : ℕ) → n < 2 ^ 32 → IsWord (decimal n)
decimal_word n lt = leaf_word (decimal n) (rw (numeral_again n lt) (or-true (is_name (decimal n))))

decimals_lack : (mark : ℕ) (t : ElementType) (values : List ℕ) → is_ascii_alphanumeric mark ≡ false → AllByRecursion (λ v. v < modulus t) values
    → AllByRecursion (Lacks mark) (map decimal values)
decimals_lack mark t [] fails small = tt
decimals_lack mark t (v ∷ values) fails small =
    (word_lacks mark (decimal v) fails (decimal_word v (number_fits t v small.0)), decimals_lack mark t values fails small.1)

join_lacks : (ws : List (List ℕ)) → AllByRecursion (Lacks 10) ws → Lacks 10 (joined ws)
join_lacks [] all = tt
join_lacks (w ∷ []) all = all.0
join_lacks (w ∷ v ∷ ws) all = Lacks_append 10 w (32 ∷ joined (v ∷ ws)) all.0 (λ is. absurd (omega (arith, is)), join_lacks (v ∷ ws) all.1)

op_lacks : (o : Op) → Lacks 10 (op_text o)
op_lacks o = Lacks_from_test 10 (op_text o) (grind arith)

other_mark : (b : ℕ) → 32 ≤ b → b ≢ 10
other_mark b le is = absurd (omega (arith, is, le))

tree_lacks : (t : Tree) → IsLeafy t → Lacks 10 (tree_text t)
tree_lacks (word w) leafy = word_lacks 10 w refl (leaf_word w leafy)
tree_lacks (apply o l r) leafy = (
  other_mark 40 (omega arith),
  Lacks_append 10 (op_text o) (32 ∷ (tree_text l ++ 32 ∷ (tree_text r ++ 41 ∷ []))) (op_lacks o) (
    other_mark 32 (omega arith),
    Lacks_append 10 (tree_text l) (32 ∷ (tree_text r ++ 41 ∷ [])) (tree_lacks l leafy.0)
        (other_mark 32 (omega arith), Lacks_append 10 (tree_text r) (41 ∷ []) (tree_lacks r leafy.1) (other_mark 41 (omega arith), tt)),
  ),
)

-- ---- a line of an array

placed_small : (t : ElementType) (n a : ℕ) → IsPlaced t n a → a < 2 ^ 32
placed_small t n a is = omega (arith, is.high)

array_words_lack : (mark : ℕ) (t : ElementType) (n : ℕ) (front : List WrittenArray) (a : WrittenArray) → is_ascii_alphanumeric mark ≡ false
    → mark < 48 → Lacks mark (codes "array") → IsNewArray t n front a
    → AllByRecursion (Lacks mark) (codes "array" ∷ a.name ∷ hex8 a.addr ∷ map decimal a.values)
array_words_lack mark t n front a fails lt word_lack is =
    (word_lack, (word_lacks mark a.name fails (name_word a.name is.name), (hex8_lacks mark a.addr lt, decimals_lack mark t a.values fails is.small)))

numerals_again : (t : ElementType) (values : List ℕ) → AllByRecursion (λ v. v < modulus t) values → list_all is_numeral (map decimal values) ≡ true
numerals_again t [] small = refl
numerals_again t (v ∷ values) small = rw (numeral_again v (number_fits t v small.0), numerals_again t values small.1) refl

values_again : (t : ElementType) (values : List ℕ) → AllByRecursion (λ v. v < modulus t) values
    → values_in (modulus t) (map decimal values) ≡ Some values
unfolding values_in
values_again t [] small = refl
values_again t (v ∷ values) small = rw (number_again (modulus t) v small.0 (number_fits t v small.0), values_again t values small.1) refl

array_form_again : (t : ElementType) (n : ℕ) (front : List WrittenArray) (a : WrittenArray) → IsNewArray t n front a
    → form_in (array_text a) ≡ Some (an_array a.name a.addr (map decimal a.values))
unfolding form_in
array_form_again t n front a is =
    let words = split_join 32 (codes "array") (a.name ∷ hex8 a.addr ∷ map decimal a.values)
    (array_words_lack 32 t n front a refl (omega arith) (Lacks_from_test 32 (codes "array") refl) is) in
    ap form_from words ∙ rw (is.name, numerals_again t a.values is.small, hex8_again a.addr (placed_small t n a.addr is.placed)) refl

not_same : (b : Bool) (v name : List ℕ) → (b ≡ true → v ≡ name) → v ≢ name → b ≡ false
not_same true v name is other = absurd (other (is refl))
not_same false v name is other = refl

others_again : (name : List ℕ) (front : List WrittenArray) → AllByRecursion (HasOtherName name) front → is_there name front ≡ false
others_again name [] other = refl
others_again name (a ∷ more) other =
    let first_other : bytes_eq a.name name ≡ false = not_same (bytes_eq a.name name) a.name name (bytes_eq-Decides a.name name).0 other.0 in
    rw (first_other, others_again name more other.1) refl

apart_test : (a b s : ℕ) → (b + s ≤ a) ⊎ (a + s ≤ b) → (ltb a (b + s) && ltb b (a + s)) ≡ false
apart_test a b s (inl le) = rw (le-ltb a (b + s) le) refl
apart_test a b s (inr le) = and_right (ltb a (b + s)) (ltb b (a + s)) (le-ltb b (a + s) le)

apart_again : (t : ElementType) (n addr : ℕ) (front : List WrittenArray) → AllByRecursion (IsApart t n addr) front
    → list_any (λ a. share t n a.addr addr) front ≡ false
apart_again t n addr [] apart = refl
apart_again t n addr (a ∷ more) apart = rw (apart_test a.addr addr (bytes t * n) apart.0, apart_again t n addr more apart.1) refl

placed_again : (t : ElementType) (n a : ℕ) → IsPlaced t n a → is_placed t n a ≡ true
placed_again t n a is = rw (eq-eqb (a % bytes t) 0 is.aligned, le-leb sram_start a is.low, le-leb (a + bytes t * n) (sram_start + sram_size) is.high) refl

few_again : (n : ℕ) (values : List ℕ) → length values ≤ n → leb (length (map decimal values)) n ≡ true
few_again n values le = rw (length-map values decimal) (le-leb (length values) n le)

not_full : (n : ℕ) → n < 16 → leb 16 n ≡ false
not_full n lt = grind (arith, nat_tests)

with_array_again : (k : Written) (a : WrittenArray) → length k.sets ≡ 0 → length k.arrays < 16 → IsNewArray k.element k.count k.arrays a
    → with_array k a.name a.addr (map decimal a.values) ≡ Ok (with_written_array k a)
unfolding with_array
with_array_again k a none room is =
    rw (
      none,
      not_full (length k.arrays) room,
      others_again a.name k.arrays is.other,
      placed_again k.element k.count a.addr is.placed,
      few_again k.count a.values is.few,
      values_again k.element a.values is.small,
      apart_again k.element k.count a.addr k.arrays is.apart,
    ) refl

array_again : (k : Written) (a : WrittenArray) → length k.sets ≡ 0 → length k.arrays < 16 → IsNewArray k.element k.count k.arrays a
    → line_in k (array_text a) ≡ Ok (with_written_array k a)
array_again k a none room is = ap (by_form k) (array_form_again k.element k.count k.arrays a is) ∙ with_array_again k a none room is

-- ---- a line that sets an array

set_form_again : (s : WrittenSet) → is_name s.name ≡ true → IsLeafy s.expr → form_in (set_text s) ≡ Some (a_set s.name s.expr)
unfolding form_in
set_form_again s named leafy =
    let rest = codes "=" ++ 32 ∷ tree_text s.expr in
    let words : words_of (set_text s) ≡ codes "set" ∷ s.name ∷ codes "=" ∷ words_of (tree_text s.expr) =
    words_front (codes "set") (goes (s.name ++ 32 ∷ rest)) (Lacks_from_test 32 (codes "set") refl)
    ∙ ap (λ (ws : List (List ℕ)). codes "set" ∷ ws) (words_front s.name (goes rest) (word_lacks 32 s.name refl (name_word s.name named))
    ∙ ap (λ (ws : List (List ℕ)). s.name ∷ ws) (words_front (codes "=") (goes (tree_text s.expr)) (Lacks_from_test 32 (codes "=") refl))) in
    ap form_from words ∙ rw (named, tree_again s.expr leafy) refl

some_test : (n : ℕ) → 1 ≤ n → eqb n 0 ≡ false
some_test n le = ne_eqb n 0 (λ is. absurd (omega (arith, is, le)))

with_set_again : (k : Written) (s : WrittenSet) → 1 ≤ length k.arrays → length k.sets < 16 → Passes k.element k.arrays s.expr
    → IsWrittenSet k.element k.arrays s → with_set k s.name s.expr ≡ Ok (with_written_set k s)
unfolding with_set
with_set_again k s some room pass is =
    rw (
      some_test (length k.arrays) some,
      not_full (length k.sets) room,
      le-ltb 64 (leaves s.expr) is.few,
      there_again k.arrays s.name is.target,
      pass.known,
      pass.small,
      le-ltb 8 (tree_need s.expr) is.shallow,
    ) refl

set_again : (k : Written) (s : WrittenSet) → AreNamed k.arrays → 1 ≤ length k.arrays → length k.sets < 16 → IsWrittenSet k.element k.arrays s
    → line_in k (set_text s) ≡ Ok (with_written_set k s)
set_again k s named some room is =
    let pass = passes k.element k.arrays s.expr named is.over in
    ap (by_form k) (set_form_again s (there_named k.arrays s.name named is.target) pass.leafy) ∙ with_set_again k s some room pass is

-- ---- all lines

next_line : (n : ℕ) (k next : Written) (l : List ℕ) (ls : List (List ℕ)) → line_in k l ≡ Ok next
    → lines_in n k (l ∷ ls) [] ≡ lines_in (n + 1) next ls []
unfolding lines_in
next_line n k next l ls e = ap (λ (r : Result Written KernelKind). on_line n r >>= λ next. lines_in (n + 1) next ls []) e

no_line : (n : ℕ) (k : Written) → 1 ≤ length k.sets → lines_in n k [] [] ≡ Ok k
unfolding lines_in
no_line n k some = rw (some_test (length k.sets) some) refl

sets_again : (ss : List WrittenSet) (n : ℕ) (k : Written) → AreNamed k.arrays → 1 ≤ length k.arrays → length k.sets + length ss ≤ 16
    → 1 ≤ length k.sets + length ss → AllByRecursion (IsWrittenSet k.element k.arrays) ss
    → lines_in n k (map set_text ss) [] ≡ Ok (record k { sets = k.sets ++ ss })
sets_again [] n k named some room any good = no_line n k (omega (arith, any))
    ∙ ap (λ (x : List WrittenSet). let r : Result Written KernelErr = Ok (record k { sets = x }) in r) (sym (append-nil k.sets))
sets_again (s ∷ ss) n k named some room any good =
    let pushed = length_push k.sets s in
    next_line n k (with_written_set k s) (set_text s) (map set_text ss) (set_again k s named some (omega (arith, room)) good.0)
    ∙ sets_again ss (n + 1) (with_written_set k s) named some (omega (arith, pushed, room)) (omega (arith, pushed)) good.1
    ∙ ap (λ (x : List WrittenSet). let r : Result Written KernelErr = Ok (record k { sets = x }) in r) (append_assoc k.sets (s ∷ []) ss)

arrays_again : (xs : List WrittenArray) (ss : List WrittenSet) (n : ℕ) (k : Written) → length k.sets ≡ 0 → length k.arrays + length xs ≤ 16
    → AreArrays k.element k.count k.arrays xs → AreNamed (k.arrays ++ xs) → 1 ≤ length (k.arrays ++ xs) → length ss ≤ 16 → 1 ≤ length ss
    → AllByRecursion (IsWrittenSet k.element (k.arrays ++ xs)) ss
    → lines_in n k (map array_text xs ++ map set_text ss) [] ≡ Ok (record k { arrays = k.arrays ++ xs; sets = k.sets ++ ss })
arrays_again [] ss n k none room new named some few any good =
    let same = append-nil k.arrays in
    sets_again ss n k (subst AreNamed same named) (subst (λ (x : List WrittenArray). 1 ≤ length x) same some) (omega (arith, none, few))
    (omega (arith, none, any)) (subst (λ (x : List WrittenArray). AllByRecursion (IsWrittenSet k.element x) ss) same good)
    ∙ ap (λ (x : List WrittenArray). let r : Result Written KernelErr = Ok (record k { arrays = x; sets = k.sets ++ ss }) in r) (sym same)
arrays_again (a ∷ xs) ss n k none room new named some few any good =
    let same = append_assoc k.arrays (a ∷ []) xs in
    let pushed = length_push k.arrays a in
    next_line n k (with_written_array k a) (array_text a) (map array_text xs ++ map set_text ss) (array_again k a none (omega (arith, room)) new.0)
    ∙ arrays_again xs ss (n + 1) (with_written_array k a) none (omega (arith, pushed, room)) new.1 (subst AreNamed (sym same) named)
    (subst (λ (x : List WrittenArray). 1 ≤ length x) (sym same) some) few any
    (subst (λ (x : List WrittenArray). AllByRecursion (IsWrittenSet k.element x) ss) (sym same) good)
    ∙ ap (λ (x : List WrittenArray). let r : Result Written KernelErr = Ok (record k { arrays = x; sets = k.sets ++ ss }) in r) same

-- ---- the head, and the whole

type_again : (t : ElementType) → type_in (type_text t) ≡ Some t
unfolding type_in
type_again t = grind arith

length_again : (n : ℕ) → n ≤ 65536 → length_in (length_text n) ≡ Ok n
unfolding length_in
length_again n le = rw (numeral_again n (omega (arith, le)), number_again 65537 n (omega (arith, le)) (omega (arith, le))) refl

type_lacks : (t : ElementType) → Lacks 10 (type_text t)
type_lacks t = Lacks_from_test 10 (type_text t) (grind arith)

length_lacks : (n : ℕ) → n ≤ 65536 → Lacks 10 (length_text n)
length_lacks n le = Lacks_append 10 (codes "length ") (decimal n) (Lacks_from_test 10 (codes "length ") refl)
    (word_lacks 10 (decimal n) refl (decimal_word n (omega (arith, le))))

set_lacks : (t : ElementType) (arrays : List WrittenArray) (s : WrittenSet) → AreNamed arrays → IsWrittenSet t arrays s → Lacks 10 (set_text s)
set_lacks t arrays s named is =
    join_lacks (codes "set" ∷ s.name ∷ codes "=" ∷ tree_text s.expr ∷ []) (
      Lacks_from_test 10 (codes "set") refl,
      (
        word_lacks 10 s.name refl (name_word s.name (there_named arrays s.name named is.target)),
        (Lacks_from_test 10 (codes "=") refl, (tree_lacks s.expr (passes t arrays s.expr named is.over).leafy, tt)),
      ),
    )

sets_lack : (t : ElementType) (arrays : List WrittenArray) (ss : List WrittenSet) → AreNamed arrays → AllByRecursion (IsWrittenSet t arrays) ss
    → AllByRecursion (Lacks 10) (map set_text ss)
sets_lack t arrays [] named good = tt
sets_lack t arrays (s ∷ ss) named good = (set_lacks t arrays s named good.0, sets_lack t arrays ss named good.1)

lines_lack : (t : ElementType) (n : ℕ) (front xs : List WrittenArray) (rest : List (List ℕ)) → AreArrays t n front xs
    → AllByRecursion (Lacks 10) rest → AllByRecursion (Lacks 10) (map array_text xs ++ rest)
lines_lack t n front [] rest new all = all
lines_lack t n front (a ∷ xs) rest new all = (
  join_lacks (codes "array" ∷ a.name ∷ hex8 a.addr ∷ map decimal a.values)
      (array_words_lack 10 t n front a refl (omega arith) (Lacks_from_test 10 (codes "array") refl) new.0),
  lines_lack t n (front ++ a ∷ []) xs rest new.1 all,
)

lines_cut : (w : Written) → IsWritten w → lines_of (kernel_text w) ≡ (kernel_lines w, [])
lines_cut w fits =
    lines_again (kernel_lines w) (
      Lacks_from_test 10 header_text refl,
      (
        type_lacks w.element,
        (
          length_lacks w.count fits.count,
          lines_lack w.element w.count [] w.arrays (map set_text w.sets) fits.arrays
              (sets_lack w.element w.arrays w.sets (are_named w.element w.count [] w.arrays fits.arrays) fits.sets),
        ),
      ),
    )

head_again : (text : List ℕ) (w : Written) → w.count ≤ 65536 → lines_of text ≡ (kernel_lines w, [])
    → kernel_in text ≡ lines_in 4 (first_written w.element w.count) (map array_text w.arrays ++ map set_text w.sets) []
unfolding kernel_in
head_again text w le cut = rw (cut, type_again w.element, length_again w.count le) refl

pub kernel_again : (text : List ℕ) (w : Written) → IsKernel text w → kernel_in text ≡ Ok w
kernel_again text w is =
    let fits = is.fits in
    head_again text w fits.count (ap lines_of is.bytes_are ∙ lines_cut w fits)
    ∙ arrays_again w.arrays w.sets 4 (first_written w.element w.count) refl (omega (arith, fits.few_arrays)) fits.arrays
    (are_named w.element w.count [] w.arrays fits.arrays) fits.some_arrays fits.few_sets fits.some_sets fits.sets
