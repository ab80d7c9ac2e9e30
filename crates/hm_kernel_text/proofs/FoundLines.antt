-- What is read is written so: lines.
use Rattle.std.proofs.Common.{◌≡◌, ◌≢◌, ℕ, zero, suc, ◌+◌, ◌*◌, ◌%◌, ◌<◌, ◌≤◌, Bool, true, false, cond, eqb, leb, ltb, List, [], ◌∷◌, ◌++◌}
use Rattle.std.proofs.Common.{length, map, Option, Some, None, Result, Ok, Err, refl, sym, ap, subst, ◌∙◌, arith, inl, inr}
use Rattle.std.proofs.lemmas.List.{length-map}
use Rattle.std.specs.Prelude.{◌⊎◌, option_map, codes, decimal, bytes_eq, is_some, not, ◌&&◌, ◌||◌}
use Rattle.std.specs.List.{AllByRecursion, list_all, list_any}
use Rattle.std.proofs.lemmas.Bool.{eqb-true, eqb-false, ltb-false, or_parts, and_parts, cases_lt, lt-ltb, not-false}
use Rattle.std.proofs.lemmas.Bool.Decides.{nat_tests}
use borrow.Author.Tests.{leb-true}
use Rattle.std.proofs.lemmas.List.Splits.{join_with_byte-slice_split}
use Rattle.std.proofs.lemmas.Slice.Eq.{bytes_eq-Decides}
use Rattle.hm_base.specs.Image.{sram_start, sram_size}
use Rattle.hm_text_base.specs.Texts.{hex8}
use Rattle.hm_text_base.specs.Numbers.{hex8_in}
use Rattle.hm_text_base.proofs.NumberLaws.{hex8_found}
use Rattle.hm_text_base.proofs.Steps.{and_then_some, test_some, some_is, guard_ok, map_some}
use Rattle.hm_kernel_lang.specs.declared.text.ElementType.{ElementType}
use Rattle.hm_kernel_lang.specs.Language.{bytes, modulus}
use Rattle.hm_kernel_lang.specs.Correct.{IsPlaced}
use Rattle.hm_kernel_text.specs.declared.errors.KernelKind.{KernelKind}
use Rattle.hm_kernel_text.specs.declared.errors.KernelKind.TheVariants.{Syntax, Large, Name, Range, Overlap, Deep}
use Rattle.hm_kernel_text.specs.Trees.{Tree, word, apply, leaves, tree_need, tree_text}
use Rattle.hm_kernel_text.specs.Words.{is_name, is_numeral, number_below, words_of}
use Rattle.hm_kernel_text.specs.ReadTree.{tree_from, tree_in}
use Rattle.hm_kernel_text.specs.Written.{WrittenArray, WrittenSet, Written, HasOtherName, IsApart, IsNewArray, IsThere, IsOverArrays}
use Rattle.hm_kernel_text.specs.Written.{IsWrittenSet, array_text, set_text}
use Rattle.hm_kernel_text.specs.ReadLine.{Form, an_array, a_set, array_form, behind_array, bounded_values, by_form, form_from, form_in, form_of}
use Rattle.hm_kernel_text.specs.ReadLine.{in_range, is_placed, is_there, knows, line_in, set_form, share, values_in, with_array, with_set}
use Rattle.hm_kernel_text.specs.ReadLine.{with_written_array, with_written_set}
use Rattle.hm_kernel_text.proofs.NameSteps.{number_found}
use Rattle.hm_kernel_text.proofs.FoundLaws.{IsLeafy, joined, tree_found}

-- ---- tests that refuse

pub refuse_ok : {A : Type 0} (b : Bool) (kind : KernelKind) (r : Result A KernelKind) (x : A) → cond b (Err kind) r ≡ Ok x → (b ≡ false) × (r ≡ Ok x)
refuse_ok true kind r x e = absurd cc
refuse_ok false kind r x e = (refl, e)

leb_not : (a b : ℕ) → leb a b ≡ false → b < a
leb_not a b e = grind (arith, nat_tests)

pub some_length : (n : ℕ) → n ≢ 0 → 1 ≤ n
some_length zero e = absurd (e refl)
some_length (suc n) e = omega arith

-- ---- forms

-- the form of a line
abbrev pub IsForm : List ℕ → Form → Type 0
IsForm text (an_array name addr words) = (is_name name ≡ true) × (text ≡ joined (codes "array" ∷ name ∷ hex8 addr ∷ words))
IsForm text (a_set name t) = (is_name name ≡ true) × (text ≡ joined (codes "set" ∷ name ∷ codes "=" ∷ tree_text t ∷ [])) × IsLeafy t

one_text : (a b c : List ℕ) (w : List ℕ) (ws : List (List ℕ)) (t : List ℕ) → joined (w ∷ ws) ≡ t
    → joined (a ∷ b ∷ c ∷ w ∷ ws) ≡ joined (a ∷ b ∷ c ∷ t ∷ [])
one_text a b c w ws t e = ap (λ (x : List ℕ). a ++ 32 ∷ (b ++ 32 ∷ (c ++ 32 ∷ x))) e

set_words : (text name : List ℕ) (more : List (List ℕ)) (t : Tree) → is_name name ≡ true → text ≡ joined (codes "set" ∷ name ∷ codes "=" ∷ more)
    → tree_in more ≡ Some t → IsForm text (a_set name t)
unfolding tree_from
set_words text name [] t is e read = absurd cc
set_words text name (w ∷ ws) t is e read =
    let found = tree_found (w ∷ ws) t read in
    (is, e ∙ one_text (codes "set") name (codes "=") w ws (tree_text t) found.texts, found.leafy)

array_made : (text kind name third : List ℕ) (more : List (List ℕ)) (f : Form) → is_name name ≡ true → kind ≡ codes "array"
    → text ≡ joined (kind ∷ name ∷ third ∷ more) → array_form name third more ≡ Some f → IsForm text f
array_made text kind name third more f is kind-is e made =
    let numerals = test_some (list_all is_numeral more) (option_map (λ addr. an_array name addr more) (hex8_in third)) f made in
    by_addr (hex8_in third) refl numerals.1 where
      by_addr : (a : Option ℕ) → hex8_in third ≡ a → option_map (λ addr. an_array name addr more) a ≡ Some f → IsForm text f
      by_addr None at given = absurd cc
      by_addr (Some addr) at given =
          subst (IsForm text) (some_is (an_array name addr more) f given) (
            is,
            e ∙ ap (λ (k : List ℕ). joined (k ∷ name ∷ third ∷ more)) kind-is
                ∙ ap (λ (x : List ℕ). joined (codes "array" ∷ name ∷ x ∷ more)) (hex8_found third addr at),
          )

set_made : (text kind name third : List ℕ) (more : List (List ℕ)) (f : Form) → is_name name ≡ true → kind ≡ codes "set"
    → text ≡ joined (kind ∷ name ∷ third ∷ more) → set_form name third more ≡ Some f → IsForm text f
set_made text kind name third more f is kind-is e made =
    let equals = test_some (bytes_eq third (codes "=")) (option_map (λ t. a_set name t) (tree_in more)) f made in
    by_tree (tree_in more) refl ((bytes_eq-Decides third (codes "=")).0 equals.0) equals.1 where
      by_tree : (t : Option Tree) → tree_in more ≡ t → third ≡ codes "=" → option_map (λ t. a_set name t) t ≡ Some f → IsForm text f
      by_tree None at third-is given = absurd cc
      by_tree (Some t) at third-is given =
          subst (IsForm text) (some_is (a_set name t) f given)
          (set_words text name more t is
          (e ∙ ap (λ (k : List ℕ). joined (k ∷ name ∷ third ∷ more)) kind-is ∙ ap (λ (x : List ℕ). joined (codes "set" ∷ name ∷ x ∷ more)) third-is) at)

kind_made : (a s : Bool) (text kind name third : List ℕ) (more : List (List ℕ)) (f : Form) → (a ≡ true → kind ≡ codes "array")
    → (s ≡ true → kind ≡ codes "set") → is_name name ≡ true → text ≡ joined (kind ∷ name ∷ third ∷ more)
    → cond a (array_form name third more) (cond s (set_form name third more) None) ≡ Some f → IsForm text f
kind_made true s text kind name third more f array-is set-is is e made = array_made text kind name third more f is (array-is refl) e made
kind_made false true text kind name third more f array-is set-is is e made = set_made text kind name third more f is (set-is refl) e made
kind_made false false text kind name third more f array-is set-is is e made = absurd cc

form_made : (text : List ℕ) (words : List (List ℕ)) (f : Form) → text ≡ joined words → form_from words ≡ Some f → IsForm text f
form_made text [] f e made = absurd cc
form_made text (kind ∷ []) f e made = absurd cc
form_made text (kind ∷ name ∷ []) f e made = absurd cc
form_made text (kind ∷ name ∷ third ∷ more) f e made =
    let named = test_some (is_name name) (form_of kind name third more) f made in
    kind_made (bytes_eq kind (codes "array")) (bytes_eq kind (codes "set")) text kind name third more f (bytes_eq-Decides kind (codes "array")).0
    (bytes_eq-Decides kind (codes "set")).0 named.0 e named.1

pub form_found : (text : List ℕ) (f : Form) → form_in text ≡ Some f → IsForm text f
unfolding form_in
form_found text f e = form_made text (words_of text) f (sym (join_with_byte-slice_split 32 text)) e

-- ---- an array

others_found : (name : List ℕ) (arrays : List WrittenArray) → is_there name arrays ≡ false → AllByRecursion (HasOtherName name) arrays
others_found name [] e = tt
others_found name (a ∷ more) e =
    let parts = or_parts (bytes_eq a.name name) (is_there name more) e in
    let other : a.name ≢ name = λ same. let found = (bytes_eq-Decides a.name name).1 same in absurd cc in
    (other, others_found name more parts.1)

placed_found : (t : ElementType) (n a : ℕ) → is_placed t n a ≡ true → IsPlaced t n a
placed_found t n a e =
    let outer = and_parts (eqb (a % bytes t) 0) (leb sram_start a && leb (a + bytes t * n) (sram_start + sram_size)) e in
    let inner = and_parts (leb sram_start a) (leb (a + bytes t * n) (sram_start + sram_size)) outer.1 in
    record { aligned = eqb-true _ _ outer.0; low = leb-true _ _ inner.0; high = leb-true _ _ inner.1 }

pub record AreValues (limit : ℕ) (words : List (List ℕ)) (values : List ℕ) : Type 0 where
  pub texts : words ≡ map decimal values
  pub small : AllByRecursion (λ v. v < limit) values

more_values : (limit : ℕ) (w : List ℕ) (ws : List (List ℕ)) (n : ℕ) (vs values : List ℕ) → (w ≡ decimal n) × (n < limit) → AreValues limit ws vs
    → n ∷ vs ≡ values → AreValues limit (w ∷ ws) values
more_values limit w ws n vs values one more is =
    subst (AreValues limit (w ∷ ws)) is (record { texts = rw (one.0, more.texts) refl; small = (one.1, more.small) })

pub values_found : (limit : ℕ) (words : List (List ℕ)) (values : List ℕ) → values_in limit words ≡ Some values → AreValues limit words values
unfolding values_in
values_found limit [] values e = subst (AreValues limit []) (some_is [] values e) (record { texts = refl; small = tt })
values_found limit (w ∷ ws) values e =
    let n = and_then_some (number_below limit w) (λ v. option_map (λ vs. v ∷ vs) (values_in limit ws)) values e in
    let vs = map_some (λ vs. n.0 ∷ vs) (values_in limit ws) values n.2 in
    more_values limit w ws n.0 vs.0 values (number_found limit w n.0 n.1) (values_found limit ws vs.0 vs.1) vs.2

one_apart : (a b s : ℕ) → (ltb a (b + s) && ltb b (a + s)) ≡ false → (b + s ≤ a) ⊎ (a + s ≤ b)
one_apart a b s e = elim (cases_lt a (b + s)) [
  | inl first ↦ elim (cases_lt b (a + s)) [
    | inl second ↦ (let x = lt-ltb a (b + s) first in let y = lt-ltb b (a + s) second in let both : (ltb a (b + s) && ltb b (a + s)) ≡ true = rw (x, y) refl in
        absurd cc)
    | inr second ↦ inr second
  ]
  | inr first ↦ inl first
]

apart_found : (t : ElementType) (n addr : ℕ) (arrays : List WrittenArray) → list_any (λ a. share t n a.addr addr) arrays ≡ false
    → AllByRecursion (IsApart t n addr) arrays
apart_found t n addr [] e = tt
apart_found t n addr (a ∷ more) e =
    let parts = or_parts (share t n a.addr addr) (list_any (λ a. share t n a.addr addr) more) e in
    (one_apart a.addr addr (bytes t * n) parts.0, apart_found t n addr more parts.1)

-- one more array
pub record SaysArray (k : Written) (text : List ℕ) (next : Written) : Type 0 where
  pub array : WrittenArray
  pub is : IsNewArray k.element k.count k.arrays array
  pub text_is : text ≡ array_text array
  pub next_is : with_written_array k array ≡ next
  pub room : length k.arrays < 16
  pub first : length k.sets ≡ 0

array_says : (k : Written) (text name : List ℕ) (addr : ℕ) (words : List (List ℕ)) (values : List ℕ) (next : Written)
    → IsForm text (an_array name addr words) → length k.sets ≡ 0 → length k.arrays < 16 → is_there name k.arrays ≡ false
    → is_placed k.element k.count addr ≡ true
    → length words ≤ k.count → AreValues (modulus k.element) words values → list_any (λ a. share k.element k.count a.addr addr) k.arrays ≡ false
    → with_written_array k (record { name = name; addr = addr; values = values }) ≡ next → SaysArray k text next
array_says k text name addr words values next form none room new placed few are apart is = record {
  array = record { name = name; addr = addr; values = values };
  is = record {
    name = form.0;
    other = others_found name k.arrays new;
    placed = placed_found k.element k.count addr placed;
    few = omega (arith, few, ap length are.texts, length-map values decimal);
    small = are.small;
    apart = apart_found k.element k.count addr k.arrays apart;
  };
  text_is = form.1 ∙ ap (λ (ws : List (List ℕ)). joined (codes "array" ∷ name ∷ hex8 addr ∷ ws)) are.texts;
  next_is = is;
  room = room;
  first = none;
}

behind_found : (k : Written) (name : List ℕ) (addr : ℕ) (o : Option (List ℕ)) (next : Written) → behind_array k name addr o ≡ Ok next
    → (values : List ℕ) × (o ≡ Some values) × (list_any (λ a. share k.element k.count a.addr addr) k.arrays ≡ false)
    × (with_written_array k (record { name = name; addr = addr; values = values }) ≡ next)
behind_found k name addr None next e = absurd cc
behind_found k name addr (Some values) next e =
    let g = guard_ok (list_any (λ a. share k.element k.count a.addr addr) k.arrays) Overlap
    (with_written_array k (record { name = name; addr = addr; values = values })) next e in
    (values, refl, g.0, g.1)

array_found : (k : Written) (text name : List ℕ) (addr : ℕ) (words : List (List ℕ)) (next : Written) → IsForm text (an_array name addr words)
    → with_array k name addr words ≡ Ok next → SaysArray k text next
unfolding with_array
array_found k text name addr words next form e =
    let a = refuse_ok (ltb 0 (length k.sets)) Syntax _ next e in
    let b = refuse_ok (leb 16 (length k.arrays)) Large _ next a.1 in
    let d = refuse_ok (is_there name k.arrays) Name _ next b.1 in
    let f = behind_found k name addr (bounded_values k.element k.count addr words) next d.1 in
    let t = test_some (is_placed k.element k.count addr && leb (length words) k.count) (values_in (modulus k.element) words) f.0 f.1 in
    let p = and_parts (is_placed k.element k.count addr) (leb (length words) k.count) t.0 in
    array_says k text name addr words f.0 next form (omega (arith, ltb-false 0 (length k.sets) a.0)) (leb_not 16 (length k.arrays) b.0) d.0 p.0
    (leb-true _ _ p.1) (values_found (modulus k.element) words f.0 t.1) f.2 f.3

-- ---- a line that sets an array

there_first : (b : Bool) (name : List ℕ) (a : WrittenArray) (more : List WrittenArray) → (b ≡ true → a.name ≡ name)
    → (is_there name more ≡ true → IsThere more name) → (b || is_there name more) ≡ true → IsThere (a ∷ more) name
there_first true name a more is others e = inl (is refl)
there_first false name a more is others e = inr (others e)

pub there_found : (name : List ℕ) (arrays : List WrittenArray) → is_there name arrays ≡ true → IsThere arrays name
there_found name [] e = absurd cc
there_found name (a ∷ more) e = there_first (bytes_eq a.name name) name a more (bytes_eq-Decides a.name name).0 (there_found name more) e

some_number : (o : Option ℕ) → is_some o ≡ true → (n : ℕ) × (o ≡ Some n)
some_number None e = absurd cc
some_number (Some n) e = (n, refl)

word_found : (named : Bool) (t : ElementType) (arrays : List WrittenArray) (w : List ℕ) → is_name w ≡ named
    → (not named || is_there w arrays) ≡ true → (named || is_some (number_below (modulus t) w)) ≡ true → IsOverArrays t arrays (word w)
word_found true t arrays w is known small = inl (there_found w arrays known)
word_found false t arrays w is known small =
    let n = some_number (number_below (modulus t) w) small in
    let found = number_found (modulus t) w n.0 n.1 in
    inr (n.0, found.1, found.0)

over_found : (t : ElementType) (arrays : List WrittenArray) (e : Tree) → knows arrays e ≡ true → in_range (modulus t) e ≡ true
    → IsOverArrays t arrays e
over_found t arrays (word w) known small = word_found (is_name w) t arrays w refl known small
over_found t arrays (apply o l r) known small =
    let k = and_parts (knows arrays l) (knows arrays r) known in
    let s = and_parts (in_range (modulus t) l) (in_range (modulus t) r) small in
    (over_found t arrays l k.0 s.0, over_found t arrays r k.1 s.1)

-- one more line that sets an array
pub record SaysSet (k : Written) (text : List ℕ) (next : Written) : Type 0 where
  pub set : WrittenSet
  pub is : IsWrittenSet k.element k.arrays set
  pub text_is : text ≡ set_text set
  pub next_is : with_written_set k set ≡ next
  pub room : length k.sets < 16
  pub some : 1 ≤ length k.arrays

set_found : (k : Written) (text name : List ℕ) (t : Tree) (next : Written) → IsForm text (a_set name t) → with_set k name t ≡ Ok next
    → SaysSet k text next
unfolding with_set
set_found k text name t next form e =
    let a = refuse_ok (eqb (length k.arrays) 0) Syntax _ next e in
    let b = refuse_ok (leb 16 (length k.sets) || ltb 64 (leaves t)) Large _ next a.1 in
    let large = or_parts (leb 16 (length k.sets)) (ltb 64 (leaves t)) b.0 in
    let d = refuse_ok (not (is_there name k.arrays && knows k.arrays t)) Name _ next b.1 in
    let known = and_parts (is_there name k.arrays) (knows k.arrays t) (not-false _ d.0) in
    let f = refuse_ok (not (in_range (modulus k.element) t)) Range _ next d.1 in
    let g = guard_ok (ltb 8 (tree_need t)) Deep (with_written_set k (record { name = name; expr = t })) next f.1 in
    record {
      set = record { name = name; expr = t };
      is = record {
        target = there_found name k.arrays known.0;
        over = over_found k.element k.arrays t known.1 (not-false _ f.0);
        few = ltb-false _ _ large.1;
        shallow = ltb-false _ _ g.0;
      };
      text_is = form.1;
      next_is = g.1;
      room = leb_not 16 (length k.sets) large.0;
      some = some_length (length k.arrays) (eqb-false _ _ a.0);
    }

-- ---- a line of either form

form_says : (k : Written) (text : List ℕ) (f : Option Form) (next : Written) → form_in text ≡ f → by_form k f ≡ Ok next
    → SaysArray k text next ⊎ SaysSet k text next
form_says k text None next is e = absurd cc
form_says k text (Some (an_array name addr words)) next is e = inl (array_found k text name addr words next (form_found text (an_array name addr words) is) e)
form_says k text (Some (a_set name t)) next is e = inr (set_found k text name t next (form_found text (a_set name t) is) e)

pub line_found : (k : Written) (text : List ℕ) (next : Written) → line_in k text ≡ Ok next → SaysArray k text next ⊎ SaysSet k text next
line_found k text next e = form_says k text (form_in text) next refl e
