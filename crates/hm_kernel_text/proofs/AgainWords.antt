-- What is written is read: words and expressions.
use Rattle.std.proofs.Common.{◌≡◌, ◌≢◌, ℕ, ◌+◌, ◌-◌, ◌*◌, ◌^◌, ◌<◌, Bool, true, false, cond, eqb, ltb, List, [], ◌∷◌, ◌++◌, length}
use Rattle.std.proofs.Common.{get_or, Option, Some, None, refl, sym, ap, ◌∙◌, arith, append_assoc}
use Rattle.std.specs.Prelude.{option_and_then, decimal, not, is_none, ◌&&◌, ◌||◌}
use Rattle.std.specs.Char.{is_ascii_alphanumeric, is_ascii_digit, is_ascii_lowercase}
use Rattle.std.specs.List.{list_all}
use Rattle.std.proofs.lemmas.Bool.{or_parts, and_parts}
use Rattle.std.proofs.lemmas.Bool.Decides.{nat_tests}
use Rattle.std.proofs.lemmas.List.{append-nil}
use Rattle.hm_text_base.specs.Spans.{span, Lacks}
use Rattle.hm_text_base.specs.Numbers.{digits_in, digits_up_to}
use Rattle.hm_text_base.proofs.NumberLaws.{word_again}
use Rattle.hm_text_base.proofs.SpanLaws.{span_all, span_at, Lacks_append}
use Rattle.hm_text_base.proofs.Steps.{and_then_some, guard_some, test_some}
use Rattle.hm_kernel_lang.specs.declared.text.Op.{Op}
use Rattle.hm_kernel_text.specs.Trees.{Tree, word, apply, op_text, tree_text}
use Rattle.hm_kernel_text.specs.Words.{op_in, is_name, is_numeral, words_of}
use Rattle.hm_kernel_text.specs.ReadTree.{Frame, first, second, Step, part, closed, stands, is_leaf, step_in}
use Rattle.hm_kernel_text.specs.ReadTree.{tree_after, tree_from, tree_in}
use Rattle.hm_kernel_text.proofs.WordSteps.{words_cut}
use Rattle.hm_kernel_text.proofs.FoundLaws.{IsLeafy}

-- ---- marks that words lack

-- where a test that the mark does not pass holds of each byte
pub lacks_all : (mark : ℕ) (p : ℕ → Bool) (w : List ℕ) → p mark ≡ false → list_all p w ≡ true → Lacks mark w
lacks_all mark p [] fails e = tt
lacks_all mark p (b ∷ w) fails e =
    let parts = and_parts (p b) (list_all p w) e in
    let other : b ≢ mark = λ is. let passes = sym (ap p is) ∙ parts.0 in let both = sym fails ∙ passes in absurd cc in
    (other, lacks_all mark p w fails parts.1)

pub record IsWord (w : List ℕ) : Type 0 where
  pub letters : list_all is_ascii_alphanumeric w ≡ true
  pub some : 0 < length w

digit_letter : (b : ℕ) → is_ascii_digit b ≡ true → is_ascii_alphanumeric b ≡ true
digit_letter b e = grind (arith, nat_tests)

digits_letters : (w : List ℕ) → list_all is_ascii_digit w ≡ true → list_all is_ascii_alphanumeric w ≡ true
digits_letters [] e = refl
digits_letters (b ∷ w) e =
    let parts = and_parts (is_ascii_digit b) (list_all is_ascii_digit w) e in
    rw (digit_letter b parts.0, digits_letters w parts.1) refl

pub name_word : (w : List ℕ) → is_name w ≡ true → IsWord w
unfolding is_name
name_word [] e = absurd cc
name_word (b ∷ w) e =
    let outer = and_parts (is_ascii_lowercase b) (list_all is_ascii_alphanumeric (b ∷ w) && is_none (op_in (b ∷ w))) e in
    let inner = and_parts (list_all is_ascii_alphanumeric (b ∷ w)) (is_none (op_in (b ∷ w))) outer.1 in
    record { letters = inner.0; some = omega arith }

numeral_word : (w : List ℕ) → is_numeral w ≡ true → IsWord w
unfolding is_numeral
numeral_word [] e = absurd cc
numeral_word (b ∷ w) e =
    let outer = and_parts (not (eqb (length (b ∷ w)) 0)) (list_all is_ascii_digit (b ∷ w) && (eqb (length (b ∷ w)) 1 || not (eqb b 48))) e in
    let inner = and_parts (list_all is_ascii_digit (b ∷ w)) (eqb (length (b ∷ w)) 1 || not (eqb b 48)) outer.1 in
    record { letters = digits_letters (b ∷ w) inner.0; some = omega arith }

leaf_go : (named numeral : Bool) (w : List ℕ) → (named ≡ true → IsWord w) → (numeral ≡ true → IsWord w) → (named || numeral) ≡ true → IsWord w
leaf_go true numeral w a b e = a refl
leaf_go false numeral w a b e = b e

pub leaf_word : (w : List ℕ) → is_leaf w ≡ true → IsWord w
leaf_word w e = leaf_go (is_name w) (is_numeral w) w (name_word w) (numeral_word w) e

-- ---- numbers

digits_all : (ds : List ℕ) (n m : ℕ) → digits_in n ds ≡ Some m → list_all is_ascii_digit ds ≡ true
unfolding digits_in
digits_all [] n m e = refl
digits_all (d ∷ ds) n m e =
    let t = test_some (is_ascii_digit d) (digits_in (n * 10 + (d - 48)) ds) m e in
    rw (t.0, digits_all ds (n * 10 + (d - 48)) m t.1) refl

plain_test : (len front : ℕ) → eqb len 0 ≡ false → (ltb 1 len && eqb front 48) ≡ false → (not (eqb len 0) && (eqb len 1 || not (eqb front 48))) ≡ true
plain_test len front some plain = grind (arith, nat_tests)

numeral_made : (some digits plain : Bool) → (some && plain) ≡ true → digits ≡ true → (some && (digits && plain)) ≡ true
numeral_made some digits plain e d = grind arith

pub numeral_again : (n : ℕ) → n < 2 ^ 32 → is_numeral (decimal n) ≡ true
unfolding is_numeral
numeral_again n lt =
    let w = decimal n in
    let x = and_then_some (digits_up_to 10 w) (λ n. cond (ltb n (2 ^ 32)) (Some n) None) n (word_again n lt) in
    let g = guard_some (eqb (length w) 0 || (ltb 10 (length w) || (ltb 1 (length w) && eqb (get_or w 0 0) 48))) (digits_in 0 w) x.0 x.1 in
    let t = or_parts (eqb (length w) 0) (ltb 10 (length w) || (ltb 1 (length w) && eqb (get_or w 0 0) 48)) g.0 in
    let u = or_parts (ltb 10 (length w)) (ltb 1 (length w) && eqb (get_or w 0 0) 48) t.1 in
    numeral_made (not (eqb (length w) 0)) (list_all is_ascii_digit w) (eqb (length w) 1 || not (eqb (get_or w 0 0) 48))
    (plain_test (length w) (get_or w 0 0) t.0 u.1) (digits_all w 0 x.0 g.1)

-- ---- words of texts

-- a text that is at its end, or goes on behind a space
pub data Tail : Type 0 where
  ends : Tail
  goes : List ℕ → Tail

abbrev pub tail_text : Tail → List ℕ
tail_text ends = []
tail_text (goes text) = 32 ∷ text

abbrev pub tail_words : Tail → List (List ℕ)
tail_words ends = []
tail_words (goes text) = words_of text

-- the first word of a text
pub words_front : (w : List ℕ) (tail : Tail) → Lacks 32 w → words_of (w ++ tail_text tail) ≡ w ∷ tail_words tail
words_front w ends lacks = ap words_of (append-nil w) ∙ words_cut w ∙ rw (span_all 32 w lacks) refl
words_front w (goes text) lacks = words_cut (w ++ 32 ∷ text) ∙ rw (span_at 32 w text lacks) refl

-- ---- brackets

abbrev pub AreBrackets : List ℕ → Type 0
AreBrackets [] = Unit {0}
AreBrackets (c ∷ cs) = (c ≡ 41) × AreBrackets cs

brackets_lack : (cs : List ℕ) → AreBrackets cs → Lacks 32 cs
brackets_lack [] are = tt
brackets_lack (c ∷ cs) are = (λ is. absurd (omega (arith, are.0, is)), brackets_lack cs are.1)

span_word : (w cs : List ℕ) → Lacks 41 w → AreBrackets cs → span 41 (w ++ cs) ≡ (w, cs)
span_word w [] lacks are = ap (span 41) (append-nil w) ∙ span_all 41 w lacks
span_word w (c ∷ cs) lacks are = ap (λ (x : ℕ). span 41 (w ++ x ∷ cs)) are.0 ∙ span_at 41 w cs lacks
    ∙ ap (λ (x : ℕ). let s : List ℕ × List ℕ = (w, x ∷ cs) in s) (sym are.0)

letter_first : (b : ℕ) → is_ascii_alphanumeric b ≡ true → eqb b 40 ≡ false
letter_first b e = grind (arith, nat_tests)

first_other : (w cs : List ℕ) → IsWord w → eqb (get_or (w ++ cs) 0 0) 40 ≡ false
first_other [] cs is = absurd (omega (arith, is.some))
first_other (b ∷ w) cs is = letter_first b (and_parts (is_ascii_alphanumeric b) (list_all is_ascii_alphanumeric w) is.letters).0

-- ---- expressions

op_again : (o : Op) → op_in (op_text o) ≡ Some o
unfolding op_in
op_again o = grind arith

op_lacks : (o : Op) → Lacks 32 (40 ∷ op_text o)
op_lacks o = lacks_all 32 (λ b. not (eqb b 32)) (40 ∷ op_text o) refl (grind arith)

-- behind a subexpression and the brackets that stand there
abbrev resumed : List Frame → Tree → List ℕ → List (List ℕ) → Option Tree
resumed fs t cs ws = tree_after (option_and_then stands (closed fs t cs)) ws (λ gs. tree_from gs ws)

leaf_step_again : (fs : List Frame) (w cs : List ℕ) → is_leaf w ≡ true → AreBrackets cs
    → step_in fs (w ++ cs) ≡ option_and_then stands (closed fs (word w) cs)
unfolding step_in
leaf_step_again fs w cs leaf are =
    let is = leaf_word w leaf in
    rw (first_other w cs is, span_word w cs (lacks_all 41 is_ascii_alphanumeric w refl is.letters) are, leaf) refl

open_step_again : (fs : List Frame) (o : Op) → step_in fs (40 ∷ op_text o) ≡ Some (part (first o ∷ fs))
unfolding step_in
open_step_again fs o = rw (op_again o) refl

regroup_leaf : (w cs tail : List ℕ) → w ++ (cs ++ tail) ≡ (w ++ cs) ++ tail
regroup_leaf w cs tail = sym (append_assoc w cs tail)

regroup_apply : (op l r cs tail : List ℕ)
    → (40 ∷ (op ++ 32 ∷ (l ++ 32 ∷ (r ++ 41 ∷ [])))) ++ (cs ++ tail) ≡ (40 ∷ op) ++ 32 ∷ (l ++ ([] ++ 32 ∷ (r ++ ((41 ∷ cs) ++ tail))))
regroup_apply op l r cs tail = simp append_assoc

tree_from_cons : (fs : List Frame) (ws : List (List ℕ)) (w : List ℕ) (more : List (List ℕ)) (s : Option Step) → ws ≡ w ∷ more → step_in fs w ≡ s
    → tree_from fs ws ≡ tree_after s more (λ gs. tree_from gs more)
unfolding tree_from
tree_from_cons fs ws w more s is step = ap (tree_from fs) is ∙ ap (λ (x : Option Step). tree_after x more (λ gs. tree_from gs more)) step

second_again : (fs : List Frame) (o : Op) (l r : Tree) (cs : List ℕ) (ws : List (List ℕ))
    → resumed (second o l ∷ fs) r (41 ∷ cs) ws ≡ resumed fs (apply o l r) cs ws
unfolding closed
second_again fs o l r cs ws = refl

first_again : (fs : List Frame) (o : Op) (l : Tree) (ws : List (List ℕ)) → resumed (first o ∷ fs) l [] ws ≡ tree_from (second o l ∷ fs) ws
unfolding closed
first_again fs o l ws = refl

tree_again_at : (t : Tree) (fs : List Frame) (cs : List ℕ) (tail : Tail) → IsLeafy t → AreBrackets cs
    → tree_from fs (words_of (tree_text t ++ (cs ++ tail_text tail))) ≡ resumed fs t cs (tail_words tail)
tree_again_at (word w) fs cs tail leafy are =
    let is = leaf_word w leafy in
    let lacks = Lacks_append 32 w cs (lacks_all 32 is_ascii_alphanumeric w refl is.letters) (brackets_lack cs are) in
    tree_from_cons fs _ (w ++ cs) (tail_words tail) _ (ap words_of (regroup_leaf w cs (tail_text tail)) ∙ words_front (w ++ cs) tail lacks)
    (leaf_step_again fs w cs leafy are)
tree_again_at (apply o l r) fs cs tail leafy are =
    let right = tree_text r ++ ((41 ∷ cs) ++ tail_text tail) in
    let left = tree_text l ++ ([] ++ tail_text (goes right)) in
    tree_from_cons fs _ (40 ∷ op_text o) (words_of left) _
    (ap words_of (regroup_apply (op_text o) (tree_text l) (tree_text r) cs (tail_text tail)) ∙ words_front (40 ∷ op_text o) (goes left) (op_lacks o))
    (open_step_again fs o)
    ∙ tree_again_at l (first o ∷ fs) [] (goes right) leafy.0 tt
    ∙ first_again fs o l (words_of right)
    ∙ tree_again_at r (second o l ∷ fs) (41 ∷ cs) tail leafy.1 (refl, are)
    ∙ second_again fs o l r cs (tail_words tail)

whole_again : (t : Tree) → resumed [] t [] [] ≡ Some t
unfolding closed
whole_again t = refl

-- the text of an expression is read as that expression
pub tree_again : (t : Tree) → IsLeafy t → tree_in (words_of (tree_text t)) ≡ Some t
tree_again t leafy = ap (λ (x : List ℕ). tree_from [] (words_of x)) (sym (append-nil (tree_text t))) ∙ tree_again_at t [] [] ends leafy tt ∙ whole_again t
