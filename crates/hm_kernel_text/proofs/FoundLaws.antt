-- What is read is written so: words, trees and lines.
use Rattle.std.proofs.Common.{◌≡◌, ℕ, Bool, true, false, cond, eqb, List, [], ◌∷◌, ◌++◌}
use Rattle.std.proofs.Common.{get_or, drop, Option, Some, None, refl, sym, ap, subst, ◌∙◌, arith}
use Rattle.std.proofs.Common.{append_assoc}
use Rattle.std.specs.Prelude.{option_and_then, codes, bytes_eq}
use Rattle.std.specs.List.{join_with_byte}
use Rattle.std.proofs.lemmas.Bool.{eqb-true}
use Rattle.std.proofs.lemmas.List.{append-nil}
use Rattle.std.proofs.lemmas.Slice.Eq.{bytes_eq-Decides}
use Rattle.hm_text_base.specs.Spans.{span}
use Rattle.hm_text_base.proofs.SpanLaws.{span_parts}
use Rattle.hm_text_base.proofs.Steps.{and_then_some, test_some, some_is}
use Rattle.hm_kernel_lang.specs.declared.text.Op.{Op}
use Rattle.hm_kernel_lang.specs.declared.text.Op.TheVariants as op
use Rattle.hm_kernel_text.specs.Trees.{Tree, word, apply, op_text, tree_text}
use Rattle.hm_kernel_text.specs.Words.{op_in}
use Rattle.hm_kernel_text.specs.ReadTree.{Frame, first, second, Step, whole, part, closed, stands, is_leaf, leaf_step, open_step, step_in}
use Rattle.hm_kernel_text.specs.ReadTree.{tree_after, tree_from, tree_in}

-- ---- operations

op_made : (w t : List ℕ) (o p : Op) (more : Option Op) (same : Bool) → (same ≡ true → w ≡ t) → op_text o ≡ t → (more ≡ Some p → w ≡ op_text p)
    → cond same (Some o) more ≡ Some p → w ≡ op_text p
op_made w t o p more true is text others e = is refl ∙ sym text ∙ ap op_text (some_is o p e)
op_made w t o p more false is text others e = others e

none_more : (w : List ℕ) (p : Op) → None ≡ Some p → w ≡ op_text p
none_more w p e = absurd cc

pub op_found : (w : List ℕ) (p : Op) → op_in w ≡ Some p → w ≡ op_text p
unfolding op_in
op_found w p e =
    op_made w (codes "add") op.Add p _ (bytes_eq w (codes "add")) (bytes_eq-Decides w (codes "add")).0 refl
    (op_made w (codes "sub") op.Sub p _ (bytes_eq w (codes "sub")) (bytes_eq-Decides w (codes "sub")).0 refl
    (op_made w (codes "mul") op.Mul p _ (bytes_eq w (codes "mul")) (bytes_eq-Decides w (codes "mul")).0 refl
    (op_made w (codes "min") op.Min p _ (bytes_eq w (codes "min")) (bytes_eq-Decides w (codes "min")).0 refl
    (op_made w (codes "max") op.Max p _ (bytes_eq w (codes "max")) (bytes_eq-Decides w (codes "max")).0 refl
    (op_made w (codes "and") op.And p _ (bytes_eq w (codes "and")) (bytes_eq-Decides w (codes "and")).0 refl
    (op_made w (codes "or") op.Or p _ (bytes_eq w (codes "or")) (bytes_eq-Decides w (codes "or")).0 refl
    (op_made w (codes "xor") op.Xor p None (bytes_eq w (codes "xor")) (bytes_eq-Decides w (codes "xor")).0 refl (none_more w p)))))))) e

-- ---- expressions

-- each word is a name or a number
abbrev pub IsLeafy : Tree → Type 0
IsLeafy (word w) = is_leaf w ≡ true
IsLeafy (apply o l r) = IsLeafy l × IsLeafy r

abbrev pub AreLeafy : List Frame → Type 0
AreLeafy [] = Unit {0}
AreLeafy (first o ∷ fs) = AreLeafy fs
AreLeafy (second o l ∷ fs) = IsLeafy l × AreLeafy fs

-- what stands before what is open
abbrev before : List Frame → List ℕ
before [] = []
before (first o ∷ fs) = before fs ++ 40 ∷ (op_text o ++ 32 ∷ [])
before (second o l ∷ fs) = before fs ++ 40 ∷ (op_text o ++ 32 ∷ (tree_text l ++ 32 ∷ []))

record Stands (fs : List Frame) (text : List ℕ) (gs : List Frame) (t : Tree) : Type 0 where
  texts : before fs ++ text ≡ before gs ++ tree_text t
  frames : AreLeafy gs
  tree : IsLeafy t

closed_text : (front op l t cs : List ℕ)
    → (front ++ 40 ∷ (op ++ 32 ∷ (l ++ 32 ∷ []))) ++ (t ++ 41 ∷ cs) ≡ front ++ ((40 ∷ (op ++ 32 ∷ (l ++ 32 ∷ (t ++ 41 ∷ [])))) ++ cs)
closed_text front op l t cs = simp append_assoc

closed_found : (cs : List ℕ) (fs : List Frame) (t : Tree) (s : List Frame × Tree) → AreLeafy fs → IsLeafy t → closed fs t cs ≡ Some s
    → Stands fs (tree_text t ++ cs) s.0 s.1
unfolding closed
closed_found [] fs t s leafy leaf e =
    subst (λ (x : List Frame × Tree). Stands fs (tree_text t ++ []) x.0 x.1) (some_is (fs, t) s e)
    (record { texts = ap (λ (x : List ℕ). before fs ++ x) (append-nil (tree_text t)); frames = leafy; tree = leaf })
closed_found (c ∷ cs) [] t s leafy leaf e = let x = test_some (eqb c 41) None s e in absurd cc
closed_found (c ∷ cs) (first o ∷ fs) t s leafy leaf e = let x = test_some (eqb c 41) None s e in absurd cc
closed_found (c ∷ cs) (second o l ∷ fs) t s leafy leaf e =
    let x = test_some (eqb c 41) (closed fs (apply o l t) cs) s e in
    let more = closed_found cs fs (apply o l t) s leafy.1 (leafy.0, leaf) x.1 in
    let is : c ≡ 41 = eqb-true c 41 x.0 in
    record { texts = rw is (closed_text (before fs) (op_text o) (tree_text l) (tree_text t) cs) ∙ more.texts; frames = more.frames; tree = more.tree }

-- behind a word
abbrev StepStands : List Frame → List ℕ → Step → Type 0
StepStands fs w (whole t) = (before fs ++ w ≡ tree_text t) × IsLeafy t
StepStands fs w (part gs) = (before fs ++ (w ++ 32 ∷ []) ≡ before gs) × AreLeafy gs

spaced : (front w gs t : List ℕ) → front ++ w ≡ gs ++ t → front ++ (w ++ 32 ∷ []) ≡ gs ++ (t ++ 32 ∷ [])
spaced front w gs t e = sym (append_assoc front w (32 ∷ [])) ∙ ap (λ (x : List ℕ). x ++ 32 ∷ []) e ∙ append_assoc gs t (32 ∷ [])

opened_text : (front op t : List ℕ) → (front ++ 40 ∷ (op ++ 32 ∷ [])) ++ (t ++ 32 ∷ []) ≡ front ++ 40 ∷ (op ++ 32 ∷ (t ++ 32 ∷ []))
opened_text front op t = simp append_assoc

stands_found : (fs : List Frame) (w : List ℕ) (s : List Frame × Tree) (u : Step) → Stands fs w s.0 s.1 → stands s ≡ Some u → StepStands fs w u
stands_found fs w ([], t) u h e = subst (StepStands fs w) (some_is (whole t) u e) (h.texts, h.tree)
stands_found fs w (first o ∷ gs, t) u h e =
    subst (StepStands fs w) (some_is (part (second o t ∷ gs)) u e)
    (spaced (before fs) w (before (first o ∷ gs)) (tree_text t) h.texts ∙ opened_text (before gs) (op_text o) (tree_text t), (h.tree, h.frames))
stands_found fs w (second o l ∷ gs, t) u h e = absurd cc

first_byte : (w : List ℕ) → get_or w 0 0 ≡ 40 → w ≡ 40 ∷ drop 1 w
first_byte [] e = absurd (omega arith)
first_byte (b ∷ w) e = ap (λ (c : ℕ). c ∷ w) e

step_of : (b : Bool) (fs : List Frame) (w : List ℕ) (u : Step) → eqb (get_or w 0 0) 40 ≡ b → AreLeafy fs
    → cond b (open_step fs (drop 1 w)) (leaf_step fs (span 41 w)) ≡ Some u → StepStands fs w u
step_of true fs w u is leafy e =
    let o = and_then_some (op_in (drop 1 w)) (λ o. Some (part (first o ∷ fs))) u e in
    let w-is : w ≡ 40 ∷ op_text o.0 = first_byte w (eqb-true _ _ is) ∙ ap (λ (x : List ℕ). 40 ∷ x) (op_found (drop 1 w) o.0 o.1) in
    subst (StepStands fs w) (some_is (part (first o.0 ∷ fs)) u o.2) (ap (λ (x : List ℕ). before fs ++ (x ++ 32 ∷ [])) w-is, leafy)
step_of false fs w u is leafy e =
    let t = test_some (is_leaf (span 41 w).0) (option_and_then stands (closed fs (word (span 41 w).0) (span 41 w).1)) u e in
    let s = and_then_some (closed fs (word (span 41 w).0) (span 41 w).1) stands u t.1 in
    let cut = closed_found (span 41 w).1 fs (word (span 41 w).0) s.0 leafy t.0 s.1 in
    stands_found fs w s.0 u (record { texts = ap (λ (x : List ℕ). before fs ++ x) (sym (span_parts 41 w)) ∙ cut.texts; frames = cut.frames; tree = cut.tree })
    s.2

step_found : (fs : List Frame) (w : List ℕ) (u : Step) → AreLeafy fs → step_in fs w ≡ Some u → StepStands fs w u
unfolding step_in
step_found fs w u leafy e = step_of (eqb (get_or w 0 0) 40) fs w u refl leafy e

abbrev pub joined : List (List ℕ) → List ℕ
joined ws = join_with_byte 32 ws

-- the words are those of a tree behind what is open
pub record IsTree (fs : List Frame) (ws : List (List ℕ)) (u : Tree) : Type 0 where
  pub texts : before fs ++ joined ws ≡ tree_text u
  pub leafy : IsLeafy u

abbrev StepsStand : List Frame → List ℕ → Option Step → Type 0
StepsStand fs w None = Unit {0}
StepsStand fs w (Some u) = StepStands fs w u

steps_stand : (fs : List Frame) (w : List ℕ) (s : Option Step) → ((u : Step) → s ≡ Some u → StepStands fs w u) → StepsStand fs w s
steps_stand fs w None more = tt
steps_stand fs w (Some u) more = more u refl

grown : (front gs w rest u : List ℕ) → front ++ (w ++ 32 ∷ []) ≡ gs → gs ++ rest ≡ u → front ++ (w ++ 32 ∷ rest) ≡ u
grown front gs w rest u one more = simp append_assoc at (ap (λ (x : List ℕ). x ++ rest) one) ∙ more

after_found : (s : Option Step) (fs : List Frame) (w : List ℕ) (ws : List (List ℕ)) (u : Tree) → StepsStand fs w s
    → ((gs : List Frame) → AreLeafy gs → tree_from gs ws ≡ Some u → IsTree gs ws u)
    → tree_after s ws (λ gs. tree_from gs ws) ≡ Some u → IsTree fs (w ∷ ws) u
unfolding tree_from
after_found None fs w ws u h more e = absurd cc
after_found (Some (whole t)) fs w [] u h more e = subst (λ (x : Tree). IsTree fs (w ∷ []) x) (some_is t u e) (record { texts = h.0; leafy = h.1 })
after_found (Some (whole t)) fs w (v ∷ ws) u h more e = absurd cc
after_found (Some (part gs)) fs w [] u h more e = absurd cc
after_found (Some (part gs)) fs w (v ∷ ws) u h more e =
    let rest = more gs h.1 e in
    record { texts = grown (before fs) (before gs) w (joined (v ∷ ws)) (tree_text u) h.0 rest.texts; leafy = rest.leafy }

tree_of_words : (ws : List (List ℕ)) (fs : List Frame) (u : Tree) → AreLeafy fs → tree_from fs ws ≡ Some u → IsTree fs ws u
unfolding tree_from
tree_of_words [] fs u leafy e = absurd cc
tree_of_words (w ∷ ws) fs u leafy e =
    after_found (step_in fs w) fs w ws u (steps_stand fs w (step_in fs w) (λ s is. step_found fs w s leafy is)) (λ gs more is. tree_of_words ws gs u more is) e

-- the words of an expression are its text
pub tree_found : (ws : List (List ℕ)) (u : Tree) → tree_in ws ≡ Some u → IsTree [] ws u
tree_found ws u e = tree_of_words ws [] u tt e
