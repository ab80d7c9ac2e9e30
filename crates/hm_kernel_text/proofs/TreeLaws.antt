-- What is open, told apart by its sides alone, and trees read with no look at brackets.
use Rattle.std.proofs.Common.{◌≡◌, ℕ, zero, suc, ◌+◌, ◌≤◌, Bool, true, false, cond, eqb, List, [], ◌∷◌, drop, map, Option}
use Rattle.std.proofs.Common.{Some, None, refl, sym, ap, subst, ◌∙◌, arith}
use Rattle.std.specs.Prelude.{option_and_then, option_map}
use Rattle.hm_text_base.specs.Spans.{span}
use Rattle.hm_text_base.proofs.Steps.{and_then_some, test_some, some_is}
use Rattle.hm_kernel_lang.specs.declared.text.Op.{Op}
use Rattle.hm_kernel_text.specs.declared.shape.Side.{Side}
use Rattle.hm_kernel_text.specs.declared.shape.Side.TheVariants.{First, Second}
use Rattle.hm_kernel_text.specs.Trees.{Tree, word, apply, leaves}
use Rattle.hm_kernel_text.specs.Words.{op_in}
use Rattle.hm_kernel_text.specs.ReadTree.{Frame, first, second, Step, whole, part, closed, stands, is_leaf, leaf_step, open_step, step_in}
use Rattle.hm_kernel_text.specs.ReadTree.{tree_after, tree_from, tree_in}
use Rattle.hm_kernel_text.specs.Shapes.{closed_sides, stands_side, opens, shape_in, operations_behind}
use Rattle.hm_kernel_text.specs.Shapes.{leaves_after, leaves_from, tree_at}

-- ---- sides

abbrev pub side : Frame → Side
side (first o) = First
side (second o l) = Second

abbrev pub sides : List Frame → List Side
sides fs = map side fs

-- how many operations are open or in what has been read
abbrev pub room : List Frame → ℕ
room [] = 0
room (first o ∷ fs) = room fs + 1
room (second o l ∷ fs) = leaves l + room fs

abbrev pub shape : Step → Option (List Side)
shape (whole t) = None
shape (part fs) = Some (sides fs)

test_map : {A B : Type 0} (b : Bool) (f : A → B) (x : Option A) (y : Option B) → option_map f x ≡ y → option_map f (cond b x None) ≡ cond b y None
test_map true f x y e = e
test_map false f x y e = refl

closed_shape : (cs : List ℕ) (fs : List Frame) (t : Tree) → option_map (λ s. sides s.0) (closed fs t cs) ≡ closed_sides (sides fs) cs
unfolding closed closed_sides
closed_shape [] fs t = refl
closed_shape (c ∷ cs) [] t = test_map (eqb c 41) (λ (s : List Frame × Tree). sides s.0) None None refl
closed_shape (c ∷ cs) (first o ∷ fs) t = test_map (eqb c 41) (λ (s : List Frame × Tree). sides s.0) None None refl
closed_shape (c ∷ cs) (second o l ∷ fs) t =
    test_map (eqb c 41) (λ (s : List Frame × Tree). sides s.0) (closed fs (apply o l t) cs) (closed_sides (sides fs) cs) (closed_shape cs fs (apply o l t))

stands_shape : (s : List Frame × Tree) → option_map shape (stands s) ≡ stands_side (sides s.0)
stands_shape s = grind arith

both_shape : (x : Option (List Frame × Tree)) (y : Option (List Side)) → option_map (λ s. sides s.0) x ≡ y
    → option_map shape (option_and_then stands x) ≡ option_and_then stands_side y
both_shape None y e = ap (option_and_then stands_side) e
both_shape (Some s) y e = stands_shape s ∙ ap (option_and_then stands_side) e

opened_shape : (fs : List Frame) (o : Option Op)
    → option_map shape (option_and_then (λ o. Some (part (first o ∷ fs))) o) ≡ option_and_then (λ o. Some (Some (First ∷ sides fs))) o
opened_shape fs o = grind arith

cond_shape : (b : Bool) (x y : Option Step) (p q : Option (Option (List Side))) → option_map shape x ≡ p → option_map shape y ≡ q
    → option_map shape (cond b x y) ≡ cond b p q
cond_shape true x y p q e f = e
cond_shape false x y p q e f = f

step_shape : (fs : List Frame) (w : List ℕ) → option_map shape (step_in fs w) ≡ shape_in (sides fs) w
unfolding step_in shape_in
step_shape fs w =
    cond_shape (opens w) (open_step fs (drop 1 w)) (leaf_step fs (span 41 w)) _ _ (opened_shape fs (op_in (drop 1 w)))
    (test_map (is_leaf (span 41 w).0) shape _ _
    (both_shape (closed fs (word (span 41 w).0) (span 41 w).1) _ (closed_shape (span 41 w).1 fs (word (span 41 w).0))))

-- ---- how many operations there are

-- what a step makes of so many operations
abbrev pub Counts : ℕ → Step → Type 0
Counts n (whole t) = leaves t ≡ n + 1
Counts n (part fs) = room fs ≡ n

closed_room : (cs : List ℕ) (fs : List Frame) (t : Tree) (s : List Frame × Tree) → closed fs t cs ≡ Some s
    → leaves s.1 + room s.0 ≡ leaves t + room fs
unfolding closed
closed_room [] fs t s e = ap (λ (x : List Frame × Tree). leaves x.1 + room x.0) (sym (some_is (fs, t) s e))
closed_room (c ∷ cs) [] t s e = let x = test_some (eqb c 41) None s e in absurd cc
closed_room (c ∷ cs) (first o ∷ fs) t s e = let x = test_some (eqb c 41) None s e in absurd cc
closed_room (c ∷ cs) (second o l ∷ fs) t s e =
    let x = test_some (eqb c 41) (closed fs (apply o l t) cs) s e in
    omega (arith, closed_room cs fs (apply o l t) s x.1)

stands_counts : (s : List Frame × Tree) (n : ℕ) (u : Step) → leaves s.1 + room s.0 ≡ n + 1 → stands s ≡ Some u → Counts n u
stands_counts ([], t) n u count e = subst (Counts n) (some_is (whole t) u e) (omega arith)
stands_counts (first o ∷ fs, t) n u count e = subst (Counts n) (some_is (part (second o t ∷ fs)) u e) (omega arith)
stands_counts (second o l ∷ fs, t) n u count e = absurd cc

step_counts : (fs : List Frame) (w : List ℕ) (u : Step) → step_in fs w ≡ Some u → Counts (operations_behind (room fs) w) u
unfolding step_in
step_counts fs w u e = by_opening (opens w) refl e where
  by_opening : (b : Bool) → opens w ≡ b → cond b (open_step fs (drop 1 w)) (leaf_step fs (span 41 w)) ≡ Some u → Counts (operations_behind (room fs) w) u
  by_opening true is e =
      let o = and_then_some (op_in (drop 1 w)) (λ o. Some (part (first o ∷ fs))) u e in
      rw is (subst (Counts (room fs + 1)) (some_is (part (first o.0 ∷ fs)) u o.2) refl)
  by_opening false is e =
      let t = test_some (is_leaf (span 41 w).0) (option_and_then stands (closed fs (word (span 41 w).0) (span 41 w).1)) u e in
      let s = and_then_some (closed fs (word (span 41 w).0) (span 41 w).1) stands u t.1 in
      rw is (stands_counts s.0 (room fs) u (omega (arith, closed_room (span 41 w).1 fs (word (span 41 w).0) s.0 s.1)) s.2)

-- ---- how many names and numbers there are

abbrev pub CountsSome : ℕ → Option Step → Type 0
CountsSome n None = Unit {0}
CountsSome n (Some u) = Counts n u

counts_some : (n : ℕ) (s : Option Step) → ((u : Step) → s ≡ Some u → Counts n u) → CountsSome n s
counts_some n None more = tt
counts_some n (Some u) more = more u refl

after_step : (s : Option Step) (n : ℕ) (ws : List (List ℕ))
    → ((gs : List Frame) → leaves_from (sides gs) (room gs) ws ≡ option_map leaves (tree_from gs ws)) → CountsSome n s
    → leaves_after (option_map shape s) n ws (λ ss. leaves_from ss n ws) ≡ option_map leaves (tree_after s ws (λ gs. tree_from gs ws))
after_step None n ws more counts = refl
after_step (Some (whole t)) n [] more counts = ap (λ (k : ℕ). let o : Option ℕ = Some k in o) (sym counts)
after_step (Some (whole t)) n (w ∷ ws) more counts = refl
after_step (Some (part gs)) n ws more counts = ap (λ (k : ℕ). leaves_from (sides gs) k ws) (sym counts) ∙ more gs

leaves_of : (ws : List (List ℕ)) (fs : List Frame) → leaves_from (sides fs) (room fs) ws ≡ option_map leaves (tree_from fs ws)
unfolding leaves_from tree_from
leaves_of [] fs = refl
leaves_of (w ∷ ws) fs =
    ap (λ (s : Option (Option (List Side))). leaves_after s (operations_behind (room fs) w) ws (λ ss. leaves_from ss (operations_behind (room fs) w) ws))
    (sym (step_shape fs w))
    ∙ after_step (step_in fs w) (operations_behind (room fs) w) ws (leaves_of ws)
    (counts_some (operations_behind (room fs) w) (step_in fs w) (step_counts fs w))

pub leaves_are : (ws : List (List ℕ)) → leaves_from [] 0 ws ≡ option_map leaves (tree_in ws)
leaves_are ws = leaves_of ws []

-- ---- trees with no look at brackets

some_leaves : (t : Tree) → 1 ≤ leaves t
some_leaves (word w) = omega arith
some_leaves (apply o l r) = omega (arith, some_leaves l)

-- more behind what is open
abbrev resumed : List Frame → Tree → List ℕ → List (List ℕ) → Option Tree
resumed fs t cs ws = tree_after (option_and_then stands (closed fs t cs)) ws (λ gs. tree_from gs ws)

pub operations_most : (n : ℕ) (w : List ℕ) → operations_behind n w ≤ n + 1
operations_most n w = by_opening (opens w) where
  by_opening : (b : Bool) → cond b (n + 1) n ≤ n + 1
  by_opening b = grind arith

operations_more : (n : ℕ) (w : List ℕ) → n ≤ operations_behind n w
operations_more n w = by_opening (opens w) where
  by_opening : (b : Bool) → n ≤ cond b (n + 1) n
  by_opening b = grind arith

after_room : (s : Option Step) (n : ℕ) (ws : List (List ℕ)) (u : Tree) → ((gs : List Frame) → tree_from gs ws ≡ Some u → room gs + 1 ≤ leaves u)
    → CountsSome n s → tree_after s ws (λ gs. tree_from gs ws) ≡ Some u → n + 1 ≤ leaves u
after_room None n ws u more counts e = absurd cc
after_room (Some (whole t)) n [] u more counts e = omega (arith, ap leaves (some_is t u e))
after_room (Some (whole t)) n (w ∷ ws) u more counts e = absurd cc
after_room (Some (part gs)) n ws u more counts e = omega (arith, more gs e)

tree_room : (ws : List (List ℕ)) (fs : List Frame) (u : Tree) → tree_from fs ws ≡ Some u → room fs + 1 ≤ leaves u
unfolding tree_from
tree_room [] fs u e = absurd cc
tree_room (w ∷ ws) fs u e =
    let more = after_room (step_in fs w) (operations_behind (room fs) w) ws u (λ gs. tree_room ws gs u)
    (counts_some (operations_behind (room fs) w) (step_in fs w) (step_counts fs w)) e in
    omega (arith, operations_more (room fs) w)

-- the words begin with a tree behind which the expression goes on
record Begins (n : ℕ) (fs : List Frame) (ws : List (List ℕ)) (u : Tree) : Type 0 where
  tree : Tree
  brackets : List ℕ
  rest : List (List ℕ)
  at : tree_at n ws ≡ Some (tree, rest)
  resumes : resumed fs tree brackets rest ≡ Some u

leaf_resumes : (b : Bool) (s : Option Step) (ws : List (List ℕ)) (more : List Frame → Option Tree) (u : Tree)
    → tree_after (cond b s None) ws more ≡ Some u → tree_after s ws more ≡ Some u
leaf_resumes true s ws more u e = e
leaf_resumes false s ws more u e = absurd cc

op_resumes : (fs : List Frame) (o : Option Op) (ws : List (List ℕ)) (u : Tree)
    → tree_after (option_and_then (λ o. Some (part (first o ∷ fs))) o) ws (λ gs. tree_from gs ws) ≡ Some u
    → (p : Op) × (o ≡ Some p) × (tree_from (first p ∷ fs) ws ≡ Some u)
op_resumes fs None ws u e = absurd cc
op_resumes fs (Some p) ws u e = (p, refl, e)

bracket_none : (b : Bool) (ws : List (List ℕ)) (more : List Frame → Option Tree) (u : Tree)
    → tree_after (option_and_then stands (cond b None None)) ws more ≡ Some u → ⊥
bracket_none true ws more u e = absurd cc
bracket_none false ws more u e = absurd cc

-- behind a first argument no bracket stands
first_resumes : (fs : List Frame) (o : Op) (l : Tree) (cs : List ℕ) (ws : List (List ℕ)) (u : Tree) → resumed (first o ∷ fs) l cs ws ≡ Some u
    → tree_from (second o l ∷ fs) ws ≡ Some u
unfolding closed
first_resumes fs o l [] ws u e = e
first_resumes fs o l (c ∷ cs) ws u e = absurd (bracket_none (eqb c 41) ws (λ gs. tree_from gs ws) u e)

-- behind a second argument one does
record Closes (fs : List Frame) (t : Tree) (ws : List (List ℕ)) (u : Tree) : Type 0 where
  brackets : List ℕ
  resumes : resumed fs t brackets ws ≡ Some u

bracket_some : (b : Bool) (s : Option (List Frame × Tree)) (ws : List (List ℕ)) (more : List Frame → Option Tree) (u : Tree)
    → tree_after (option_and_then stands (cond b s None)) ws more ≡ Some u → tree_after (option_and_then stands s) ws more ≡ Some u
bracket_some true s ws more u e = e
bracket_some false s ws more u e = absurd cc

second_resumes : (fs : List Frame) (o : Op) (l r : Tree) (cs : List ℕ) (ws : List (List ℕ)) (u : Tree) → resumed (second o l ∷ fs) r cs ws ≡ Some u
    → Closes fs (apply o l r) ws u
unfolding closed
second_resumes fs o l r [] ws u e = absurd cc
second_resumes fs o l r (c ∷ cs) ws u e =
    record { brackets = cs; resumes = bracket_some (eqb c 41) (closed fs (apply o l r) cs) ws (λ gs. tree_from gs ws) u e }

begins_leaf : (n : ℕ) (fs : List Frame) (w : List ℕ) (ws : List (List ℕ)) (u : Tree) → opens w ≡ false
    → tree_after (leaf_step fs (span 41 w)) ws (λ gs. tree_from gs ws) ≡ Some u → Begins (suc n) fs (w ∷ ws) u
unfolding tree_at
begins_leaf n fs w ws u is e = record {
  tree = word (span 41 w).0;
  brackets = (span 41 w).1;
  rest = ws;
  at = rw is refl;
  resumes = leaf_resumes (is_leaf (span 41 w).0) (option_and_then stands (closed fs (word (span 41 w).0) (span 41 w).1)) ws (λ gs. tree_from gs ws) u e;
}

begins_apply : (n : ℕ) (fs : List Frame) (w : List ℕ) (ws : List (List ℕ)) (u : Tree) (o : Op) (l r : Tree) (behind_left behind_right : List (List ℕ))
    → opens w ≡ true → op_in (drop 1 w) ≡ Some o → tree_at n ws ≡ Some (l, behind_left) → tree_at n behind_left ≡ Some (r, behind_right)
    → Closes fs (apply o l r) behind_right u → Begins (suc n) fs (w ∷ ws) u
unfolding tree_at
begins_apply n fs w ws u o l r behind_left behind_right is op left right closes = record {
  tree = apply o l r;
  brackets = closes.brackets;
  rest = behind_right;
  at = rw (is, op, left, right) refl;
  resumes = closes.resumes;
}

begins_word : (n : ℕ) (w : List ℕ) (ws : List (List ℕ)) (fs : List Frame) (u : Tree) (b : Bool) → opens w ≡ b → leaves u ≤ suc n + room fs
    → ((gs : List Frame) (vs : List (List ℕ)) → tree_from gs vs ≡ Some u → leaves u ≤ n + room gs → Begins n gs vs u)
    → tree_after (cond b (open_step fs (drop 1 w)) (leaf_step fs (span 41 w))) ws (λ gs. tree_from gs ws) ≡ Some u → Begins (suc n) fs (w ∷ ws) u
begins_word n w ws fs u false is le more e = begins_leaf n fs w ws u is e
begins_word n w ws fs u true is le more e =
    let o = op_resumes fs (op_in (drop 1 w)) ws u e in
    let l = more (first o.0 ∷ fs) ws o.2 (omega arith) in
    let then_right = first_resumes fs o.0 l.tree l.brackets l.rest u l.resumes in
    let r = more (second o.0 l.tree ∷ fs) l.rest then_right (omega (arith, some_leaves l.tree)) in
    begins_apply n fs w ws u o.0 l.tree r.tree l.rest r.rest is o.1 l.at r.at (second_resumes fs o.0 l.tree r.tree r.brackets r.rest u r.resumes)

begins : (n : ℕ) (ws : List (List ℕ)) (fs : List Frame) (u : Tree) → tree_from fs ws ≡ Some u → leaves u ≤ n + room fs → Begins n fs ws u
unfolding tree_from step_in
begins zero ws fs u e le = absurd (omega (arith, tree_room ws fs u e))
begins (suc n) [] fs u e le = absurd cc
begins (suc n) (w ∷ ws) fs u e le = begins_word n w ws fs u (opens w) refl le (λ gs vs. begins n vs gs u) e

whole_begins : (n : ℕ) (ws : List (List ℕ)) (u t : Tree) (cs : List ℕ) (rest : List (List ℕ)) → tree_at n ws ≡ Some (t, rest)
    → resumed [] t cs rest ≡ Some u → tree_at n ws ≡ Some (u, [])
unfolding closed
whole_begins n ws u t [] [] at e = at ∙ ap (λ (t : Tree). let o : Option (Tree × List (List ℕ)) = Some (t, []) in o) (some_is t u e)
whole_begins n ws u t [] (w ∷ rest) at e = absurd cc
whole_begins n ws u t (c ∷ cs) rest at e = absurd (bracket_none (eqb c 41) rest (λ gs. tree_from gs rest) u e)

-- an expression with no more than n names and numbers is read
pub tree_is_read : (n : ℕ) (ws : List (List ℕ)) (u : Tree) → tree_in ws ≡ Some u → leaves u ≤ n → tree_at n ws ≡ Some (u, [])
tree_is_read n ws u e le =
    let b = begins n ws [] u e (omega arith) in
    whole_begins n ws u b.tree b.brackets b.rest b.at b.resumes
