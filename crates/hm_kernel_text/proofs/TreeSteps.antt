-- A tree read word by word, as the code does.
use Rattle.std.proofs.Common.{◌≡◌, ℕ, zero, suc, ◌-◌, ◌<◌, ◌≤◌, true, false, cond, List, [], ◌∷◌, length, drop, take, Option, Some, None}
use Rattle.std.proofs.Common.{refl, sym, ap, ◌∙◌, arith}
use Rattle.std.specs.Prelude.{option_and_then, option_map, IsSomeAnd}
use Rattle.std.proofs.lemmas.List.{take_rest}
use Rattle.hm_text_base.specs.Spans.{span}
use Rattle.hm_text_base.proofs.Steps.{some_is}
use Rattle.hm_kernel_lang.specs.declared.text.Op.{Op}
use Rattle.hm_kernel_text.specs.Trees.{Tree, word, apply, leaves}
use Rattle.hm_kernel_text.specs.Words.{op_in, words_behind}
use Rattle.hm_kernel_text.specs.ReadTree.{tree_in}
use Rattle.hm_kernel_text.specs.Shapes.{opens, tree_at}
use Rattle.hm_kernel_text.proofs.TreeLaws.{tree_is_read}

abbrev pub Words : Type 0
Words = List (List ℕ)

abbrev read : Option (Tree × Words) → Option (Tree × Words)
read o = o

-- what an option that was seen through a function holds
pub seen : {A B : Type 0} (f : A → B) (x : Option A) (y : Option B) (v : A) → option_map f x ≡ y → x ≡ Some v → y ≡ Some (f v)
seen f x y v e is = sym e ∙ ap (option_map f) is

pub seen_none : {A B : Type 0} (f : A → B) (x : Option A) (y : Option B) → option_map f x ≡ y → x ≡ None → y ≡ None
seen_none f x y e is = sym e ∙ ap (option_map f) is

pub at_zero : (n : ℕ) (ws : Words) → n ≡ 0 → read None ≡ tree_at n ws
unfolding tree_at
at_zero n ws is = rw is refl

pub at_end : (n : ℕ) (text : List ℕ) → length text ≡ 0 → read None ≡ tree_at n (words_behind text)
unfolding tree_at
at_end n text none = grind arith

-- one word
at_word : (n : ℕ) (ws : Words) (w : List ℕ) (more : Words) → 0 < n → ws ≡ w ∷ more
    → tree_at n ws ≡ cond (opens w)
    (option_and_then (λ o. option_and_then (λ l. option_and_then (λ r. Some (apply o l.0 r.0, r.1)) (tree_at (n - 1) l.1)) (tree_at (n - 1) more))
    (op_in (drop 1 w))) (Some (word (span 41 w).0, more))
unfolding tree_at
at_word zero ws w more some is = absurd (omega arith)
at_word (suc n) ws w more some is = let one : suc n - 1 ≡ n = omega arith in rw (is, one) refl

pub at_leaf : (n : ℕ) (ws : Words) (w leaf brackets : List ℕ) (more : Words) → 0 < n → ws ≡ w ∷ more → opens w ≡ false
    → (leaf, brackets) ≡ span 41 w → read (Some (word leaf, more)) ≡ tree_at n ws
at_leaf n ws w leaf brackets more some is not cut =
    let one = ap (λ (s : List ℕ × List ℕ). read (Some (word s.0, more))) cut in
    one ∙ sym (at_word n ws w more some is ∙ rw not refl)

op_cut : (w : List ℕ) (o : Option Op) → o ≡ op_in (take (length w - 1) (drop 1 w)) → op_in (drop 1 w) ≡ o
op_cut w o e = sym (e ∙ ap op_in (take_rest w 1))

pub at_no_op : (n : ℕ) (ws : Words) (w : List ℕ) (more : Words) → 0 < n → ws ≡ w ∷ more → opens w ≡ true
    → None ≡ op_in (take (length w - 1) (drop 1 w)) → read None ≡ tree_at n ws
at_no_op n ws w more some is opened op = sym (at_word n ws w more some is ∙ rw (opened, op_cut w None op) refl)

pub at_no_left : (n : ℕ) (ws : Words) (w : List ℕ) (more : Words) (o : Op) → 0 < n → ws ≡ w ∷ more → opens w ≡ true
    → Some o ≡ op_in (take (length w - 1) (drop 1 w)) → tree_at (n - 1) more ≡ None → read None ≡ tree_at n ws
at_no_left n ws w more o some is opened op left = sym (at_word n ws w more some is ∙ rw (opened, op_cut w (Some o) op, left) refl)

pub at_no_right : (n : ℕ) (ws : Words) (w : List ℕ) (more : Words) (o : Op) (l : Tree) (behind_left : Words) → 0 < n → ws ≡ w ∷ more
    → opens w ≡ true → Some o ≡ op_in (take (length w - 1) (drop 1 w))
    → tree_at (n - 1) more ≡ Some (l, behind_left) → tree_at (n - 1) behind_left ≡ None → read None ≡ tree_at n ws
at_no_right n ws w more o l behind_left some is opened op left right = sym (at_word n ws w more some is ∙ rw (opened, op_cut w (Some o) op, left, right) refl)

pub at_apply : (n : ℕ) (ws : Words) (w : List ℕ) (more : Words) (o : Op) (l r : Tree) (behind_left behind_right : Words) → 0 < n → ws ≡ w ∷ more
    → opens w ≡ true → Some o ≡ op_in (take (length w - 1) (drop 1 w))
    → tree_at (n - 1) more ≡ Some (l, behind_left) → tree_at (n - 1) behind_left ≡ Some (r, behind_right)
    → read (Some (apply o l r, behind_right)) ≡ tree_at n ws
at_apply n ws w more o l r behind_left behind_right some is opened op left right =
    sym (at_word n ws w more some is ∙ rw (opened, op_cut w (Some o) op, left, right) refl)

-- an expression of at most n words is read
known : (n : ℕ) (ws : Words) (x : Option Tree) → tree_in ws ≡ x → IsSomeAnd x (λ t. leaves t ≤ n)
    → (t : Tree) × (tree_in ws ≡ Some t) × (tree_at n ws ≡ Some (t, []))
known n ws None is some = absurd some
known n ws (Some t) is few = (t, is, tree_is_read n ws t is few)

first_is : (t u : Tree) (rest : Words) → read (Some (t, [])) ≡ read (Some (u, rest)) → t ≡ u
first_is t u rest e = ap (λ (x : Tree × Words). x.0) (some_is (t, []) (u, rest) e)

pub is_expression : (n : ℕ) (ws : Words) (u : Tree) (rest : Words) → IsSomeAnd (tree_in ws) (λ t. leaves t ≤ n) → tree_at n ws ≡ Some (u, rest)
    → tree_in ws ≡ Some u
is_expression n ws u rest few at =
    let k = known n ws (tree_in ws) refl few in
    k.1 ∙ ap (λ (t : Tree). let o : Option Tree = Some t in o) (first_is k.0 u rest (sym k.2 ∙ at))

pub is_some_expression : (n : ℕ) (ws : Words) → IsSomeAnd (tree_in ws) (λ t. leaves t ≤ n) → tree_at n ws ≡ None → ⊥
is_some_expression n ws few at = let k = known n ws (tree_in ws) refl few in let both = sym k.2 ∙ at in absurd cc
