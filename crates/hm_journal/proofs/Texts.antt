-- The JSON of a journal: it has no float, nests three deep, and its compact text is the journal's.
use Rattle.std.proofs.Common.{◌≡◌, ℕ, ◌≤◌, Bool, true, false, List, [], ◌∷◌, ◌++◌, codes, decimal, map, arith, ap, refl, ◌∙◌, append_assoc}
use Rattle.serde_json.specs.Data.{Items, Members, array, member, no_members, number, object, unsigned, depth, items_depth}
use Rattle.serde_json.specs.Read.{max_depth}
use Rattle.serde_json.specs.View.{items_of}
use Rattle.serde_json.specs.Written.{comma_if, compact_text, has_float, items_have_float, items_text, members_text}
use Rattle.serde_json.proofs.OnLiterals.{serde_json_on_literals}
use Rattle.hm_journal.specs.Journals.{ReportAt, Journaled, journal_data, journal_text, checkpoint_data, checkpoint_text, checkpoints_text}

checkpoint_is : (x : ReportAt) → compact_text (checkpoint_data x) ≡ checkpoint_text x
unfolding serde_json_on_literals
checkpoint_is x = simp append_assoc

regroup : (a b c d : List ℕ) → a ++ (b ++ (c ++ d)) ≡ (a ++ b ++ c) ++ d
regroup a b c d = simp append_assoc

-- the items, and what stands behind the bracket
items_are : (later : Bool) (xs : List ReportAt) → items_text later (items_of (map checkpoint_data xs)) ≡ checkpoints_text later xs ++ 93 ∷ []
items_are later [] = refl
items_are later (x ∷ xs) =
    ap (λ (l : List ℕ). comma_if later ++ (l ++ items_text true (items_of (map checkpoint_data xs)))) (checkpoint_is x)
    ∙ ap (λ (l : List ℕ). comma_if later ++ (checkpoint_text x ++ l)) (items_are true xs)
    ∙ regroup (comma_if later) (checkpoint_text x) (checkpoints_text true xs) (93 ∷ [])

-- what stands behind the checkpoints
tail_is : (n f : ℕ) → members_text true (member (codes "every") (number (unsigned n)) (member (codes "format") (number (unsigned f)) no_members))
    ≡ codes ",\"every\":" ++ (decimal n ++ (codes ",\"format\":" ++ (decimal f ++ codes "}")))
unfolding serde_json_on_literals
tail_is n f = refl

front_is : (is : Items) (t : Members)
    → compact_text (object (member (codes "checkpoints") (array is) t)) ≡ codes "{\"checkpoints\":[" ++ (items_text false is ++ members_text true t)
unfolding serde_json_on_literals
front_is is t = refl

joined : (a m s e d f g z : List ℕ) → a ++ ((m ++ s) ++ (e ++ (d ++ (f ++ (g ++ z))))) ≡ a ++ m ++ (s ++ e) ++ d ++ f ++ g ++ z
joined a m s e d f g z = simp append_assoc

pub text_is : (j : Journaled) → compact_text (journal_data j) ≡ journal_text j
text_is j =
    let front : List ℕ = codes "{\"checkpoints\":[" in
    let m = checkpoints_text false j.checkpoints in
    front_is (items_of (map checkpoint_data j.checkpoints))
    (member (codes "every") (number (unsigned j.every)) (member (codes "format") (number (unsigned j.format)) no_members))
    ∙ (λ i. front ++ (items_are false j.checkpoints i ++ tail_is j.every j.format i))
    ∙ joined front m (93 ∷ []) (codes ",\"every\":") (decimal j.every) (codes ",\"format\":") (decimal j.format) (codes "}")

items_no_float : (xs : List ReportAt) → items_have_float (items_of (map checkpoint_data xs)) ≡ false
items_no_float [] = refl
items_no_float (x ∷ xs) = items_no_float xs

pub no_float : (j : Journaled) → has_float (journal_data j) ≡ false
no_float j = rw (items_no_float j.checkpoints)

items_flat : (xs : List ReportAt) → items_depth (items_of (map checkpoint_data xs)) ≤ 1
items_flat [] = omega arith
items_flat (x ∷ xs) = let rest = items_flat xs in omega (arith, rest)

pub not_deep : (j : Journaled) → depth (journal_data j) ≤ max_depth
not_deep j = let flat = items_flat j.checkpoints in omega (arith, flat)
