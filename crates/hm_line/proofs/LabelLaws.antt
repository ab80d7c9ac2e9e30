-- Labels as they are kept, and the map that they stand for.
use Rattle.std.proofs.Common.{◌≡◌, ℕ, Bool, cond, List, [], ◌∷◌, map, Option, Some, None, Vec, refl, sym, ap, ◌∙◌}
use Rattle.std.specs.Prelude.{is_some, is_none, not}
use Rattle.std.specs.declared.alloc.Global.{Global}
use Rattle.std.specs.declared.cmp.Ordering.TheVariants.{Less, Equal, Greater}
use Rattle.std.specs.Ordering.{nat_cmp, eq_by_cmp, match_ordering}
use Rattle.std.specs.Cmp.Lexicographic.{slice_cmp, nat_list_cmp_total}
use Rattle.std.specs.BTreeMap.{insert_entry, is_at}
use Rattle.std.specs.Map.{lookup}
use Rattle.std.specs.FinMap.{get, insert, find, put, from_entries, get-from_entries, get-insert, same_map, nat_cmp-IsAntisymmetric, slice_cmp-IsAntisymmetric}
use Rattle.std.specs.FinMap.Entries.{by_order, find-put}
use Rattle.hm_line.specs.Labels.{LabelMap, label_entry, labels_of}

abbrev Name : Type 0
Name = Vec ℕ Global

looked_up : (q : List ℕ) (es : List (Name × ℕ)) → lookup (is_at (λ k. slice_cmp nat_cmp q k.items)) es ≡ find (slice_cmp nat_cmp) q (map label_entry es)
looked_up q [] = refl
looked_up q (e ∷ es) = ap (λ (x : Option ℕ). cond (eq_by_cmp (slice_cmp nat_cmp) q e.0.items) (Some e.1) x) (looked_up q es)

-- what a name has
pub got : (q : List ℕ) (es : List (Name × ℕ)) → get (labels_of es) q ≡ lookup (is_at (λ k. slice_cmp nat_cmp q k.items)) es
got q es = get-from_entries nat_list_cmp_total (map label_entry es) q ∙ sym (looked_up q es)

entries_put : (k : Name) (v : ℕ) (es : List (Name × ℕ))
    → map label_entry (insert_entry (λ a b. slice_cmp nat_cmp a.items b.items) es k v) ≡ put (slice_cmp nat_cmp) k.items v (map label_entry es)
entries_put k v [] = refl
entries_put k v (e ∷ es) =
    elim (slice_cmp nat_cmp k.items e.0.items) as (λ r. map label_entry
    (match_ordering r ((k, v) ∷ e ∷ es) ((e.0, v) ∷ es) (e ∷ insert_entry (λ a b. slice_cmp nat_cmp a.items b.items) es k v))
    ≡ by_order r ((k.items, v) ∷ label_entry e ∷ map label_entry es) ((e.0.items, v) ∷ map label_entry es)
    (label_entry e ∷ put (slice_cmp nat_cmp) k.items v (map label_entry es))) [
      | Less ↦ refl
      | Equal ↦ refl
      | Greater ↦ ap (λ (x : List (List ℕ × ℕ)). label_entry e ∷ x) (entries_put k v es)
    ]

from_put : (k : List ℕ) (v : ℕ) (es : List (List ℕ × ℕ)) → from_entries {R = slice_cmp nat_cmp} (put (slice_cmp nat_cmp) k v es) ≡ insert (from_entries es) k v
from_put k v es =
    same_map nat_list_cmp_total (slice_cmp-IsAntisymmetric nat_cmp-IsAntisymmetric) (from_entries (put (slice_cmp nat_cmp) k v es))
    (insert (from_entries es) k v)
    (λ q. get-from_entries nat_list_cmp_total (put (slice_cmp nat_cmp) k v es) q ∙ find-put (slice_cmp nat_cmp) nat_list_cmp_total q k v es
    ∙ sym (get-insert nat_list_cmp_total (from_entries es) k v q
    ∙ ap (λ (x : Option ℕ). cond (eq_by_cmp (slice_cmp nat_cmp) q k) (Some v) x) (get-from_entries nat_list_cmp_total es q)))

-- a name that is inserted
pub inserted : (k : Name) (v : ℕ) (es : List (Name × ℕ))
    → labels_of (insert_entry (λ a b. slice_cmp nat_cmp a.items b.items) es k v) ≡ insert (labels_of es) k.items v
inserted k v es = ap (λ (x : List (List ℕ × ℕ)). from_entries x) (entries_put k v es) ∙ from_put k.items v (map label_entry es)

none_some : (x : Option ℕ) → not (is_some x) ≡ is_none x
none_some None = refl
none_some (Some v) = refl

-- whether a name is new
pub is_told : (m : LabelMap) (q : List ℕ) (es : List (Name × ℕ)) (b : Bool) → labels_of es ≡ m
    → b ≡ is_some (lookup (is_at (λ k. slice_cmp nat_cmp q k.items)) es) → not b ≡ is_none (get m q)
is_told m q es b view is =
    ap not is ∙ none_some (lookup (is_at (λ k. slice_cmp nat_cmp q k.items)) es) ∙ ap is_none (sym (ap (λ (x : LabelMap). get x q) (sym view) ∙ got q es))
