-- Labels with their addresses.
use Rattle.std.specs.Prelude.{ℕ, List, Vec, map}
use Rattle.std.specs.FinMap.{FinMap, from_entries}
use Rattle.std.specs.Ordering.{nat_cmp}
use Rattle.std.specs.Cmp.Lexicographic.{slice_cmp}
use Rattle.std.specs.declared.alloc.Global.{Global}

-- from names to addresses
abbrev pub LabelMap : Type 0
LabelMap = FinMap (slice_cmp nat_cmp) ℕ

-- the name and the address of an entry
abbrev pub label_entry : Vec ℕ Global × ℕ → List ℕ × ℕ
label_entry e = (e.0.items, e.1)

-- the map from names to addresses that entries stand for
abbrev pub labels_of : List (Vec ℕ Global × ℕ) → LabelMap
labels_of entries = from_entries (map label_entry entries)
