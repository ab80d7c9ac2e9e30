-- The lines that are left of a range, behind those that were added.
use Rattle.std.proofs.Common.{◌≡◌, ◌<◌, ℕ, ◌+◌, ◌*◌, List, ◌∷◌, ◌++◌, length, ap, append_assoc, subst, ◌∙◌}
use Rattle.hm_listing.specs.Listings.{Entry, halves_of, IsEntry, AreEntries, lines_from, entry_line}

-- the lines from an address up to hi, behind what was added, are those of the range
abbrev pub AreLeft : (ℕ → ℕ) → ℕ → ℕ → ℕ → List ℕ → List ℕ → Type 0
AreLeft flash lo at hi first out =
    (es : List Entry) → AreEntries flash at hi es → (all : List Entry) × AreEntries flash lo hi all × (out ++ lines_from at es ≡ first ++ lines_from lo all)

-- a line was added, which is that of an entry at an address, and the next address is this
abbrev pub IsAdded : (ℕ → ℕ) → ℕ → ℕ → ℕ → List ℕ → List ℕ → Type 0
IsAdded flash at next hi out new = (e : Entry) × IsEntry flash at hi e × (new ≡ out ++ entry_line at e) × (next ≡ at + 2 * length (halves_of e))

line_then : (at next : ℕ) (out new : List ℕ) (e : Entry) (es : List Entry) → new ≡ out ++ entry_line at e → next ≡ at + 2 * length (halves_of e)
    → new ++ lines_from next es ≡ out ++ lines_from at (e ∷ es)
line_then at next out new e es is goes =
    ap (λ (x : List ℕ). x ++ lines_from next es) is
    ∙ ap (λ (n : ℕ). (out ++ entry_line at e) ++ lines_from n es) goes
    ∙ append_assoc out (entry_line at e) (lines_from (at + 2 * length (halves_of e)) es)

pub left_after : (flash : ℕ → ℕ) (lo at next hi : ℕ) (first out new : List ℕ) → AreLeft flash lo at hi first out → at < hi → IsAdded flash at next hi out new
    → AreLeft flash lo next hi first new
left_after flash lo at next hi first out new left before a es rest =
    let e = a.0 in
    let more = left (e ∷ es) (before, a.1, subst (λ (n : ℕ). AreEntries flash n hi es) a.3 rest) in
    (more.0, more.1, line_then at next out new e es a.2 a.3 ∙ more.2)
