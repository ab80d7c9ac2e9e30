-- A range has one listing, since one instruction at most stands at an address.
use Rattle.std.proofs.Common.{◌≡◌, ℕ, ◌+◌, ◌*◌, ◌≤◌, ◌<◌, List, [], ◌∷◌, length, refl, ap, arith, subst, sym, ◌∙◌}
use Rattle.std.proofs.lemmas.List.{append-nil}
use Rattle.hm_codes.specs.Listing.{Stands}
use Rattle.hm_codes.proofs.Unique.{unique}
use Rattle.hm_codes.proofs.Standing.{some_halfword}
use Rattle.hm_isa.specs.Code.{halfwords, width_of}
use Rattle.hm_isa.specs.declared.Instr.{Instr}
use Rattle.hm_listing.specs.Listings.{Entry, shown, half, halves_of, IsEntry, AreEntries, IsListed, lines_from, entry_line}

one_entry : (flash : ℕ → ℕ) (a hi : ℕ) (d e : Entry) → IsEntry flash a hi d → IsEntry flash a hi e → d ≡ e
one_entry flash a hi (shown i) (shown j) x y = ap (λ (k : Instr). shown k) (unique flash a i j x.0 y.0)
one_entry flash a hi (shown i) (half h) x y = absurd (let past : hi < a + width_of i = y.0 i x.0 in omega (arith, past, x.1))
one_entry flash a hi (half h) (shown i) x y = absurd (let past : hi < a + width_of i = x.0 i y.0 in omega (arith, past, y.1))
one_entry flash a hi (half g) (half h) x y = ap (λ (k : ℕ). half k) (x.1 ∙ sym y.1)

one_list : (flash : ℕ → ℕ) (a hi : ℕ) (ds es : List Entry) → AreEntries flash a hi ds → AreEntries flash a hi es → ds ≡ es
one_list flash a hi [] [] x y = refl
one_list flash a hi [] (e ∷ es) x y = absurd (let less : a < hi = y.0 in omega (arith, x, less))
one_list flash a hi (d ∷ ds) [] x y = absurd (let less : a < hi = x.0 in omega (arith, y, less))
one_list flash a hi (d ∷ ds) (e ∷ es) x y =
    let same : d ≡ e = one_entry flash a hi d e x.1 y.1 in
    let rest : AreEntries flash (a + 2 * length (halves_of d)) hi es =
    subst (λ (k : Entry). AreEntries flash (a + 2 * length (halves_of k)) hi es) (sym same) y.2 in
    ap (λ (k : List Entry). d ∷ k) (one_list flash (a + 2 * length (halves_of d)) hi ds es x.2 rest) ∙ ap (λ (k : Entry). k ∷ es) same

pub one_listing : (flash : ℕ → ℕ) (lo hi : ℕ) (x y : List ℕ) → IsListed flash lo hi x → IsListed flash lo hi y → x ≡ y
one_listing flash lo hi x y l m = l.2 ∙ ap (λ (k : List Entry). lines_from lo k) (one_list flash lo hi l.0 m.0 l.1 m.1) ∙ sym m.2

-- the range of an instruction has its line
pub own_line : (flash : ℕ → ℕ) (lo hi : ℕ) (i : Instr) → Stands flash lo i → hi ≡ lo + width_of i → IsListed flash lo hi (entry_line lo (shown i))
own_line flash lo hi i stands is =
    let some : 1 ≤ length (halfwords i) = some_halfword i in
    (shown i ∷ [], (omega (arith, is, some), (stands, omega (arith, is)), sym is), sym (append-nil (entry_line lo (shown i))))

pub own_is : (flash : ℕ → ℕ) (lo hi : ℕ) (i : Instr) (x : List ℕ) → Stands flash lo i → hi ≡ lo + width_of i → IsListed flash lo hi x
    → x ≡ entry_line lo (shown i)
own_is flash lo hi i x stands is listed = one_listing flash lo hi x (entry_line lo (shown i)) listed (own_line flash lo hi i stands is)
