-- The ticks that are left after a cursor.
use Rattle.std.proofs.Common.{◌≡◌, ℕ, zero, suc, ◌+◌, ◌-◌, ◌<◌, ◌≤◌, arith, ap, refl, sym, ◌∙◌, subst, List, [], ◌∷◌, drop, length, slice_get, Some, All}
use Rattle.std.proofs.lemmas.List.Elements.{All-head, All-tail}
use Rattle.hm_machine.specs.Machines.{left_in, HasTick}
use Rattle.hm_sched.specs.Schedule.{TickLine, IsLine, repeat, ticks_of}

some_one : (x l : TickLine) → Some x ≡ Some l → x ≡ l
some_one x l e = cc

first : (x : TickLine) (xs : List TickLine) (used : ℕ) → used < x.count
    → left_in (x ∷ xs) used ≡ x ∷ repeat (x.count - (used + 1)) x (ticks_of xs)
first x xs used h =
    let e : x.count - used ≡ suc (x.count - (used + 1)) = omega arith in
    ap (λ (n : ℕ). repeat n x (ticks_of xs)) e

pub line_first : (lines : List TickLine) (k used : ℕ) (l : TickLine) → HasTick (drop k lines) used → slice_get lines k ≡ Some l
    → left_in (drop k lines) used ≡ l ∷ repeat (l.count - (used + 1)) l (ticks_of (drop (suc k) lines))
line_first [] zero used l h e = absurd h
line_first [] (suc k) used l h e = absurd h
line_first (x ∷ xs) zero used l h e =
    first x xs used h ∙ ap (λ (y : TickLine). y ∷ repeat (y.count - (used + 1)) y (ticks_of xs)) (some_one x l e)
line_first (x ∷ xs) (suc k) used l h e = line_first xs k used l h e

pub line_used : (lines : List TickLine) (k used : ℕ) (l : TickLine) → HasTick (drop k lines) used → slice_get lines k ≡ Some l → used < l.count
line_used [] zero used l h e = absurd h
line_used [] (suc k) used l h e = absurd h
line_used (x ∷ xs) zero used l h e = subst (λ (y : TickLine). used < y.count) (some_one x l e) h
line_used (x ∷ xs) (suc k) used l h e = line_used xs k used l h e

-- a fact of all lines is one of each
pub all_at : (P : TickLine → Type 0) (lines : List TickLine) (k : ℕ) (l : TickLine) → All P lines → slice_get lines k ≡ Some l → P l
all_at P [] zero l h e = absurd cc
all_at P [] (suc k) l h e = absurd cc
all_at P (x ∷ xs) zero l h e = subst P (some_one x l e) (All-head P x xs h)
all_at P (x ∷ xs) (suc k) l h e = all_at P xs k l (All-tail P x xs h) e

pub left_new : (lines : List TickLine) → left_in lines 0 ≡ ticks_of lines
left_new [] = refl
left_new (x ∷ xs) = let e : x.count - 0 ≡ x.count = omega arith in ap (λ (n : ℕ). repeat n x (ticks_of xs)) e

-- a line that has a tick begins with one
pub begins : (most : ℕ) (lines : List TickLine) (k : ℕ) → k < length lines → All (IsLine most) lines → HasTick (drop k lines) 0
begins most [] k h all = absurd (omega arith)
begins most (x ∷ xs) zero h all = let some = (All-head (IsLine most) x xs all).some in omega (arith, some)
begins most (x ∷ xs) (suc k) h all = begins most xs k (omega arith) (All-tail (IsLine most) x xs all)

pub used_up : (lines : List TickLine) (k used : ℕ) (l : TickLine) → l.count ≤ used + 1
    → repeat (l.count - (used + 1)) l (ticks_of (drop (suc k) lines)) ≡ ticks_of (drop (suc k) lines)
used_up lines k used l h = let e : l.count - (used + 1) ≡ 0 = omega arith in ap (λ (n : ℕ). repeat n l (ticks_of (drop (suc k) lines))) e

-- with a tick left in its line a cursor stays there
pub still_here : (lines : List TickLine) (k used : ℕ) (l : TickLine) → slice_get lines k ≡ Some l → used + 1 < l.count
    → left_in (drop k lines) (used + 1) ≡ repeat (l.count - (used + 1)) l (ticks_of (drop (suc k) lines))
still_here [] zero used l e h = absurd cc
still_here [] (suc k) used l e h = absurd cc
still_here (x ∷ xs) zero used l e h = ap (λ (y : TickLine). repeat (y.count - (used + 1)) y (ticks_of xs)) (some_one x l e)
still_here (x ∷ xs) (suc k) used l e h = still_here xs k used l e h

pub has_next : (lines : List TickLine) (k used : ℕ) (l : TickLine) → slice_get lines k ≡ Some l → used + 1 < l.count → HasTick (drop k lines) (used + 1)
has_next [] zero used l e h = absurd cc
has_next [] (suc k) used l e h = absurd cc
has_next (x ∷ xs) zero used l e h = subst (λ (y : TickLine). used + 1 < y.count) (sym (some_one x l e)) h
has_next (x ∷ xs) (suc k) used l e h = has_next xs k used l e h
