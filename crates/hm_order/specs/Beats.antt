-- Instructions that are done beat by beat, and what is asked of a beat.
use Rattle.std.specs.Prelude.{◌≡◌, ℕ, zero, suc, ◌<◌, Bool, true, false, ◌||◌, ◌⊎◌, Result, Ok, Err}

-- How a state S is seen: a value V in each cell C, a sticky flag and a program counter. A cell is a place or
-- a memory byte with its taint. A dead cell has a value that tells nothing: a handler wrote it last.
pub record View (S C V : Type 0) : Type 0 where
  pub get : S → C → V
  pub sticky : S → Bool
  pub pc : S → ℕ
  pub dead : C → V → Bool

-- What a beat does. E says why it stops.
pub record Action (S C E : Type 0) : Type 0 where
  pub run : S → Result S E
  -- the cells that it reads or loads, and those that it writes or stores
  pub uses : S → C → Bool
  pub sets : S → C → Bool
  -- whether it sets the sticky flag
  pub marks : S → Bool

-- one result after another
abbrev pub then : {A B E : Type 0} → Result A E → (A → Result B E) → Result B E
then (Ok x) f = f x
then (Err e) f = Err e

-- two results that stop for the same reason, or end in related states
abbrev pub Alike : {A B E : Type 0} → (A → B → Type 0) → Result A E → Result B E → Type 0
Alike R (Ok s) (Ok t) = R s t
Alike R (Err e) (Err f) = e ≡ f
Alike R (Ok s) (Err f) = ⊥
Alike R (Err e) (Ok t) = ⊥

-- the same of results with stops of two types, of which f says what the second is in terms of the first
abbrev pub AlikeAs : {A B E W : Type 0} → (W → E) → (A → B → Type 0) → Result A E → Result B W → Type 0
AlikeAs f R (Ok s) (Ok t) = R s t
AlikeAs f R (Err e) (Err w) = e ≡ f w
AlikeAs f R (Ok s) (Err w) = ⊥
AlikeAs f R (Err e) (Ok t) = ⊥

-- stopped for a reason of this kind
abbrev pub StopsBy : {A E : Type 0} → (E → Bool) → Result A E → Type 0
StopsBy p (Ok s) = ⊥
StopsBy p (Err e) = p e ≡ true

module _ {S C V : Type 0} (view : View S C V) where
  -- the same values where p says so
  abbrev pub AgreeOn : (C → Bool) → S → S → Type 0
  AgreeOn p s t = (c : C) → p c ≡ true → view.get s c ≡ view.get t c

  -- the same values in each cell, and the same flag
  pub record Same (s t : S) : Type 0 where
    pub cells : (c : C) → view.get s c ≡ view.get t c
    pub sticky : view.sticky s ≡ view.sticky t

  -- each cell that is not dead in s has its value in t too
  pub record Live (s t : S) : Type 0 where
    pub cells : (c : C) → view.dead c (view.get s c) ≡ false → view.get s c ≡ view.get t c
    pub sticky : view.sticky s ≡ view.sticky t

-- the same touches in both states
pub record SameTouch {S C E : Type 0} (x : Action S C E) (s t : S) : Type 0 where
  pub uses : (c : C) → x.uses s c ≡ x.uses t c
  pub sets : (c : C) → x.sets s c ≡ x.sets t c

-- two actions meet on no cell: none writes what the other reads or writes
pub record Apart {S C E : Type 0} (x y : Action S C E) (s : S) : Type 0 where
  pub uses : (c : C) → y.sets s c ≡ true → x.uses s c ≡ false
  pub used : (c : C) → x.sets s c ≡ true → y.uses s c ≡ false
  pub sets : (c : C) → y.sets s c ≡ true → x.sets s c ≡ false

module _ {S C V E : Type 0} (view : View S C V) (x : Action S C E) where
  -- it touches and does the same in both states, as far as it writes
  pub record SameBeat (s t : S) : Type 0 where
    pub touch : SameTouch x s t
    pub marks : (u : S) → x.run s ≡ Ok u → x.marks s ≡ x.marks t
    pub result : Alike (AgreeOn view (x.sets s)) (x.run s) (x.run t)

  -- What is asked of one beat.
  pub record ActionLaws : Type 0 where
    -- it changes nothing but the cells that it sets, and the flag
    pub frame : (s t : S) → x.run s ≡ Ok t → (c : C) → x.sets s c ≡ false → view.get t c ≡ view.get s c
    pub flag : (s t : S) → x.run s ≡ Ok t → view.sticky t ≡ (view.sticky s || x.marks s)
    pub stays : (s t : S) → x.run s ≡ Ok t → view.pc t ≡ view.pc s
    -- it depends on nothing but the cells that it uses
    pub depends : (s t : S) → AgreeOn view (x.uses s) s t → SameBeat s t

-- Rows I of beats.
pub record Beats (S I C V E : Type 0) : Type 0 where
  pub view : View S C V
  -- beat k of a row
  pub act : I → ℕ → Action S C E
  -- whether the row may run: there is a context, and the row is valid here
  pub ready : I → S → Bool
  -- whether a stop is for the read of a dead cell
  pub tainted : E → Bool

module _ {S I C V E : Type 0} (M : Beats S I C V E) where
  -- n beats from beat k on
  abbrev pub beats : I → ℕ → ℕ → S → Result S E
  beats i k zero s = Ok s
  beats i k (suc n) s = then ((M.act i k).run s) (beats i (suc k) n)

  -- What is asked of the rows.
  pub record BeatLaws : Type 0 where
    pub action : (i : I) (k : ℕ) → ActionLaws M.view (M.act i k)
    -- a beat leaves which rows may run
    pub valid : (i j : I) (k : ℕ) (s t : S) → (M.act i k).run s ≡ Ok t → M.ready j t ≡ M.ready j s
    -- it leaves the touches of the later beats of its row
    pub later : (i : I) (k m : ℕ) (s t : S) → M.ready i s ≡ true → (M.act i k).run s ≡ Ok t → k < m → SameTouch (M.act i m) s t
    -- where it uses dead cells it stops, as tainted or for the reason for which it would stop without them
    pub live : (i : I) (k : ℕ) (s t : S) → M.ready i s ≡ true
        → ((c : C) → (M.act i k).uses s c ≡ true → M.view.dead c (M.view.get s c) ≡ false → M.view.get s c ≡ M.view.get t c)
        → StopsBy M.tainted ((M.act i k).run s) ⊎ SameBeat M.view (M.act i k) s t
    pub ready_live : (j : I) (s t : S) → Live M.view s t → M.ready j s ≡ M.ready j t
