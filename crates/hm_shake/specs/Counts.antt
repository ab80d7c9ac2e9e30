-- HOW OFTEN each kind of outcome came, in runs with these ends.
use Rattle.std.specs.Prelude.{◌≡◌, ◌⊎◌, ℕ, zero, suc, ◌+◌, ◌<◌, ◌≤◌, List, [], ◌∷◌}
use Rattle.std.specs.List.{All}
use Rattle.hm_shake_runs.specs.declared.found.Found.{Found}
use Rattle.hm_shake_runs.specs.declared.kinds.Ended.{Ended}
use Rattle.hm_shake_runs.specs.declared.kinds.Kind.{Kind}

-- so many of the numbers below n have a property
abbrev pub HowMany : (ℕ → Type 0) → ℕ → ℕ → Type 0
HowMany P zero c = c ≡ 0
HowMany P (suc n) c = (P n × (d : ℕ) × (c ≡ d + 1) × HowMany P n d) ⊎ ((P n → ⊥) × HowMany P n c)

-- a run came to a kind
abbrev pub CameTo : (ℕ → Ended) → Kind → ℕ → Type 0
CameTo ends k run = (ends run).kind ≡ k

-- a kind came in this run, one of the first n, which began so many ticks
pub record CameIn (ends : ℕ → Ended) (n : ℕ) (x : Found) : Type 0 where
  pub one : x.run < n
  pub ended : ends x.run ≡ record { kind = x.kind; ticks = x.ticks }

-- what is told of a kind is so: how many of the first n runs came to it, and which of them is the first of those with the fewest ticks
pub record IsCounted (ends : ℕ → Ended) (n : ℕ) (x : Found) : Type 0 where
  pub count : HowMany (CameTo ends x.kind) n x.count
  pub came : CameIn ends n x
  pub fewest : (run : ℕ) → run < n → CameTo ends x.kind run → x.ticks ≤ (ends run).ticks
  pub first : (run : ℕ) → run < x.run → CameTo ends x.kind run → x.ticks < (ends run).ticks

-- a kind is among them
abbrev pub HasKind : Kind → List Found → Type 0
HasKind k [] = ⊥
HasKind k (x ∷ xs) = (x.kind ≡ k) ⊎ HasKind k xs

-- no run up to this one came to a kind
abbrev pub IsLater : (ℕ → Ended) → ℕ → Found → Type 0
IsLater ends run y = (k : ℕ) → k ≤ run → CameTo ends y.kind k → ⊥

-- of the first n runs one came to this kind before any came to those kinds
abbrev pub CameBefore : (ℕ → Ended) → ℕ → Found → List Found → Type 0
CameBefore ends n x ys = (run : ℕ) × (run < n) × CameTo ends x.kind run × All (IsLater ends run) ys

-- the kinds are in the order in which they came first, and so no kind is among them twice
abbrev pub AreInOrder : (ℕ → Ended) → ℕ → List Found → Type 0
AreInOrder ends n [] = Unit {0}
AreInOrder ends n (x ∷ xs) = CameBefore ends n x xs × AreInOrder ends n xs

-- THE KINDS of the first n runs: that of each run, each once, with what is told of it
pub record AreCounted (ends : ℕ → Ended) (n : ℕ) (xs : List Found) : Type 0 where
  pub each : All (IsCounted ends n) xs
  pub order : AreInOrder ends n xs
  pub all : (run : ℕ) → run < n → HasKind (ends run).kind xs
