-- What a host tells of itself, and what its calls do to that.
use Rattle.std.specs.Prelude.{◌≡◌, ◌⊎◌, ◌≢◌, ℕ, ◌+◌, ◌^◌, ◌<◌, ◌≤◌, Bool, true, false, List, [], ◌∷◌, ◌++◌, length, take, Option, Some, None, Result, Ok, Err}
use Rattle.std.specs.Ordering.{nat_cmp}
use Rattle.std.specs.Cmp.Lexicographic.{slice_cmp}
use Rattle.std.specs.FinMap.{FinMap, get, insert}
use Rattle.hm_host.specs.declared.host.HostErr.{HostErr}
use Rattle.hm_host.specs.declared.host.HostErr.TheVariants.{Failed, TooLarge, OutOfMemory}

-- from the names of files to their bytes
abbrev pub FileMap : Type 0
FileMap = FinMap (slice_cmp nat_cmp) (List ℕ)

-- the longest file that is read
abbrev pub longest : ℕ
longest = 16777216

-- a call of a host, with the name and the bytes that it was given
pub data Call : Type 0 where
  read : (name : List ℕ) → Call
  write : (name : List ℕ) (bytes : List ℕ) → Call
  print : (bytes : List ℕ) → Call

-- a call that was made, and whether it answered Failed
pub record Made : Type 0 where
  pub call : Call
  pub failed : Bool

-- a call that was made and did not answer Failed
abbrev pub answered : Call → Made
answered call = record { call = call; failed = false }

-- a call that was made and answered Failed
abbrev pub failed : Call → Made
failed call = record { call = call; failed = true }

-- what a host tells: its files, its printed bytes and the calls made on it, each where it tells them, and its count of faults
pub record HostState : Type 0 where
  pub files : Option FileMap
  pub printed : Option (List ℕ)
  pub calls : Option (List Made)
  pub faults : ℕ

-- what was told is told still, as the same
abbrev pub Stays : {A : Type 0} → Option A → Option A → Type 0
Stays {A} old new = (x : A) → old ≡ Some x → new ≡ Some x

-- what was told is told still, as f of what it was
abbrev pub Becomes : {A : Type 0} → (A → A) → Option A → Option A → Type 0
Becomes {A} f old new = (x : A) → old ≡ Some x → new ≡ Some (f x)

-- what was told is told still, as something that R relates to what it was
abbrev pub Changes : {A : Type 0} → (A → A → Type 0) → Option A → Option A → Type 0
Changes {A} R old new = (x : A) → old ≡ Some x → (y : A) × (new ≡ Some y) × R x y

-- what is told no more is never told again
abbrev pub EndsForGood : {A : Type 0} → Option A → Option A → Type 0
EndsForGood old new = old ≡ None → new ≡ None

-- all files but the named one are as before
abbrev pub KeepsOthers : List ℕ → FileMap → FileMap → Type 0
KeepsOthers name old new = (other : List ℕ) → other ≢ name → get new other ≡ get old other

-- a prefix of the piece was added
abbrev pub AddsPrefix : List ℕ → List ℕ → List ℕ → Type 0
AddsPrefix piece old new = (n : ℕ) × (new ≡ old ++ take n piece)

-- the count rose, or it stands at the last value of its counter
abbrev pub Rose : ℕ → ℕ → Type 0
Rose old new = (old < new) ⊎ ((new ≡ old) × (2 ^ 64 ≤ new + 1))

-- only a failed call changes the count
abbrev pub Counts : {T : Type 0} → ℕ → ℕ → Result T HostErr → Type 0
Counts old new (Ok _) = new ≡ old
Counts old new (Err Failed) = Rose old new
Counts old new (Err TooLarge) = new ≡ old
Counts old new (Err OutOfMemory) = new ≡ old

-- what a call does to the calls that are told. None are told any more only where memory was wanted
abbrev pub Makes : {T : Type 0} → Call → Option (List Made) → Option (List Made) → Result T HostErr → Type 0
Makes call old new (Ok _) = Becomes (λ made. made ++ answered call ∷ []) old new
Makes call old new (Err Failed) = Becomes (λ made. made ++ failed call ∷ []) old new
Makes call old new (Err TooLarge) = Becomes (λ made. made ++ answered call ∷ []) old new
Makes call old new (Err OutOfMemory) = (new ≡ None) ⊎ Becomes (λ made. made ++ answered call ∷ []) old new

-- the answer to a read. What is read is not too long, and where the files are told it is the whole file; too large is
-- answered only of a file that is too long. Memory may be wanted at any file: at one that is too long, whichever comes first
abbrev pub Reads : {T : Type 0} → Option FileMap → List ℕ → (T → List ℕ) → Result T HostErr → Type 0
Reads files name items (Ok bytes) = (length (items bytes) ≤ longest) × ((F : FileMap) → files ≡ Some F → get F name ≡ Some (items bytes))
Reads files name items (Err Failed) = Unit {0}
Reads files name items (Err TooLarge) = (F : FileMap) → files ≡ Some F → (bytes : List ℕ) × (get F name ≡ Some bytes) × (longest < length bytes)
Reads files name items (Err OutOfMemory) = Unit {0}

-- what a write does to the files
abbrev pub Writes : {T : Type 0} → List ℕ → List ℕ → Option FileMap → Option FileMap → Result T HostErr → Type 0
Writes name bytes old new (Ok _) = Becomes (λ F. insert F name bytes) old new
Writes name bytes old new (Err Failed) = Changes (KeepsOthers name) old new
Writes name bytes old new (Err TooLarge) = ⊥
Writes name bytes old new (Err OutOfMemory) = Stays old new

-- what a print does to the printed bytes
abbrev pub Prints : {T : Type 0} → List ℕ → Option (List ℕ) → Option (List ℕ) → Result T HostErr → Type 0
Prints piece old new (Ok _) = Becomes (λ P. P ++ piece) old new
Prints piece old new (Err Failed) = Changes (AddsPrefix piece) old new
Prints piece old new (Err TooLarge) = ⊥
Prints piece old new (Err OutOfMemory) = Stays old new
