-- A vector register as bytes and as lanes.
use Rattle.std.specs.Prelude.{ℕ, ◌+◌, ◌*◌, ◌/◌, ◌%◌, ◌^◌, Bool, false, cond, List, [], ◌∷◌, get_or}
use Rattle.std.specs.List.{flat_map}
use Rattle.hm_lane.specs.declared.lanes.Size.{Size}
use Rattle.hm_lane.specs.declared.lanes.Size.TheVariants.{Byte, Half, Word}

-- the four bytes of a word, lowest first
abbrev pub bytes_of : ℕ → List ℕ
bytes_of x = x % 256 ∷ x / 256 % 256 ∷ x / 65536 % 256 ∷ x / 16777216 % 256 ∷ []

-- the words of a list of bytes
abbrev pub words : List ℕ → List ℕ
words (a ∷ b ∷ c ∷ d ∷ v) = (a + 256 * b + 65536 * c + 16777216 * d) ∷ words v
words _ = []

-- the first word of a list of bytes
abbrev pub word_of : List ℕ → ℕ
word_of v = get_or (words v) 0 0

-- the halfwords of a list of bytes, the lowest byte of each first
abbrev pub halves : List ℕ → List ℕ
halves (a ∷ b ∷ v) = (a + 256 * b) ∷ halves v
halves _ = []

-- the lanes of a list of bytes, the first one lowest
abbrev pub lanes : Size → List ℕ → List ℕ
lanes Byte v = v
lanes Half v = halves v
lanes Word v = words v

-- how many lanes a word has
abbrev pub per_word : Size → ℕ
per_word Byte = 4
per_word Half = 2
per_word Word = 1

-- the bytes of a list of lanes
abbrev pub unlanes : Size → List ℕ → List ℕ
unlanes Byte l = flat_map (λ (x : ℕ). x % 256 ∷ []) l
unlanes Half l = flat_map (λ (x : ℕ). x % 256 ∷ x / 256 % 256 ∷ []) l
unlanes Word l = flat_map bytes_of l

-- f of the elements of two lists
abbrev pub paired : (ℕ → ℕ → ℕ) → List ℕ → List ℕ → List ℕ
paired f (x ∷ xs) (y ∷ ys) = f x y ∷ paired f xs ys
paired f _ _ = []

-- the new bytes where the predicate is true, the old ones elsewhere
abbrev pub merged : List Bool → List ℕ → List ℕ → List ℕ
merged (p ∷ ps) (x ∷ xs) (y ∷ ys) = cond p y x ∷ merged ps xs ys
merged _ _ _ = []

-- how many numbers a lane holds
abbrev pub modulus : Size → ℕ
modulus Byte = 2 ^ 8
modulus Half = 2 ^ 16
modulus Word = 2 ^ 32

-- a truth value for each lane, at its lowest byte
abbrev pub spread : Size → List Bool → List Bool
spread Byte l = l
spread Half l = flat_map (λ (v : Bool). v ∷ false ∷ []) l
spread Word l = flat_map (λ (v : Bool). v ∷ false ∷ false ∷ false ∷ []) l

-- of a truth value for each byte, those of the lanes: a lane has that of its lowest byte
abbrev pub firsts : Size → List Bool → List Bool
firsts Byte l = l
firsts Half (p ∷ q ∷ l) = p ∷ firsts Half l
firsts Half _ = []
firsts Word (p ∷ q ∷ r ∷ s ∷ l) = p ∷ firsts Word l
firsts Word _ = []

-- whether g holds, of each two elements of two lists
abbrev pub paired_tests : (ℕ → ℕ → Bool) → List ℕ → List ℕ → List Bool
paired_tests g (x ∷ xs) (y ∷ ys) = g x y ∷ paired_tests g xs ys
paired_tests g _ _ = []
