-- Words, halfwords and codes as the bytes that stand for them in memory.
use Rattle.std.specs.Prelude.{ℕ, ◌/◌, ◌%◌, List, [], ◌∷◌, ◌++◌}
use Rattle.hm_isa.specs.declared.Instr.{Instr}
use Rattle.hm_isa.specs.Code.{halfwords}

-- a word, its low byte first
abbrev pub word_bytes : ℕ → List ℕ
word_bytes w = w % 256 ∷ w / 256 % 256 ∷ w / 65536 % 256 ∷ w / 16777216 % 256 ∷ []

-- halfwords one behind another, each with its low byte first
abbrev pub half_bytes : List ℕ → List ℕ
half_bytes [] = []
half_bytes (h ∷ hs) = h % 256 ∷ h / 256 ∷ half_bytes hs

-- the code of an instruction, each halfword with its low byte first
abbrev pub code_bytes : Instr → List ℕ
code_bytes i = half_bytes (halfwords i)

-- the halfwords of instructions one behind another
abbrev pub all_halves : List Instr → List ℕ
all_halves [] = []
all_halves (i ∷ is) = halfwords i ++ all_halves is
