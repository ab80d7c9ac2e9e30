-- What each function tells of a refusal. Want of memory tells nothing.
use Rattle.std.specs.Prelude.{◌≡◌, ℕ, ◌+◌, List}
use Rattle.hm_line.specs.Labels.{LabelMap}
use Rattle.hm_asm.specs.declared.errors.AsmErr.{AsmErr}
use Rattle.hm_asm.specs.declared.errors.AsmErr.TheVariants as refusals
use Rattle.hm_asm.specs.FirstPass.{IsRefusedAs}
use Rattle.hm_source.specs.Lines.{shifted}
use Rattle.hm_asm.specs.SecondPass.{Naming, IsSaidRefused, IsNextRefused}
use Rattle.hm_asm.specs.Sources.{IsRefusedFirst}
use Rattle.hm_source.specs.Statements.{Said}

-- of the line with a number, which stands at a behind lines that gave labels m
abbrev pub IsLineErr : LabelMap → ℕ → List ℕ → ℕ → AsmErr → Type 0
IsLineErr m a line number (refusals.Line k c kind) = (k ≡ number) × IsRefusedAs kind m a line c
IsLineErr m a line number refusals.OutOfMemory = Unit {0}

-- what the first pass tells of a refusal
abbrev pub IsFirstErr : List ℕ → AsmErr → Type 0
IsFirstErr source (refusals.Line k c kind) = (n : ℕ) × (k ≡ n + 1) × IsRefusedFirst kind source n c
IsFirstErr source refusals.OutOfMemory = Unit {0}

-- of a text that says what is said, stands at a, and begins at a column of the line with a number
abbrev pub IsSaidErr : Naming → ℕ → List ℕ → ℕ → ℕ → Said → AsmErr → Type 0
IsSaidErr labels a text begin number said (refusals.Line k c kind) = (k ≡ number) × (t : ℕ) × IsSaidRefused kind labels a text said t × (c ≡ shifted begin t)
IsSaidErr labels a text begin number said refusals.OutOfMemory = Unit {0}

-- what the second pass tells of a refusal, where the first refused no line
abbrev pub IsSecondErr : Naming → List (List ℕ) → AsmErr → Type 0
IsSecondErr labels lines (refusals.Line k c kind) = (n : ℕ) × (k ≡ n + 1) × IsNextRefused kind labels 0 lines n c
IsSecondErr labels lines refusals.OutOfMemory = Unit {0}
