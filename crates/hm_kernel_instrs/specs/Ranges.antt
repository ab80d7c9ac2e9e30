-- What an item says, within its ranges.
use Rattle.std.specs.Prelude.{ℕ, ◌+◌, ◌^◌, ◌<◌, List}
use Rattle.std.specs.List.{AllByRecursion}
use Rattle.hm_kernel_lang.specs.declared.machine.Item.{Item}
use Rattle.hm_kernel_lang.specs.declared.machine.Item.TheVariants.{Plain, Begin, Again, Stop}
use Rattle.hm_kernel_lang.specs.declared.machine.Kind.{Kind}
use Rattle.hm_kernel_lang.specs.declared.machine.Kind.TheVariants.{Clear, Low, High, LowLength, HighLength, Offset, Splat, Load, Store, Do, Further}

-- a number of a kind has 16 bits, and a vector register is one of eight
abbrev pub KindFits : Kind → Type 0
KindFits Clear = Unit {0}
KindFits (Low n) = n < 2 ^ 16
KindFits (High n) = n < 2 ^ 16
KindFits (LowLength n) = n < 2 ^ 16
KindFits (HighLength n) = n < 2 ^ 16
KindFits Offset = Unit {0}
KindFits (Splat q) = q < 8
KindFits (Load q) = q < 8
KindFits (Store q) = q < 8
KindFits (Do o q) = q + 1 < 8
KindFits Further = Unit {0}

-- a loop is short enough for its branches
abbrev pub ItemFits : Item → Type 0
ItemFits (Plain k) = KindFits k
ItemFits (Begin h) = h < 2048
ItemFits (Again h) = h < 2048
ItemFits Stop = Unit {0}

-- each of these does
abbrev pub ItemsFit : List Item → Type 0
ItemsFit = AllByRecursion ItemFits
