-- The priorities of the devices.
use Rattle.std.specs.Prelude.{◌≡◌, ℕ, ◌%◌, ◌<◌, All}
use Rattle.hm_mem.specs.declared.Dev.{Dev}

-- a priority is a byte of which bits 7:5 alone may be set: one of eight
abbrev pub IsLevel : ℕ → Type 0
IsLevel p = (p % 32 ≡ 0) × (p < 256)

-- each interrupt has one, and SysTick
pub record HasLevels (d : Dev) : Type 0 where
  pub interrupts : All IsLevel d.prio
  pub tick : IsLevel d.tick_prio
