-- The schedule of a soak.
use Rattle.std.specs.Prelude.{ℕ, zero, suc, ◌+◌, ◌%◌, true, nat_eq, if◌then◌else◌, List, [], ◌∷◌, ◌++◌}
use Rattle.hm_base.specs.Image.{sram_start}
use Rattle.hm_sched.specs.Schedule.{Sched, TickLine, low_irq, no_irq, older_letter, plain, plain_line, younger_letter}
use Rattle.hm_soak_laws.specs.Soak.{length_in_order}

-- so many ticks of two steps of the older
abbrev pub twice : ℕ → TickLine
twice n = record { count = n; letters = older_letter ∷ older_letter ∷ []; irq = no_irq }

-- one tick of a step of the older and one of the younger, in which these of interrupts 0 to 31 arrive
abbrev pub both : ℕ → TickLine
both irq = record { count = 1; letters = older_letter ∷ younger_letter ∷ []; irq = low_irq irq }

-- the lines of pair p: at every 64th interrupt 0 arrives, and three ticks are the handler's
abbrev pub pair_lines : ℕ → List TickLine
pair_lines p = if nat_eq (p % 64) 0 then twice 1 ∷ both 1 ∷ plain_line 3 ∷ [] else twice 1 ∷ both 0 ∷ []

-- those of n pairs, from p on
unfoldable pub pairs : ℕ → ℕ → List TickLine
pairs zero p = []
pairs (suc n) p = pair_lines p ++ pairs n (p + 1)

-- THE SCHEDULE of every soak
unfoldable pub schedule : Sched
schedule = record {
  format = 1;
  entries = true;
  lo = sram_start;
  hi = sram_start;
  floor = 0x2000f000;
  process = 0x2000f000;
  lines = plain_line 16 ∷ (pairs 4095 1 ++ (twice 2 ∷ plain_line 1 ∷ []));
}

-- and the one that it is compared with: all its instructions in order
unfoldable pub in_order_schedule : Sched
in_order_schedule = plain length_in_order
