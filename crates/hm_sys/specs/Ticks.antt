-- The timer and arrivals at the end of a tick.
use Rattle.std.specs.Prelude.{ℕ, ◌-◌, ◌/◌, ◌%◌, ◌^◌, ◌==◌, Bool, ◌||◌, bit_or, List, [], ◌∷◌, slice_index, set, if◌then◌else◌}
use Rattle.hm_mem.specs.declared.Dev.{Dev}

-- SysTick is enabled
abbrev pub is_counting : Dev → Bool
is_counting d = d.csr % 2 == 1

-- where it comes to 0 it sets COUNTFLAG and, where TICKINT is set, becomes pending
abbrev pub at_zero : Dev → Dev
at_zero d = record d { csr = bit_or d.csr (2 ^ 16); tick_pending = d.tick_pending || (d.csr / 2 % 2 == 1) }

-- it has counted down: it may have come to 0
abbrev pub expired : Dev → Dev
expired d = if d.cvr == 0 then at_zero d else d

-- SYSTICK COUNTS, where it is enabled: at 0 it takes the reload value, else it goes down by 1
abbrev pub counted : Dev → Dev
counted d = if is_counting d then (if d.cvr == 0 then record d { cvr = d.rvr } else expired (record d { cvr = d.cvr - 1 })) else d

-- the interrupts of word k whose bits are set in x become pending
abbrev pub with_pending : ℕ → ℕ → Dev → Dev
with_pending k x d = record d { pending = set d.pending k (bit_or (slice_index d.pending k) x) }

-- eight words, by their numbers
abbrev pub eight : (ℕ → ℕ) → List ℕ
eight f = f 0 ∷ f 1 ∷ f 2 ∷ f 3 ∷ f 4 ∷ f 5 ∷ f 6 ∷ f 7 ∷ []

-- the interrupts whose bits are set in eight words become pending
abbrev pub arrived : List ℕ → Dev → Dev
arrived irq d = record d { pending = eight (λ k. bit_or (slice_index d.pending k) (slice_index irq k)) }
