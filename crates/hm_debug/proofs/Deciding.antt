-- Whether a line says a command is decided, and it says one alone.
use Rattle.std.proofs.Common.{◌≡◌, ◌⊎◌, inl, inr, ℕ, ◌+◌, ◌^◌, ◌<◌, ◌≤◌, ◌%◌, arith, sym, ◌∙◌, subst, List, Option, Some, None}
use Rattle.std.proofs.lemmas.Bool.{cases_eq, cases_lt}
use Rattle.hm_base.specs.Image.{flash_size}
use Rattle.hm_sched.specs.Schedule.{most_ticks}
use Rattle.hm_text_base.proofs.Steps.{some_is}
use Rattle.hm_debug.proofs.Reading.{is_read, read_in}
use Rattle.hm_debug.specs.Commands.{Fits, IsRead, Says, most_bytes, most_listed}
use Rattle.hm_debug.specs.declared.command.Command.{Command}
use Rattle.hm_debug.specs.declared.command.Command.TheVariants.{Goto, Until, Memory, Listing}

abbrev pub Decided : Type 0 → Type 0
Decided P = P ⊎ (P → ⊥)

abbrev pub Said : List ℕ → Type 0
Said line = (c : Command) × Says line c

-- NUMBERS
below : (a b : ℕ) → Decided (a < b)
below a b = elim (cases_lt a b) [ inl h ↦ inl h | inr h ↦ inr (λ k. omega arith) ]

up_to : (a b : ℕ) → Decided (a ≤ b)
up_to a b = elim (cases_lt b a) [ inl h ↦ inr (λ k. omega arith) | inr h ↦ inl h ]

three : {A B C : Type 0} → Decided A → Decided B → Decided C → Decided (A × B × C)
three (inl a) (inl b) (inl c) = inl (a, b, c)
three (inl a) (inl b) (inr c) = inr (λ h. c h.2)
three (inl a) (inr b) c = inr (λ h. b h.1)
three (inr a) b c = inr (λ h. a h.0)

four : {A B C D : Type 0} → Decided A → Decided B → Decided C → Decided D → Decided (A × B × C × D)
four (inl a) (inl b) (inl c) (inl d) = inl (a, b, c, d)
four (inl a) (inl b) (inl c) (inr d) = inr (λ h. d h.3)
four (inl a) (inl b) (inr c) d = inr (λ h. c h.2)
four (inl a) (inr b) c d = inr (λ h. b h.1)
four (inr a) b c d = inr (λ h. a h.0)

fits_decided : (c : Command) → Decided (Fits c)
fits_decided (Goto n) = up_to n most_ticks
fits_decided (Until a) = below a (2 ^ 32)
fits_decided (Memory a n) = three (up_to (a + n) (2 ^ 32)) (below 0 n) (up_to n most_bytes)
fits_decided (Listing a n) = four (cases_eq (a % 2) 0) (below a flash_size) (below 0 n) (up_to n most_listed)
fits_decided c = inl tt

-- LINES
decided_by : (line : List ℕ) (read : Option Command) → IsRead line read → Decided (Said line)
decided_by line None is = inr (λ h. let no : None ≡ Some h.0 = is.finds h.0 h.1 in cc)
decided_by line (Some c) is =
    elim (fits_decided c) [
      | inl fits ↦ inl (c, record { reads = is.reads; fits = fits })
      | inr none ↦ inr (λ h. none (subst Fits (sym (some_is c h.0 (is.finds h.0 h.1))) h.1.fits))
    ]

pub said_decided : (line : List ℕ) → Decided (Said line)
said_decided line = decided_by line (read_in line) (is_read line)

pub one_command : (line : List ℕ) (c d : Command) → Says line c → Says line d → c ≡ d
one_command line c d s t = some_is c d (sym ((is_read line).finds c s) ∙ (is_read line).finds d t)
