-- The rules of overlap: when the younger of two vector rows may do its next beat.
use Rattle.std.specs.Prelude.{ℕ, Bool, ◌||◌, not, nat_lt, cond, Option, Some, None, option_map, Result, Ok, Err}
use Rattle.std.specs.Option.{option_or}
use Rattle.hm_base.specs.Stops.{is_tainted}
use Rattle.hm_base.specs.declared.Stop.{Stop}
use Rattle.hm_beat.specs.Meeting.{clash_with}
use Rattle.hm_beat.specs.Rows.{Tree}
use Rattle.hm_beat.specs.Trees.{action}
use Rattle.hm_beat.specs.declared.clash.Clash.{Clash}
use Rattle.hm_beat.specs.declared.clash.Clash.TheVariants as clash
use Rattle.hm_state.specs.State.{State, cells}
use Rattle.hm_window.specs.declared.rule.Rule.{Rule}
use Rattle.hm_window.specs.declared.rule.Rule.TheVariants.{NotVector, Order, Register, Memory, YoungerFault}

-- The first two beats of the younger may go once two of the older are done, its others only when it is the older. (There are
-- never more than two done of it.)
abbrev pub is_too_early : ℕ → ℕ → Bool
is_too_early a b = nat_lt a 2 || not (nat_lt b 2)

-- the rule of overlap that is broken where two beats meet: on a place, or on a byte of memory
abbrev pub rule_of_clash : Clash → Rule
rule_of_clash (clash.Register p) = Register p
rule_of_clash (clash.Memory addr) = Memory addr

-- The first rule that the next beat of a younger row breaks where a beats of the older are done and b of its own: both are vector
-- rows; the beats are in order; and the beat meets none that the older has left, on no place and on no byte.
abbrev pub first_rule : Option (ℕ → Tree) → Option (ℕ → Tree) → ℕ → ℕ → State → Option Rule
first_rule (Some older) (Some younger) a b s = cond (is_too_early a b) (Some Order) (option_map rule_of_clash (clash_with older a (younger b) s))
first_rule (Some older) None a b s = Some NotVector
first_rule None younger a b s = Some NotVector

-- THE LAST RULE: a younger beat has no fault. That it stops for taint is no rule.
abbrev pub rule_of_stop : Stop → Option Rule
rule_of_stop e = cond (is_tainted e) None (Some YoungerFault)

-- the last rule, by what the younger beat comes to: a beat that is done breaks none
abbrev pub rule_of_end : {A : Type 0} → Result A Stop → Option Rule
rule_of_end (Ok x) = None
rule_of_end (Err e) = rule_of_stop e

-- the last rule, of beat b of the younger row in a state; what is no vector row has no beats
abbrev pub beat_rule : Option (ℕ → Tree) → ℕ → State → Option Rule
beat_rule (Some younger) b s = rule_of_end ((action cells (younger b)).run s)
beat_rule None b s = None

-- the first of all rules that it breaks
abbrev pub lawful_rule : Option (ℕ → Tree) → Option (ℕ → Tree) → ℕ → ℕ → State → Option Rule
lawful_rule older younger a b s = option_or (first_rule older younger a b s) (beat_rule younger b s)

-- what a call answers that judges by a rule
abbrev pub judged : Option Rule → Result Unit Rule
judged None = Ok tt
judged (Some rule) = Err rule
