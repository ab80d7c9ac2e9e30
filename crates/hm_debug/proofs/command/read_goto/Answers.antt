use Rattle.std.proofs.Common.{ap, ◌∙◌, ℕ}
use Rattle.std.specs.Option.{option_map}
use Rattle.hm_debug.proofs.Reading.{as_read, goto_read}
use Rattle.hm_debug.specs.declared.command.Command.TheVariants.{Goto}
use Rattle.hm_debug.proofs.command.read_goto.Goals as goal

pub returns-in_err-tick : goal.returns-in_err-tick
returns-in_err-tick c = record
    { read = as_read _ _ _ (goto_read c.args.text.now) (c.from_residual.ensures ∙ ap (option_map (λ (n : ℕ). Goto n)) c.in_err-tick.ensures.value) }

pub returns : goal.returns
returns c = record { read = as_read _ _ _ (goto_read c.args.text.now) (ap (option_map (λ (n : ℕ). Goto n)) c.in_ok-tick.ensures.value) }
