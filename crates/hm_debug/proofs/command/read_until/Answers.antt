use Rattle.std.proofs.Common.{ap, ◌∙◌, ℕ}
use Rattle.std.specs.Option.{option_map}
use Rattle.hm_debug.proofs.Reading.{as_read, until_read}
use Rattle.hm_debug.specs.declared.command.Command.TheVariants.{Until}
use Rattle.hm_debug.proofs.command.read_until.Goals as goal

pub returns-in_err-addr : goal.returns-in_err-addr
returns-in_err-addr c = record
    { read = as_read _ _ _ (until_read c.args.text.now) (c.from_residual.ensures ∙ ap (option_map (λ (n : ℕ). Until n)) c.in_err-addr.ensures.value) }

pub returns : goal.returns
returns c = record { read = as_read _ _ _ (until_read c.args.text.now) (ap (option_map (λ (n : ℕ). Until n)) c.in_ok-addr.ensures.value) }
