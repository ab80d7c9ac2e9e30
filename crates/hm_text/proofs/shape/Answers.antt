use Rattle.std.specs.Prelude.{option_map}
use Rattle.hm_tokens.specs.Tokens.{tok}
use Rattle.hm_text_tables.proofs.Told.{no_shape_refusal, no_widths, shape_refusals, widths_of}
use Rattle.hm_text.proofs.shape.Goals as goal

pub returns-in-Ok-clause-width : goal.returns-in-Ok-clause-width
returns-in-Ok-clause-width c = widths_of c.args.text.now c.in-Ok.shape.width (option_map tok c.in-Ok.shape.label) c.in-Ok.ensures.told c.in-Ok.ensures.only

pub returns-in-Ok-clause-refused : goal.returns-in-Ok-clause-refused
returns-in-Ok-clause-refused c = no_shape_refusal c.args.text.now c.in-Ok.shape.width (option_map tok c.in-Ok.shape.label) c.in-Ok.ensures.told

pub returns-in-Err-clause-width : goal.returns-in-Err-clause-width
returns-in-Err-clause-width c = no_widths c.args.text.now c.in-Err.e c.in-Err.ensures.told

pub returns-in-Err-clause-refused : goal.returns-in-Err-clause-refused
returns-in-Err-clause-refused c = shape_refusals c.args.text.now c.in-Err.e c.in-Err.ensures.told
