use Rattle.std.proofs.Common.{map}
use Rattle.std.specs.Prelude.{option_map}
use Rattle.hm_tokens.specs.Tokens.{tok}
use Rattle.hm_text_tables.proofs.InTables.{none_near, seen_near}
use Rattle.hm_text_tables.proofs.OneRow.{nothing_is}
use Rattle.hm_text_tables.proofs.Tails.{the_label}
use Rattle.hm_text_tables.proofs.reading.single_shape.Goals as goal

pub returns-in_err-i-clause-only : goal.returns-in_err-i-clause-only
returns-in_err-i-clause-only c j u has =
    absurd
    (none_near (map tok c.args.tokens.now) (λ k is. nothing_is k (c.in_err-i.ensures.only k is)) j u has)

pub returns-clause-found : goal.returns-clause-found
returns-clause-found c =
    let is = c.in_ok-i.ensures.found in (
      c.in_ok-i.i,
      is.label,
      is.has,
      c.width.ensures,
      the_label c.in_ok-i.i (map tok c.args.tokens.now) c.has_label.result (option_map tok c.label_in-label.result) c.has_label.ensures.value
          c.label_in-label.ensures.label is.label is.has,
    )

pub returns-clause-only : goal.returns-clause-only
returns-clause-only c =
    let ts = map tok c.args.tokens.now in
    let label = option_map tok c.label_in-label.result in
    seen_near ts c.in_ok-i.i c.width.result label c.width.ensures c.in_ok-i.ensures.only
    (the_label c.in_ok-i.i ts c.has_label.result label c.has_label.ensures.value c.label_in-label.ensures.label)
