use Rattle.std.proofs.Common.{◌<◌, length, rules}
use Rattle.hm_source.specs.Statements.{directive}
use Rattle.hm_source.proofs.Sayings.{none_said, only_said, said_of, with_dot}
use Rattle.hm_source.proofs.statements.read_statement.Goals as goal

pub returns-then-text-eq46-clause-found : goal.returns-then-text-eq46-clause-found
returns-then-text-eq46-clause-found c =
    let some : 0 < length c.args.text.now = search rules in
    let x = c.in_ok-directive.ensures.found in
    (directive x.0, with_dot c.args.text.now x.0 some c.if-text-eq46.true x.1, x.2)

pub returns-clause-found : goal.returns-clause-found
returns-clause-found c =
    let some : 0 < length c.args.text.now = search rules in
    said_of c.args.text.now c.read_instruction.result some c.if-text-eq46.false c.read_instruction.ensures.found

pub returns-clause-only : goal.returns-clause-only
returns-clause-only c said s =
    let some : 0 < length c.args.text.now = search rules in
    only_said c.args.text.now c.read_instruction.result said some c.if-text-eq46.false c.read_instruction.ensures.only s

pub returns-clause-none : goal.returns-clause-none
returns-clause-none c =
    let some : 0 < length c.args.text.now = search rules in
    none_said c.args.text.now c.read_instruction.result some c.if-text-eq46.false c.read_instruction.ensures.none
