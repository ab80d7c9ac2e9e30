use Rattle.std.proofs.Common.{ap, rules, ◌/◌, ◌%◌}
use Rattle.hm_soak_laws.specs.Soak as soak
use Rattle.hm_soak_laws.specs.Soak.{operation_of}
use Rattle.hm_soak.proofs.Made.{operation_made, the_last}
use Rattle.hm_soak.proofs.rows.operation.Goals as goal

pub returns-in-0 : goal.returns-in-0
returns-in-0 c = record { row = operation_made c.args.k c.args.v soak.Add c.add_row.result (ap operation_of c.in-0.is) c.add_row.ensures.row }

pub returns-in-1 : goal.returns-in-1
returns-in-1 c = record { row = operation_made c.args.k c.args.v soak.Sub c.add_row-in-1.result (ap operation_of c.in-1.is) c.add_row-in-1.ensures.row }

pub returns-in-2 : goal.returns-in-2
returns-in-2 c = record { row = operation_made c.args.k c.args.v soak.Mul c.add_row-in-2.result (ap operation_of c.in-2.is) c.add_row-in-2.ensures.row }

pub returns-in-3 : goal.returns-in-3
returns-in-3 c = record { row = operation_made c.args.k c.args.v soak.Eor c.bitwise_row.result (ap operation_of c.in-3.is) c.bitwise_row.ensures.row }

pub returns-in_default : goal.returns-in_default
returns-in_default c =
    let last = the_last (c.args.v / 256 % 5) (search rules) (search rules) (search rules) (search rules) in
    record { row = operation_made c.args.k c.args.v soak.Max c.signed_row.result last c.signed_row.ensures.row }
