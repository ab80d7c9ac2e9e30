use Rattle.std.proofs.Common.{◌≡◌, ◌+◌, ◌-◌, ◌*◌, ◌/◌, min, rules}
use Rattle.hm_debug.proofs.Bytes.{rows_none, rows_on}
use Rattle.hm_machine.specs.Shown.{timed_of}
use Rattle.hm_debug.proofs.memory.add_memory.Goals as goal

pub loop-row-preserved : goal.loop-row-preserved
loop-row-preserved c =
    let least : c.min-count.result ≡ min (c.args.len - c.loop-row.row * 16) 16 = search rules in
    rows_on (timed_of c.args.machine.now).config.state c.args.addr c.args.len c.loop-row.row c.min-count.result _ _ _ c.loop-row-test.true least
    c.in_ok-add_row.ensures.added c.loop-row.invariant

pub returns : goal.returns
returns c = record {
  added = rows_none (timed_of c.args.machine.now).config.state (c.args.addr + c.loop-row.row * 16) (c.args.len - c.loop-row.row * 16)
      ((c.args.len + 15) / 16) c.loop-row.row _ _ c.loop-row-test.false c.loop-row.invariant;
}
