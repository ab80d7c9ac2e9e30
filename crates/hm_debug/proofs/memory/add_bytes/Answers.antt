use Rattle.std.proofs.Common.{◌≡◌, ◌+◌, rules, ◌∙◌, ap, is_some, Some}
use Rattle.hm_debug.proofs.Bytes.{bytes_none, bytes_on, mapped_here}
use Rattle.hm_machine.specs.Shown.{timed_of}
use Rattle.hm_mem.specs.Memory.{told_at}
use Rattle.hm_debug.proofs.memory.add_bytes.Goals as goal

pub unwrap-byte-requires : goal.unwrap-byte-requires
unwrap-byte-requires c =
    let here = (mapped_here c.args.machine.now.memory c.args.at c.args.count c.loop-k.k c.loop-k-test.true c.loop-k.invariant.there).0 in
    ap (λ o. is_some o) c.byte.ensures.value ∙ here

pub loop-k-preserved : goal.loop-k-preserved
loop-k-preserved c =
    let m = c.args.machine.now in
    let told : told_at m.memory (c.args.at + c.loop-k.k) ≡ Some c.unwrap-byte.result = search rules in
    record {
      there = (mapped_here m.memory c.args.at c.args.count c.loop-k.k c.loop-k-test.true c.loop-k.invariant.there).1;
      left = bytes_on m.regs m.memory m.output c.args.at c.args.count c.loop-k.k c.unwrap-byte.result _ _ _ c.loop-k-test.true told c.in_ok-hex2.ensures
          c.loop-k.invariant.left;
    }

pub returns : goal.returns
returns c = record {
  added = bytes_none (timed_of c.args.machine.now).config.state (c.args.at + c.loop-k.k) c.args.count c.loop-k.k _ _ c.loop-k-test.false
      c.loop-k.invariant.left;
}
