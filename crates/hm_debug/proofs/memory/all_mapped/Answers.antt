use Rattle.std.proofs.Common.{◌≡◌, ◌+◌, rules, sym, ◌∙◌, true, false, is_none}
use Rattle.hm_debug.proofs.Bytes.{mapped_off, mapped_on}
use Rattle.hm_mem.specs.Memory.{told_at}
use Rattle.hm_debug.proofs.memory.all_mapped.Goals as goal

pub loop-k-preserved : goal.loop-k-preserved
loop-k-preserved c =
    let there : is_none (told_at c.args.machine.now.memory (c.args.at + c.loop-k.k)) ≡ false = search rules in
    sym (mapped_on c.args.machine.now.memory c.args.at c.args.count c.loop-k.k c.loop-k-test.true there) ∙ c.loop-k.invariant

pub returns-then-is_none : goal.returns-then-is_none
returns-then-is_none c =
    let gone : is_none (told_at c.args.machine.now.memory (c.args.at + c.loop-k.k)) ≡ true = search rules in
    record { value = sym (mapped_off c.args.machine.now.memory c.args.at c.args.count c.loop-k.k c.loop-k-test.true gone) ∙ c.loop-k.invariant }
