use Rattle.std.proofs.Common.{suc}
use Rattle.hm_machine.proofs.Plain.{shown_order, shown_position, shown_taint}
use Rattle.hm_machine.proofs.machine.Machine.tick.Goals as goal

pub returns-clause-order : goal.returns-clause-order
returns-clause-order c image s t listing is h = shown_order image s (suc t) _ (c.tick_with.ensures.shows image s t h) listing is

pub returns-clause-position : goal.returns-clause-position
returns-clause-position c image s t listing is h = shown_position image s (suc t) _ (c.tick_with.ensures.shows image s t h) listing is

pub returns-clause-taint : goal.returns-clause-taint
returns-clause-taint c image s t listing is h = shown_taint image s (suc t) _ (c.tick_with.ensures.shows image s t h) listing is
