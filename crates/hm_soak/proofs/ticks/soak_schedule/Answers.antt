use Rattle.std.proofs.Common.{◌≡◌, [], ◌∷◌, refl, arith}
use Rattle.hm_sched.specs.Schedule.{total}
use Rattle.hm_soak_laws.specs.Schedule.{twice}
use Rattle.hm_soak.proofs.Lines.{all_lines, total_more}
use Rattle.hm_soak.proofs.ticks.soak_schedule.Goals as goal

pub add_wholes-requires-2-clause-room : goal.add_wholes-requires-2-clause-room
add_wholes-requires-2-clause-room c =
    let sum = total_more (twice 2 ∷ []) c.add_pairs.new.lines c.add_twice.new.lines c.in_ok-add_twice.ensures.added in
    let two : total (twice 2 ∷ []) ≡ 2 = refl in
    let few = c.in_ok-add_pairs.ensures.few in
    omega arith

pub returns : goal.returns
returns c = record {
  value = all_lines c.begin-lines.result c.add_wholes.new.lines c.add_pairs.new.lines c.add_twice.new.lines c.add_wholes-2.new.lines c.begin-lines.ensures.made
      c.in_ok-add_wholes.ensures.added
      c.in_ok-add_pairs.ensures.added c.in_ok-add_twice.ensures.added c.in_ok-add_wholes-2.ensures.added;
}
