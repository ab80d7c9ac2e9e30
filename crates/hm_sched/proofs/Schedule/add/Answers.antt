use Rattle.std.proofs.Common.{◌≡◌, ◌++◌, ◌∷◌, [], arith, rules, refl, ap, ◌∙◌, map}
use Rattle.std.proofs.lemmas.List.{map-append}
use Rattle.hm_sched.specs.declared.Line.{Line}
use Rattle.hm_sched.specs.Held.{schedule_view}
use Rattle.hm_sched.specs.Schedule.{line_of, most_irq, IsLine}
use Rattle.std.proofs.lemmas.List.Elements.{All-from_get_or}
use Rattle.hm_sched.proofs.WordLaws.{IsWord}
use Rattle.hm_sched.proofs.Ticks.{lines_le-most_ticks, total-push, IsSched-with_line}
use Rattle.hm_sched.proofs.Schedule.add.Goals as goal

pub overflow_cast-result : goal.overflow_cast-result
overflow_cast-result c =
    let few = lines_le-most_ticks (schedule_view c.self.inside) c.self.inside.lines.items c.self.invariant.sound refl in
    omega arith

pub overflow_add-result : goal.overflow_add-result
overflow_add-result c =
    let few = lines_le-most_ticks (schedule_view c.self.inside) c.self.inside.lines.items c.self.invariant.sound refl in
    omega arith

pub invariant_of-self-2 : goal.invariant_of-self-2
invariant_of-self-2 c =
    let line : Line = record { count = c.args.count; letters = c.held.result; irq = c.args.irq.now } in
    let lines : map line_of c.push.new.self.items ≡ map line_of c.self.inside.lines.items ++ line_of line ∷ [] =
    ap (map line_of) c.in_ok-push.ensures.items ∙ map-append line_of c.self.inside.lines.items (line ∷ []) in
    let one : IsLine (most_irq c.self.inside.format) (line_of line) = record {
      some = c.requires.some;
      few = rw c.held.ensures.same c.requires.few;
      each_letter = rw c.held.ensures.same c.requires.each_letter;
      eight = search rules;
      each_word = All-from_get_or IsWord c.args.irq.now 0 (λ i _. c.fits-irq i);
      interrupts = rw (← c.self.view_is) at c.requires.named;
    } in
    let sum = c.self.invariant.sum in
    record {
      sound = rw lines (IsSched-with_line (schedule_view c.self.inside) (line_of line) c.self.invariant.sound one (omega arith));
      sum = rw (lines, total-push (map line_of c.self.inside.lines.items) (line_of line)) (omega arith);
    }
