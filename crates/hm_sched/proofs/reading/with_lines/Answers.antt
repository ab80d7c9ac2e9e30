use Rattle.std.proofs.Common.{◌≡◌, ℕ, ◌+◌, ◌≤◌, ◌∷◌, ◌++◌, [], Ok, ◌∙◌, sym, ap, inl, inr, arith, rules}
use Rattle.std.proofs.lemmas.Bool.{cases_lt}
use Rattle.std.proofs.lemmas.List.{length_push}
use Rattle.hm_sched.specs.Schedule.{Sched, most_irq, first_line, most_ticks, total}
use Rattle.std.proofs.lemmas.Result.{err_from_is_err_and}
use Rattle.hm_text_base.specs.Spans.{lines_of}
use Rattle.hm_text_base.proofs.LineLaws.{some_lines}
use Rattle.hm_sched.specs.ReadLine.{said}
use Rattle.hm_sched.specs.ReadFile.{with_lines}
use Rattle.hm_sched.proofs.Ticks.{total-push, most_irq_few}
use Rattle.hm_sched.proofs.FileLaws.{MayAdd-line}
use Rattle.hm_sched.proofs.LineSteps.{goes_on, ends_line, ends_tick, ends_total, is_done, fails_with, ends_add, all_lines}
use Rattle.hm_sched.proofs.reading.with_lines.Goals as goal

most_few : (most format : ℕ) → most ≡ most_irq format → most ≤ 256
most_few most format is = rw is (most_irq_few format)

most_is : (most format own : ℕ) → most ≡ most_irq format → format ≡ own → most ≡ most_irq own
most_is most format own is same = is ∙ ap most_irq same

pub returns-in_err-text : goal.returns-in_err-text
returns-in_err-text c =
    let p = err_from_is_err_and c.from_residual.result c.from_residual.ensures.1 in
    let e = c.in_err-text.field-0.0 in
    rw (p.1, p.2) (fails_with e c.args.schedule _
    (ends_line (most_irq c.args.schedule.format) e _ c.loop-rest.line _ (lines_of c.loop-rest.rest.now)
    (all_lines (most_irq c.args.schedule.format) (first_line c.args.schedule.format) 0 (lines_of c.args.bytes.now)) c.in_err-text.ensures.line
    (some_lines c.loop-rest.rest.now (search rules)) c.loop-rest.invariant.so_far))

pub returns-in_err-ticks : goal.returns-in_err-ticks
returns-in_err-ticks c =
    let p = err_from_is_err_and c.from_residual-in_err-ticks.result c.from_residual-in_err-ticks.ensures.1 in
    let e = c.in_err-ticks.field-0.0 in
    rw (p.1, p.2) (fails_with e c.args.schedule _
    (ends_tick (most_irq c.args.schedule.format) e _ c.loop-rest.line _ (lines_of c.loop-rest.rest.now) c.in_ok-text.text.now
    (lines_of c.in_ok-text.after.now) (all_lines (most_irq c.args.schedule.format) (first_line c.args.schedule.format) 0 (lines_of c.args.bytes.now))
    c.in_ok-text.ensures.line (rw (most_is c.most_irq-most.result c.format-format.result c.args.schedule.format c.most_irq-most.ensures.value
    c.format-format.ensures.value) at c.in_err-ticks.ensures) c.loop-rest.invariant.so_far))

pub add-requires-clause-some : goal.add-requires-clause-some
add-requires-clause-some c = (MayAdd-line c.most_irq-most.result c.loop-rest.line c.in_ok-text.text.now (said c.in_ok-ticks.ticks)
    (most_few c.most_irq-most.result c.format-format.result c.most_irq-most.ensures.value) c.in_ok-ticks.ensures).line.some

pub add-requires-clause-eight_digits : goal.add-requires-clause-eight_digits
add-requires-clause-eight_digits c =
    (MayAdd-line c.most_irq-most.result c.loop-rest.line c.in_ok-text.text.now (said c.in_ok-ticks.ticks)
    (most_few c.most_irq-most.result c.format-format.result c.most_irq-most.ensures.value) c.in_ok-ticks.ensures).eight_digits

pub add-requires-clause-few : goal.add-requires-clause-few
add-requires-clause-few c = (MayAdd-line c.most_irq-most.result c.loop-rest.line c.in_ok-text.text.now (said c.in_ok-ticks.ticks)
    (most_few c.most_irq-most.result c.format-format.result c.most_irq-most.ensures.value) c.in_ok-ticks.ensures).line.few

pub add-requires-clause-each_letter : goal.add-requires-clause-each_letter
add-requires-clause-each_letter c =
    (MayAdd-line c.most_irq-most.result c.loop-rest.line c.in_ok-text.text.now (said c.in_ok-ticks.ticks)
    (most_few c.most_irq-most.result c.format-format.result c.most_irq-most.ensures.value) c.in_ok-ticks.ensures).line.each_letter

pub add-requires-clause-named : goal.add-requires-clause-named
add-requires-clause-named c =
    let same : c.loop-rest.schedule.format ≡ c.args.schedule.format = ap (λ (s : Sched). s.format) c.loop-rest.invariant.head in
    let most = most_is c.most_irq-most.result c.format-format.result c.args.schedule.format c.most_irq-most.ensures.value c.format-format.ensures.value in
    rw (same, ← most) (MayAdd-line c.most_irq-most.result c.loop-rest.line c.in_ok-text.text.now (said c.in_ok-ticks.ticks)
    (most_few c.most_irq-most.result c.format-format.result c.most_irq-most.ensures.value) c.in_ok-ticks.ensures).line.interrupts

pub returns-in_err-add : goal.returns-in_err-add
returns-in_err-add c =
    let p = err_from_is_err_and c.from_residual-in_err-add.result c.from_residual-in_err-add.ensures.1 in
    let e = c.in_err-add.field-0.0 in
    let h = c.in_err-add.ensures in
    let same : c.loop-rest.schedule.format ≡ c.args.schedule.format = ap (λ (s : Sched). s.format) c.loop-rest.invariant.head in
    let ends = ends_total (most_irq c.args.schedule.format) _ c.loop-rest.line _ (lines_of c.loop-rest.rest.now) c.in_ok-text.text.now
    (lines_of c.in_ok-text.after.now) (said c.in_ok-ticks.ticks)
    (all_lines (most_irq c.args.schedule.format) (first_line c.args.schedule.format) 0 (lines_of c.args.bytes.now)) c.in_ok-text.ensures.line
    (rw (most_is c.most_irq-most.result c.format-format.result c.args.schedule.format c.most_irq-most.ensures.value c.format-format.ensures.value) at
    c.in_ok-ticks.ensures) in
    rw (p.1, p.2) (ends_add {A = Unit {0}} e c.loop-rest.line _ c.args.schedule _ (λ past. rw (c.loop-rest.invariant.counted, ← same) (h.too_many.1 past))
    h.else_memory (λ past. ends past c.loop-rest.invariant.so_far))

pub loop-rest-preserved : goal.loop-rest-preserved
loop-rest-preserved c =
    let i = c.loop-rest.invariant in
    let line = said c.in_ok-ticks.ticks in
    let h = c.in_ok-add.ensures in
    let room : total c.loop-rest.schedule.lines + c.in_ok-ticks.ticks.count ≤ most_ticks =
    elim (cases_lt most_ticks (total c.loop-rest.schedule.lines + c.in_ok-ticks.ticks.count)) [
      | inl past ↦ (let bad = h.too_many.1 past in absurd cc)
      | inr room ↦ room
    ] in
    let some = (MayAdd-line c.most_irq-most.result c.loop-rest.line c.in_ok-text.text.now line
    (most_few c.most_irq-most.result c.format-format.result c.most_irq-most.ensures.value) c.in_ok-ticks.ensures).line.some in
    let lines : c.add.new.self.lines ≡ c.loop-rest.schedule.lines ++ line ∷ [] = ap (λ (s : Sched). s.lines) h.ok in
    let sum = total-push c.loop-rest.schedule.lines line in
    let count = length_push c.loop-rest.schedule.lines line in
    rw h.ok (record {
      so_far = rw sum (goes_on (most_irq c.args.schedule.format) c.loop-rest.schedule.lines c.loop-rest.line (total c.loop-rest.schedule.lines)
          (lines_of c.loop-rest.rest.now) c.in_ok-text.text.now (lines_of c.in_ok-text.after.now) line
          (all_lines (most_irq c.args.schedule.format) (first_line c.args.schedule.format) 0 (lines_of c.args.bytes.now)) c.in_ok-text.ensures.line
          (rw (most_is c.most_irq-most.result c.format-format.result c.args.schedule.format c.most_irq-most.ensures.value c.format-format.ensures.value) at
          c.in_ok-ticks.ensures) room i.so_far);
      head = ap (λ (s : Sched). record s { lines = c.loop-rest.schedule.lines ++ line ∷ [] }) i.head;
      within = rw sum room;
      counted = rw count (omega (arith, i.counted));
      numbered = rw (sum, count) (omega (arith, i.numbered));
    })

pub returns : goal.returns
returns c =
    let i = c.loop-rest.invariant in
    ap (with_lines c.args.schedule)
    (is_done (most_irq c.args.schedule.format) c.loop-rest.schedule.lines c.loop-rest.line (total c.loop-rest.schedule.lines) c.loop-rest.rest.now
    (all_lines (most_irq c.args.schedule.format) (first_line c.args.schedule.format) 0 (lines_of c.args.bytes.now)) (search rules) i.so_far)
    ∙ ap (λ (s : Sched). Ok s) (sym i.head)
