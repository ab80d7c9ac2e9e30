use Rattle.std.proofs.Common.{length, ◌∙◌, arith, rules}
use Rattle.std.proofs.lemmas.Result.{err_from_is_err_and}
use Rattle.hm_text_base.specs.Spans.{lines_of}
use Rattle.hm_text_base.proofs.LineLaws.{some_lines}
use Rattle.hm_kernel_text.specs.Held.{written}
use Rattle.hm_kernel_text.proofs.FileSteps.{ended_none, ended_some, ends_line, fails, fails_line, goes_on, grows, is_done, all_lines, length-arrays}
use Rattle.hm_kernel_text.proofs.FileSteps.{length-sets}
use Rattle.hm_kernel_text.proofs.reading.with_lines.Goals as goal

pub returns-in_err-said-clause-read : goal.returns-in_err-said-clause-read
returns-in_err-said-clause-read c =
    let p = err_from_is_err_and c.from_residual.result c.from_residual.ensures.1 in
    let e = c.in_err-said.field-0.0 in
    rw (p.1, p.2) (fails_line e _ (ends_line e c.loop-rest.line (written c.loop-rest.x) (lines_of c.loop-rest.rest.now)
    (all_lines 4 (written c.args.x) (lines_of c.args.text.now)) c.in_err-said.ensures.line (some_lines c.loop-rest.rest.now (search rules))
    c.loop-rest.invariant.so_far))

pub returns-in_err-add_line-clause-read : goal.returns-in_err-add_line-clause-read
returns-in_err-add_line-clause-read c =
    let p = err_from_is_err_and c.from_residual-in_err-add_line.result c.from_residual-in_err-add_line.ensures.1 in
    let e = c.in_err-add_line.field-0.0 in
    rw (p.1, p.2) (fails e c.loop-rest.line (written c.loop-rest.x) (lines_of c.loop-rest.rest.now) c.in_ok-said.said.now (lines_of c.in_ok-said.after.now)
    (all_lines 4 (written c.args.x) (lines_of c.args.text.now)) c.in_ok-said.ensures.line c.in_err-add_line.ensures.read c.loop-rest.invariant.so_far)

pub loop-rest-preserved : goal.loop-rest-preserved
loop-rest-preserved c =
    let i = c.loop-rest.invariant in
    let old = c.loop-rest.x in
    let new = c.add_line.new.x in
    let arrays = length-arrays old.arrays.items in
    let lines = length-sets old.arrays.items old.lines.items in
    let new_arrays = length-arrays new.arrays.items in
    let new_lines = length-sets new.arrays.items new.lines.items in
    let g = grows c.loop-rest.line (written old) (written new) c.in_ok-said.said.now (omega (arith, arrays, i.few_arrays)) (omega (arith, lines, i.few_lines))
    c.in_ok-add_line.ensures.read in
    record {
      so_far = goes_on c.loop-rest.line (written old) (written new) (lines_of c.loop-rest.rest.now) c.in_ok-said.said.now (lines_of c.in_ok-said.after.now)
          (all_lines 4 (written c.args.x) (lines_of c.args.text.now)) c.in_ok-said.ensures.line c.in_ok-add_line.ensures.read i.so_far;
      sets = c.in_ok-add_line.ensures.sets;
      numbered = omega (arith, g.one, arrays, lines, new_arrays, new_lines, i.numbered);
      few_arrays = omega (arith, g.few_arrays, new_arrays);
      few_lines = omega (arith, g.few_sets, new_lines);
    }

pub returns-then-is_empty-clause-read : goal.returns-then-is_empty-clause-read
returns-then-is_empty-clause-read c =
    let done = is_done c.loop-rest.line (written c.loop-rest.x) c.loop-rest.rest.now (all_lines 4 (written c.args.x) (lines_of c.args.text.now)) (search rules)
    c.loop-rest.invariant.so_far in
    rw c.refused.ensures.value (done
    ∙ ended_none c.loop-rest.line (length c.loop-rest.x.lines.items) (written c.loop-rest.x)
    (length-sets c.loop-rest.x.arrays.items c.loop-rest.x.lines.items) (search rules))

pub returns-clause-read : goal.returns-clause-read
returns-clause-read c =
    let done = is_done c.loop-rest.line (written c.loop-rest.x) c.loop-rest.rest.now (all_lines 4 (written c.args.x) (lines_of c.args.text.now)) (search rules)
    c.loop-rest.invariant.so_far in
    done ∙ ended_some c.loop-rest.line (length c.loop-rest.x.lines.items) (written c.loop-rest.x)
    (length-sets c.loop-rest.x.arrays.items c.loop-rest.x.lines.items) (search rules)
