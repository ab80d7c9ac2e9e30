use Rattle.std.proofs.Common.{◌≡◌, List, Result, Ok, length, sym, ap, subst, ◌∙◌, rules, arith}
use Rattle.hm_base.specs.Image.{Segment}
use Rattle.hm_base.specs.Results.{FailsImage, GivesImage}
use Rattle.hm_base.specs.declared.errors.ImageErr.{ImageErr}
use Rattle.hm_text_base.specs.Spans.{lines_of}
use Rattle.hm_ihex.specs.Files.{all_lines, lines_in}
use Rattle.hm_ihex.specs.Meant.{reading_of}
use Rattle.hm_ihex.specs.declared.reading.Next.{Next}
use Rattle.hm_ihex.specs.declared.reading.Next.TheVariants.{End, More}
use Rattle.hm_ihex.proofs.Steps.{by_end, by_err, by_more, by_none}
use Rattle.hm_ihex.proofs.reading.read_lines.Goals as goal

pub returns-in-Ok-End : goal.returns-in-Ok-End
returns-in-Ok-End c =
    let ended : c.follow.result ≡ Ok End = c.in-Ok-End.is ∙ ap (λ (n : Next). Ok n) c.in-Ok-End.field-0-is in
    let read = by_end c.loop-rest.number (reading_of c.loop-rest.state) (reading_of c.follow.new.state) c.first_line.result.line.now
    (all_lines (lines_of c.first_line.result.rest.now)) c.follow.result c.follow.ensures.next ended in
    let whole = sym c.loop-rest.invariant.read ∙ ap (lines_in c.loop-rest.number (reading_of c.loop-rest.state)) c.first_line.ensures.lines ∙ read in
    record { exact = subst (λ (r : Result (List Segment) ImageErr). GivesImage c.finish.result r) (sym whole) c.finish.ensures.value }

pub returns-in-Err : goal.returns-in-Err
returns-in-Err c =
    let fails = by_err c.loop-rest.number (reading_of c.loop-rest.state) (reading_of c.follow.new.state) c.first_line.result.line.now
    (all_lines (lines_of c.first_line.result.rest.now)) c.in-Err.e c.follow.result c.follow.ensures.next c.in-Err.is in
    let whole = sym c.loop-rest.invariant.read ∙ ap (lines_in c.loop-rest.number (reading_of c.loop-rest.state)) c.first_line.ensures.lines in
    record { exact = subst (λ (r : Result (List Segment) ImageErr). FailsImage c.in-Err.e r) (sym whole) fails }

pub loop-rest-preserved : goal.loop-rest-preserved
loop-rest-preserved c =
    let more : c.follow.result ≡ Ok More = c.in-Ok-More.is ∙ ap (λ (n : Next). Ok n) c.in-Ok-More.field-0-is in
    let read = by_more c.loop-rest.number (reading_of c.loop-rest.state) (reading_of c.follow.new.state) c.first_line.result.line.now
    (all_lines (lines_of c.first_line.result.rest.now)) c.follow.result c.follow.ensures.next more in
    let few = c.loop-rest.invariant.few in
    let count = c.loop-rest.invariant.count in
    let shorter = c.first_line.ensures.shorter in
    let added = c.follow.ensures.count in
    record {
      few = omega arith;
      count = omega arith;
      read = sym read ∙ sym (ap (lines_in c.loop-rest.number (reading_of c.loop-rest.state)) c.first_line.ensures.lines) ∙ c.loop-rest.invariant.read;
    }

pub returns : goal.returns
returns c =
    let none : length c.loop-rest.rest.now ≡ 0 = search rules in
    record { exact = sym c.loop-rest.invariant.read ∙ by_none c.loop-rest.number (reading_of c.loop-rest.state) c.loop-rest.rest.now none }
