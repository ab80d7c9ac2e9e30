use Rattle.std.proofs.Common.{◌≤◌, sym, ◌∙◌, subst}
use Rattle.hm_debug.proofs.Answering.{IsLeft, first_says, left_after, left_none}
use Rattle.hm_debug.specs.Answers.{answers}
use Rattle.hm_debug.specs.Films.{IsFilm}
use Rattle.hm_debug.specs.Scripts.{SayAll}
use Rattle.hm_machine.specs.Taped.{Taped}
use Rattle.hm_text_base.specs.Spans.{Lines, lines_of}
use Rattle.hm_debug.proofs.running.do_lines.Goals as goal

pub do_line-requires-clause-said : goal.do_line-requires-clause-said
do_line-requires-clause-said c =
    let said = c.loop-line.invariant.said in
    let one = first_says c.in-Some.line.now _ _ said.0 (subst (λ (ls : Lines). SayAll ls said.0) c.in-Some.ensures.ended said.1) in
    (one.0, one.3)

pub loop-line-preserved : goal.loop-line-preserved
loop-line-preserved c =
    let i = c.loop-line.invariant in
    let ended = c.in-Some.ensures.ended in
    let behind = lines_of c.in-Some.after.now in
    let one = first_says c.in-Some.line.now behind.0 behind.1 i.said.0 (subst (λ (ls : Lines). SayAll ls i.said.0) ended i.said.1) in
    record {
      stays = c.do_line.ensures.stays ∙ i.stays;
      within = subst (λ (w : Taped). c.in_ok-place.place ≤ w.last) (sym c.do_line.ensures.stays) c.in_ok-place.ensures.within;
      said = (one.1, one.4);
      left = λ f cs film say.
          let here = subst (λ (w : Taped). IsFilm f w) (sym i.stays) film in
          left_after f c.in-Some.line.now behind.0 behind.1 c.loop-line.out.items c.do_line.new.out.items c.loop-line.place c.in_ok-place.place (answers f cs 0)
          (subst (λ (ls : Lines). IsLeft f ls c.loop-line.out.items c.loop-line.place (answers f cs 0)) ended (i.left f cs film say))
          (λ d says. c.in_ok-place.ensures.gives f d here says);
    }

pub returns-clause-answers : goal.returns-clause-answers
returns-clause-answers c f cs film say =
    left_none f c.loop-line.rest.now c.loop-line.out.items c.loop-line.place (answers f cs 0)
    (subst (λ (ls : Lines). IsLeft f ls c.loop-line.out.items c.loop-line.place (answers f cs 0)) c.in_default.ensures.unended
    (c.loop-line.invariant.left f cs film say))
