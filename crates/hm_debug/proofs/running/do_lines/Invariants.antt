use Rattle.std.proofs.Common.{◌≡◌, ◌≤◌, List, length}
use Rattle.hm_debug.proofs.Answering.{IsLeft}
use Rattle.hm_debug.specs.Answers.{answers}
use Rattle.hm_debug.specs.Films.{Film, IsFilm}
use Rattle.hm_debug.specs.Scripts.{SayAll}
use Rattle.hm_debug.specs.declared.command.Command.{Command}
use Rattle.hm_text_base.specs.Spans.{lines_of}
use Rattle.hm_debug.proofs.running.do_lines.Given as goal

abbrev pub invariant-loop-line : goal.invariant-loop-line
invariant-loop-line l = record {
  stays : l.tape ≡ l.initial.tape;
  within : l.place ≤ l.tape.last;
  said : (cs : List Command) × SayAll (lines_of l.rest) cs;
  left : (f : Film) (cs : List Command) → IsFilm f l.initial.tape → SayAll (lines_of l.text) cs
      → IsLeft f (lines_of l.rest) l.out.items l.place (answers f cs 0);
}

abbrev pub decreases-loop-line : goal.decreases-loop-line
decreases-loop-line l = length l.rest
