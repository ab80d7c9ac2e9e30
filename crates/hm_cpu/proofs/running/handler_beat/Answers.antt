use Rattle.std.proofs.Common.{List, ap, ◌∙◌, Ok, Err}
use Rattle.hm_exec.specs.Families.{row_of}
use Rattle.hm_run_laws.specs.Nested.{Interrupted, with_acts}
use Rattle.hm_cpu.proofs.Going.{beats_go_on}
use Rattle.hm_cpu.proofs.Nestings.{newest_there, row_steps, same_acts}
use Rattle.hm_cpu.specs.Cpus.{config_of, reached, stepped}
use Rattle.hm_cpu.specs.declared.step_ends.LetterEnd.{LetterEnd}
use Rattle.hm_run.specs.Program.{vector_of}
use Rattle.hm_cpu.proofs.running.handler_beat.Goals as goal

pub returns-in-Ok-clause-value : goal.returns-in-Ok-clause-value
returns-in-Ok-clause-value c listing s here under =
    let x = c.args.x.now in
    let y = c.vector_step.new.x in
    let found = newest_there x.acts c.requires.handler in
    ap (λ (acts : List Interrupted). Ok (record { config = record (config_of y) { n = x.retired; steps = x.older_steps }; acts = acts }))
    (same_acts x y c.in-Ok.ensures.kept.acts)
    ∙ row_steps listing s x under found.0 found.1 found.2 (row_of c.args.v.now) (Ok (config_of y)) here (c.in-Ok.ensures.value listing (ap vector_of here))

pub returns-in-Err-clause-value : goal.returns-in-Err-clause-value
returns-in-Err-clause-value c listing s here under =
    let x = c.args.x.now in
    let y = c.vector_step.new.x in
    let found = newest_there x.acts c.requires.handler in
    ap (λ (o : LetterEnd). stepped (Err o) y) c.stop_of.ensures.value
    ∙ ap (λ (acts : List Interrupted). with_acts acts (reached (Err c.in-Err.cause) y)) (same_acts x y c.in-Err.ensures.kept.acts)
    ∙ row_steps listing s x under found.0 found.1 found.2 (row_of c.args.v.now) (reached (Err c.in-Err.cause) y) here
    (c.in-Err.ensures.value listing (ap vector_of here))

pub returns-in-Ok-clause-stays : goal.returns-in-Ok-clause-stays
returns-in-Ok-clause-stays c = beats_go_on (row_of c.args.v.now) c.args.x.now c.vector_step.new.x c.in-Ok.ensures.stays c.in-Ok.ensures.kept.acts
