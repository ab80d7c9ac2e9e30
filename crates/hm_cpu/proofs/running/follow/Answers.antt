use Rattle.std.proofs.Common.{List, map, arith, ap, sym, ◌∙◌, Ok, Err}
use Rattle.hm_cpu.proofs.Nestings.{returned_from}
use Rattle.hm_cpu.specs.Cpus.{config_of, interrupted_of, state_in}
use Rattle.hm_exc.specs.Return.{return_rule}
use Rattle.hm_exc.specs.declared.types.Activation.{Activation}
use Rattle.hm_run_laws.specs.Nested.{Nested, NestedStep, Offends, flows}
use Rattle.hm_isa.specs.declared.Flow.{Flow}
use Rattle.hm_run.specs.declared.Offence.TheVariants as offence
use Rattle.hm_state.specs.State.{regs_of}
use Rattle.hm_whole.specs.Whole.{seen_in}
use Rattle.hm_cpu.proofs.running.follow.Goals as goal

-- a step that goes on
abbrev done : Nested → NestedStep
done x = Ok x

pub returns-in-Next-clause-value : goal.returns-in-Next-clause-value
returns-in-Next-clause-value c before y rest pc newest =
    let x = c.args.x.now in
    ap (λ (l : List Activation). done (record { config = record (config_of x) { a = 0; b = 0 }; acts = map interrupted_of l })) newest
    ∙ sym (ap (λ (f : Flow). flows f (record (config_of x) { state = before }) (interrupted_of y) (map interrupted_of rest) (state_in x)) c.in-Next.is)

pub returns-in-Break-clause-value : goal.returns-in-Break-clause-value
returns-in-Break-clause-value c before y rest pc newest =
    let x = c.args.x.now in
    (λ j. Err (Offends (offence.Call (sym pc j)) (config_of x) (map interrupted_of (newest j))))
    ∙ sym (ap (λ (f : Flow). flows f (record (config_of x) { state = before }) (interrupted_of y) (map interrupted_of rest) (state_in x)) c.in-Break.is)

pub returns-in-Return-clause-value : goal.returns-in-Return-clause-value
returns-in-Return-clause-value c before y rest pc newest =
    let x = c.args.x.now in
    c.return_to.ensures.value y rest newest ∙ returned_from x y rest (return_rule (regs_of (state_in x)) (seen_in (state_in x)).byte c.in-Return.value y) before
    ∙ sym (ap (λ (f : Flow). flows f (record (config_of x) { state = before }) (interrupted_of y) (map interrupted_of rest) (state_in x)) c.in-Return.is)

pub returns-in-Next-clause-position : goal.returns-in-Next-clause-position
returns-in-Next-clause-position c = (omega arith, omega arith, λ some. absurd (omega (arith, some)))
