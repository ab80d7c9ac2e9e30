use Rattle.std.proofs.Common.{◌≡◌, ℕ, List, length, ap, sym, ◌∙◌, subst, None, Result, Ok, Err}
use Rattle.hm_cpu.specs.Cpus.{nested_of}
use Rattle.hm_run_laws.specs.Nested.{Nested, TickEnd, letters}
use Rattle.hm_run_laws.specs.Runs.{ended, stops, tick_end}
use Rattle.hm_machine.proofs.Runs.{came_over}
use Rattle.hm_machine.specs.Ticked.{early_ended, Came}
use Rattle.hm_machine.specs.Shown.{run_with}
use Rattle.hm_machine.proofs.tick.tick.Goals as goal

pub end_tick-requires-clause-sound : goal.end_tick-requires-clause-sound
end_tick-requires-clause-sound g c = (c.requires.sound.0, c.in_default.ensures.sound c.requires.sound.0 c.requires.sound.1)

pub returns-clause-value : goal.returns-clause-value
returns-clause-value g c listing s line t es is may_enter same irq number sound =
    let x = c.args.x.now in
    let m = nested_of c.do_letters.new.x in
    let new = nested_of c.end_tick.new.x in
    let went : Ok m ≡ letters listing s 0 line.letters (nested_of x) = c.in_default.ensures.value listing s is sound
    ∙ ap (λ (ls : List ℕ). letters listing s 0 ls (nested_of x)) (sym same) in
    let end = c.end_tick.ensures.value s line es may_enter irq (ap length same) (c.in_default.ensures.sound s sound) in
    subst (λ (r : Result Nested TickEnd). Came c.end_tick.result new c.args.tick es (ended s line (run_with None (nested_of x) t es) r)) went
    (subst (λ (k : ℕ). Came c.end_tick.result new c.args.tick es (tick_end s line (run_with None m k es))) (sym number) end)

pub returns-in-Err-clause-value : goal.returns-in-Err-clause-value
returns-in-Err-clause-value g c listing s line t es is may_enter same irq number sound =
    let x = c.args.x.now in
    let e = early_ended c.in-Err.early (nested_of c.do_letters.new.x) in
    let new = nested_of c.conclude.new.x in
    let went : Err e ≡ letters listing s 0 line.letters (nested_of x) = c.in-Err.ensures.value listing s is sound
    ∙ ap (λ (ls : List ℕ). letters listing s 0 ls (nested_of x)) (sym same) in
    subst (λ (r : Result Nested TickEnd). Came (Err c.conclude.result) new c.args.tick es (ended s line (run_with None (nested_of x) t es) r)) went
    (came_over c.conclude.result new c.args.tick es _ (c.conclude.ensures.ended es ∙ ap (λ (k : ℕ). stops k e.step e.younger e.end es) (sym number)))
