-- The steps of the younger of two rows.
use Rattle.std.proofs.Common.{◌≡◌, ℕ, ◌+◌, ap, sym, ◌∙◌, true, ◌&&◌, cond, IsTrue, List, Option, Some, None, Err}
use Rattle.std.specs.Option.{is_none, option_or}
use Rattle.hm_base.specs.declared.Fault.{Fault}
use Rattle.hm_codes.specs.Listing.{Listing}
use Rattle.hm_cpu.specs.Cpus.{config_of, state_in}
use Rattle.hm_cpu.specs.declared.cpu.Cpu.{Cpu}
use Rattle.hm_isa.specs.declared.Vector.{Vector}
use Rattle.hm_mem.specs.Memory.{Memory, memory_of}
use Rattle.hm_order.specs.Machine as order
use Rattle.hm_order.specs.Machine.{Config, did, younger, younger_of}
use Rattle.hm_regs.specs.declared.Regs.{Regs}
use Rattle.hm_rows.specs.Rows.{refuse, vector_tree}
use Rattle.hm_window.specs.declared.rule.Rule.{Rule}
use Rattle.hm_window.specs.declared.rule.Rule.TheVariants as rule
use Rattle.hm_run.specs.Program.{Program, Stepped, core, refusal_rule, rows, step_rule, vector_of}
use Rattle.hm_state.specs.State.{State, state_of}
use Rattle.hm_window.specs.Overlap.{first_rule}

-- the rules of a beat, and then that the younger is not refused
module _ (v w : Vector) (a b n steps : ℕ) (r : Regs) (m : Memory) (output : List ℕ) (o : Option Rule)
    (there : o ≡ first_rule (Some (vector_tree v m.around)) (Some (vector_tree w m.around)) a b (state_of r m output)) where
  abbrev s : State
  s = state_of r m output

  abbrev at_step : Config State
  at_step = record { a = a; b = b; n = n; steps = steps; state = s }

  pub rule_first : (q : Rule) → o ≡ Some q → Some q ≡ step_rule m.around (Some v) (Some w) at_step
  rule_first q e = λ j. option_or ((sym e ∙ there) j) (refusal_rule (Some w) s)

  pub rule_then : o ≡ None → refusal_rule (Some w) s ≡ step_rule m.around (Some v) (Some w) at_step
  rule_then e = λ j. option_or ((sym e ∙ there) j) (refusal_rule (Some w) s)

  pub rule_none : (f : Option Fault) → IsTrue r.fpca → o ≡ None → f ≡ refuse w s → f ≡ None → None ≡ step_rule m.around (Some v) (Some w) at_step
  unfolding state_of
  rule_none f context e is free =
      let made : r.fpca ≡ true = cc in
      sym (λ j. cond (made j && is_none ((sym is ∙ free) j)) None (Some rule.YoungerFault)) ∙ rule_then e

  pub rule_refused : (f : Option Fault) (g : Fault) → IsTrue r.fpca → o ≡ None → f ≡ refuse w s → f ≡ Some g
      → Some rule.YoungerFault ≡ step_rule m.around (Some v) (Some w) at_step
  unfolding state_of
  rule_refused f g context e is refused =
      let made : r.fpca ≡ true = cc in
      sym (λ j. cond (made j && is_none ((sym is ∙ refused) j)) None (Some rule.YoungerFault)) ∙ rule_then e

module _ (listing : Listing) (x : Cpu) where
  abbrev M : Program
  M = core listing (memory_of x.mem).around

  -- no row stands at the one address, or at the other
  pub younger_alone : None ≡ vector_of (listing x.regs.pc) → Err (order.Broken (config_of x) rule.NotVector) ≡ younger M (config_of x)
  unfolding state_of
  younger_alone none = ap (λ (o : Option Vector). younger_of M (step_rule (memory_of x.mem).around o (vector_of (listing (x.regs.pc + 4))) (config_of x))
      (vector_of (listing (x.regs.pc + 4))) (config_of x)) none

  pub younger_absent : (v : Vector) → Some v ≡ vector_of (listing x.regs.pc) → None ≡ vector_of (listing (x.regs.pc + 4))
      → Err (order.Broken (config_of x) rule.NotVector) ≡ younger M (config_of x)
  unfolding state_of
  younger_absent v here none = λ j. younger_of M (step_rule (memory_of x.mem).around (here j) (none j) (config_of x)) (none j) (config_of x)

  -- what it does under its rule
  younger_by : (v w : Vector) (r : Option Rule) → Some v ≡ vector_of (listing x.regs.pc) → Some w ≡ vector_of (listing (x.regs.pc + 4))
      → r ≡ step_rule (memory_of x.mem).around (Some v) (Some w) (config_of x) → younger_of M r (Some w) (config_of x) ≡ younger M (config_of x)
  unfolding state_of
  younger_by v w r here there e =
      ap (λ (q : Option Rule). younger_of M q (Some w) (config_of x)) e
      ∙ (λ j. younger_of M (step_rule (memory_of x.mem).around (here j) (there j) (config_of x)) (there j) (config_of x))

  pub younger_breaks : (v w : Vector) (r : Rule) → Some v ≡ vector_of (listing x.regs.pc) → Some w ≡ vector_of (listing (x.regs.pc + 4))
      → Some r ≡ step_rule (memory_of x.mem).around (Some v) (Some w) (config_of x) → Err (order.Broken (config_of x) r) ≡ younger M (config_of x)
  younger_breaks v w r here there e = younger_by v w (Some r) here there e

  -- what its beat comes to
  pub younger_beats : (v w : Vector) (r : Stepped) → Some v ≡ vector_of (listing x.regs.pc) → Some w ≡ vector_of (listing (x.regs.pc + 4))
      → None ≡ step_rule (memory_of x.mem).around (Some v) (Some w) (config_of x)
      → r ≡ did M (config_of x) (((rows (memory_of x.mem).around).act w x.window.b).run (state_in x)) → r ≡ younger M (config_of x)
  younger_beats v w r here there e run = run ∙ younger_by v w None here there e
