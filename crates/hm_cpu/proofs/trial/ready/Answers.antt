use Rattle.std.proofs.Common.{◌≡◌, ℕ, arith, ap, sym, ◌∙◌, subst, List, []}
use Rattle.std.specs.Prelude.{option_map}
use Rattle.hm_beat.specs.Touches.{spanned, stores_in}
use Rattle.hm_exec.specs.Families.{row_of}
use Rattle.hm_cpu.proofs.Trials.{ready_alone}
use Rattle.hm_cpu.specs.Trials.{HoldsAll, standing}
use Rattle.hm_mem.specs.Memory.{memory_of}
use Rattle.hm_rows.specs.Rows.{vector_tree}
use Rattle.hm_run.specs.Program.{core}
use Rattle.hm_run.specs.Ready.{is_ready}
use Rattle.hm_state.specs.State.{state_of}
use Rattle.hm_cpu.proofs.trial.ready.Goals as goal

pub returns-in_default-clause-value : goal.returns-in_default-clause-value
returns-in_default-clause-value c listing output n steps is =
    let r = c.args.regs.now in
    let m = memory_of c.args.mem.now in
    let two : 2 ≡ c.args.at.a = omega (arith, c.if-at-ne2.false) in
    let none : 0 ≡ c.args.at.b = omega (arith, c.if-at-ne0.false) in
    ready_alone listing r m output n steps (ap (option_map row_of) (sym c.in_default.is) ∙ c.vector_anew.ensures.row listing is)
    ∙ (λ j. is_ready (core listing m.around) (standing (two j) (none j) n steps (state_of r m output)))

pub returns-clause-same : goal.returns-clause-same
returns-clause-same c =
    let m = memory_of c.args.mem.now in
    let stores : spanned c.touch-touch.result.stores.items ≡ stores_in (vector_tree (row_of c.in-Some.v) m.around 2) c.args.regs.now m [] =
    c.touch-touch.ensures.stores m [] in
    c.undone_law.ensures m (memory_of c.tried-result.new.mem) (c.sized-2.ensures.sram ∙ sym c.sized.ensures.sram)
    (c.sized-2.ensures.taint ∙ sym c.sized.ensures.taint) c.sized.ensures.sram c.sized.ensures.taint
    (c.tried-result.ensures.same []
    (subst (λ (l : List ℕ). HoldsAll l (spanned c.as_slice.result.now)) (ap spanned c.as_slice.ensures.value ∙ stores) (λ a h. h)))
