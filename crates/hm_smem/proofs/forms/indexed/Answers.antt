use Rattle.std.proofs.Common.{subst, ◌∙◌, cond}
use Rattle.std.specs.Prelude.{nat_eq}
use Rattle.hm_mem.specs.Memory.{memory_of}
use Rattle.hm_thumb.specs.Does.{Does}
use Rattle.hm_thumb.specs.MemoryRows.{access_row, moved}
use Rattle.hm_thumb.specs.RegisterRows.{put}
use Rattle.hm_thumb.specs.Steps.{IsDone}
use Rattle.hm_smem.proofs.forms.indexed.Goals as goal

pub returns : goal.returns
returns c =
    let i = c.args.i.now in
    let r = c.args.regs.now in
    let base = c.get-base.ensures.value in
    let to = c.moved-to.ensures.value ∙ (λ j. moved (nat_eq i.u.value 1) i.i.value (base j)) in
    let addr = c.chosen-addr.ensures.value ∙ (λ j. cond (nat_eq i.p.value 1) (to j) (base j)) in
    record {
      done = subst (λ (d : Does). IsDone d r c.access_row.new.regs (memory_of c.args.mem.now) (memory_of c.access_row.new.mem) c.access_row.result)
          (λ j. access_row i.name i.t.value (addr j) (λ q. cond (nat_eq i.w.value 1) (put i.n.value (to j) q) q) r) c.access_row.ensures.done;
    }
