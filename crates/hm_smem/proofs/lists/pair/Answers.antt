use Rattle.std.proofs.Common.{subst, sym, ◌∙◌, cond}
use Rattle.std.specs.Prelude.{nat_eq}
use Rattle.hm_mem.specs.Memory.{memory_of}
use Rattle.hm_thumb.specs.Does.{Does}
use Rattle.hm_thumb.specs.MemoryRows.{other_end, pair_row}
use Rattle.hm_thumb.specs.Steps.{IsDone}
use Rattle.hm_smem.proofs.lists.pair.Goals as goal

pub returns-in-Strd : goal.returns-in-Strd
returns-in-Strd c =
    let i = c.args.i.now in
    let r = c.args.regs.now in
    let base = c.base_of-base.ensures.value in
    let to = c.other_end-to.ensures.value ∙ (λ j. other_end (nat_eq i.add.value 1) i.i.value (base j)) in
    let addr = c.chosen-addr.ensures.value ∙ (λ j. cond (nat_eq i.p.value 1) (to j) (base j)) in
    record {
      done = subst (λ (d : Does). IsDone d r c.store_pair.new.regs (memory_of c.args.mem.now) (memory_of c.store_pair.new.mem) c.store_pair.result)
          (λ j. pair_row (sym c.in-Strd.is j) (nat_eq i.w.value 1) i.n.value i.t.value i.u.value (to j) (addr j) r) c.store_pair.ensures.done;
    }

pub returns-in-Ldrd : goal.returns-in-Ldrd
returns-in-Ldrd c =
    let i = c.args.i.now in
    let r = c.args.regs.now in
    let base = c.base_of-base.ensures.value in
    let to = c.other_end-to.ensures.value ∙ (λ j. other_end (nat_eq i.add.value 1) i.i.value (base j)) in
    let addr = c.chosen-addr.ensures.value ∙ (λ j. cond (nat_eq i.p.value 1) (to j) (base j)) in
    record {
      done = subst (λ (d : Does). IsDone d r c.load_pair.new.regs (memory_of c.args.mem.now) (memory_of c.load_pair.new.mem) c.load_pair.result)
          (λ j. pair_row (sym c.in-Ldrd.is j) (nat_eq i.w.value 1) i.n.value i.t.value i.u.value (to j) (addr j) r) c.load_pair.ensures.done;
    }
