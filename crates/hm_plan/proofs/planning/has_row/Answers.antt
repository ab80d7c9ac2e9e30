use Rattle.std.proofs.Common.{◌≡◌, ℕ, ap, sym, ◌∙◌, subst, []}
use Rattle.std.specs.Option.{is_some}
use Rattle.hm_codes.specs.Listing.{Stands}
use Rattle.hm_isa.specs.declared.Instr.{Instr}
use Rattle.hm_machine.specs.Shown.{run_of}
use Rattle.hm_mem.specs.Memory.{flash_at}
use Rattle.hm_plan.proofs.Rows.{no_row, none_there, pc_of, row_there}
use Rattle.hm_regs.specs.declared.Regs.{Regs}
use Rattle.hm_run.specs.Program.{vector_in}
use Rattle.hm_plan.proofs.planning.has_row.Goals as goal

pub returns-in-Vector : goal.returns-in-Vector
returns-in-Vector c = record {
  value = λ listing is.
      let s = (run_of c.args.machine.now []).machine.config.state in
      ap (λ (i : Instr). is_some (vector_in i)) (sym c.in-Vector.is)
      ∙ row_there (flash_at c.args.machine.now.memory) listing _ s.pc c.in-Some.i is (ap (λ (r : Regs). r.pc) c.regs.ensures ∙ pc_of s) c.in-Some.ensures.there;
}

pub returns-in_default : goal.returns-in_default
returns-in_default c = record {
  value = λ listing is.
      let s = (run_of c.args.machine.now []).machine.config.state in
      no_row c.in-Some.i c.in_default.not-Vector
      ∙ row_there (flash_at c.args.machine.now.memory) listing _ s.pc c.in-Some.i is (ap (λ (r : Regs). r.pc) c.regs.ensures ∙ pc_of s) c.in-Some.ensures.there;
}

pub returns-in-None : goal.returns-in-None
returns-in-None c = record {
  value = λ listing is.
      let flash = flash_at c.args.machine.now.memory in
      let s = (run_of c.args.machine.now []).machine.config.state in
      let pc : c.regs.result.now.pc ≡ s.pc = ap (λ (r : Regs). r.pc) c.regs.ensures ∙ pc_of s in
      none_there flash s.pc (listing s.pc) (is.at s.pc) (λ i h. c.in-None.ensures.none i (subst (λ (a : ℕ). Stands flash a i) (sym pc) h));
}
