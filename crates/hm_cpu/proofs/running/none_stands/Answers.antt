use Rattle.std.proofs.Common.{ap, ◌∙◌, Err}
use Rattle.hm_cpu.proofs.Nestings.{none_steps, sound_under}
use Rattle.hm_recent.proofs.Rows.{listed_here}
use Rattle.hm_cpu.specs.Cpus.{stepped}
use Rattle.hm_cpu.specs.declared.step_ends.LetterEnd.{LetterEnd}
use Rattle.hm_mem.specs.Memory.{memory_of, flash_at}
use Rattle.hm_cpu.proofs.Steps.{none_stands}
use Rattle.hm_cpu.proofs.running.none_stands.Goals as goal

pub returns : goal.returns
returns c = record {
  value = λ listing s is sound.
      let x = c.args.x.now in
      let here = listed_here listing (flash_at (memory_of x.mem)) x.regs.pc (Err c.args.fault) is c.requires.none in
      ap (λ (o : LetterEnd). stepped (Err o) x) c.stop_of.ensures.value
      ∙ none_steps listing s x (sound_under s x sound) c.args.fault here (none_stands listing x c.args.fault here);
}
