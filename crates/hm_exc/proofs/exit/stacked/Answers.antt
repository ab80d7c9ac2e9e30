use Rattle.std.proofs.Common.{◌<◌, ◌^◌, arith, ◌∙◌}
use Rattle.hm_exc.proofs.Stacked.{stacked-word, whole_word}
use Rattle.hm_mem.specs.Memory.{byte_at, memory_of}
use Rattle.hm_exc.proofs.exit.stacked.Goals as goal

pub returns : goal.returns
returns c =
    let x = c.args.x.now in
    let pc : x.regs.pc < 2 ^ 32 = omega arith in
    let it : x.regs.it < 256 = omega arith in
    record {
      value = c.word.ensures.value ∙ stacked-word x c.requires.fits c.in_range.ensures.range pc it (byte_at (memory_of c.args.m.now)) c.args.k c.requires.frame
          c.requires.word (whole_word x.long c.args.k c.requires.word);
    }
