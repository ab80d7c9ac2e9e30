use Rattle.hm_ihex.proofs.WrittenLines.{check_is}
use Rattle.hm_ihex.proofs.writing.check.Goals as goal

pub returns : goal.returns
returns c = record { value = check_is c.args.head.now c.args.bytes.now c.sum.result c.sum-2.result c.sum.ensures.value c.sum-2.ensures.value }
