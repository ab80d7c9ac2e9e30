use Rattle.std.proofs.Common.{arith, eqb-true}
use Rattle.hm_mem.proofs.Truths.{blank-at}
use Rattle.hm_mem.proofs.marks.is_blank.Goals as goal

pub returns-then-at-len-le8 : goal.returns-then-at-len-le8
returns-then-at-len-le8 c = record {
  none = λ t k l u. blank-at c.args.marks.now c.args.at c.args.len k (eqb-true _ 0 t) (omega arith) l u;
}
