use Rattle.std.proofs.Common.{◌%◌, arith}
use Rattle.std.proofs.lemmas.Nat.{one_shl}
use Rattle.hm_sched.proofs.WordLaws.{bit_fits, bit_set}
use Rattle.hm_sched.proofs.tick_text.with_bit.Goals as goal

pub overflow_add-all : goal.overflow_add-all
overflow_add-all c =
    let e = one_shl (c.args.n % 32) 32 (omega arith) in
    let b = bit_fits c.args.bits.now c.args.n c.requires.above in
    rw e (omega (arith, b))

pub returns : goal.returns
returns c =
    let e = one_shl (c.args.n % 32) 32 (omega arith) in
    rw e record { value = bit_set c.args.bits.now c.args.n (omega (arith, c.told-bits, c.requires.there)) }
