use Rattle.std.proofs.Common.{rules, ◌≡◌, ◌+◌, ◌-◌, arith, ap, sym, ◌∙◌, false, [], Ok}
use Rattle.hm_cpu.proofs.Services.{all_free, behind_nothing, behind_these, none_read, one_read, text_ends, text_goes, text_is_long, text_stops}
use Rattle.hm_mem.specs.Memory.{memory_of}
use Rattle.hm_mem.specs.Seen.{seen}
use Rattle.hm_mem.specs.declared.Access.TheVariants.{Scalar}
use Rattle.hm_thumb.specs.Calls.{text}
use Rattle.hm_thumb.specs.Does.{first_stop, in_machine, words}
use Rattle.hm_cpu.proofs.service.text_length.Goals as goal

pub loop-k-init : goal.loop-k-init
loop-k-init c =
    let m = memory_of c.args.mem.now in
    let R = in_machine m.around in
    let all : c.args.most - 0 ≡ c.args.most = omega arith in
    record {
      read = none_read R (seen m) c.args.addr;
      text = ap (λ n. behind_these [] (text R n c.args.addr (seen m))) all ∙ behind_nothing (text R c.args.most c.args.addr (seen m));
    }

pub returns-in-Err-clause-value : goal.returns-in-Err-clause-value
returns-in-Err-clause-value c =
    let m = memory_of c.args.mem.now in
    sym (text_stops (in_machine m.around) (seen m) c.loop-k.k c.args.addr c.loop-k.at c.loop-k.invariant.read (c.args.most - c.loop-k.k)
    (c.args.most - (c.loop-k.k + 1)) c.in-Err.stop (omega arith) (search rules))
    ∙ c.loop-k.invariant.text

pub returns-then-peek-eq0-clause-value : goal.returns-then-peek-eq0-clause-value
returns-then-peek-eq0-clause-value c =
    let m = memory_of c.args.mem.now in
    sym (text_ends (in_machine m.around) (seen m) c.loop-k.k c.args.addr c.loop-k.at c.loop-k.invariant.read (c.args.most - c.loop-k.k)
    (c.args.most - (c.loop-k.k + 1)) (omega arith) (search rules) (search rules))
    ∙ c.loop-k.invariant.text

pub returns-then-peek-eq0-clause-free : goal.returns-then-peek-eq0-clause-free
returns-then-peek-eq0-clause-free c =
    let m = memory_of c.args.mem.now in
    all_free (in_machine m.around) (seen m) c.loop-k.k c.args.addr c.loop-k.at c.loop-k.invariant.read

pub loop-k-preserved : goal.loop-k-preserved
loop-k-preserved c =
    let m = memory_of c.args.mem.now in
    let R = in_machine m.around in
    record {
      read = one_read R (seen m) c.loop-k.k c.args.addr c.loop-k.at c.loop-k.invariant.read (search rules);
      text =
          sym (text_goes R (seen m) c.loop-k.k c.args.addr c.loop-k.at c.loop-k.invariant.read (c.args.most - c.loop-k.k) (c.args.most - (c.loop-k.k + 1))
          (omega arith) (search rules) (search rules))
          ∙ c.loop-k.invariant.text;
    }

pub returns-clause-value : goal.returns-clause-value
returns-clause-value c =
    let m = memory_of c.args.mem.now in
    let all : c.loop-k.k ≡ c.args.most = omega arith in
    let left : c.args.most - c.loop-k.k ≡ 0 = omega arith in
    sym (ap (λ k. Ok (words 1 k c.args.addr (seen m))) all)
    ∙ sym (text_is_long (in_machine m.around) (seen m) c.loop-k.k c.args.addr c.loop-k.at c.loop-k.invariant.read (c.args.most - c.loop-k.k) left)
    ∙ c.loop-k.invariant.text

pub returns-clause-free : goal.returns-clause-free
returns-clause-free c =
    let m = memory_of c.args.mem.now in
    let all : c.loop-k.k ≡ c.args.most = omega arith in
    sym (ap (λ k. first_stop (in_machine m.around) Scalar false 1 k c.args.addr (seen m)) all)
    ∙ all_free (in_machine m.around) (seen m) c.loop-k.k c.args.addr c.loop-k.at c.loop-k.invariant.read
