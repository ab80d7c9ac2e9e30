use Rattle.std.proofs.Common.{◌≡◌, ◌+◌, ◌-◌, ◌++◌, [], ◌∷◌, ap, arith, refl, sym, ◌∙◌, append-nil, false}
use Rattle.hm_mem.specs.Memory.{memory_of}
use Rattle.hm_mem.specs.Seen.{seen}
use Rattle.hm_mem.specs.declared.Access.TheVariants.{Scalar}
use Rattle.hm_thumb.specs.Does.{first_stop, in_machine, words}
use Rattle.hm_thumb.proofs.Elements.{first_stop-none, words-more}
use Rattle.hm_cpu.proofs.service.print.Goals as goal

pub loop-k-init : goal.loop-k-init
loop-k-init c =
    let m = memory_of c.args.mem.now in
    let room = c.requires.room in
    let all : c.args.len - 0 ≡ c.args.len = omega arith in
    record {
      free = ap (λ n. first_stop (in_machine m.around) Scalar false 1 n c.args.addr (seen m)) all ∙ c.requires.free;
      room = omega (arith, room);
      capacity = refl;
      items = ap (λ n. c.args.output.now.items ++ words 1 n c.args.addr (seen m)) all;
    }

pub byte_at-requires : goal.byte_at-requires
byte_at-requires c =
    let m = memory_of c.args.mem.now in
    let left = c.args.len - c.loop-k._k in
    let rest = c.args.len - (c.loop-k._k + 1) in
    record { free = (first_stop-none (in_machine m.around) Scalar false 1 c.loop-k.at (seen m) left rest (omega arith) c.loop-k.invariant.free).0 }

pub push_reserved-requires : goal.push_reserved-requires
push_reserved-requires c =
    let room = c.loop-k.invariant.room in
    let more = c.loop-k-test.true in
    omega (arith, room, more)

pub loop-k-preserved : goal.loop-k-preserved
loop-k-preserved c =
    let m = memory_of c.args.mem.now in
    let left = c.args.len - c.loop-k._k in
    let rest = c.args.len - (c.loop-k._k + 1) in
    let room = c.loop-k.invariant.room in
    let more = c.loop-k-test.true in
    let len = c.push_reserved.ensures.len in
    let capacity = c.push_reserved.ensures.capacity in
    record {
      free = (first_stop-none (in_machine m.around) Scalar false 1 c.loop-k.at (seen m) left rest (omega arith) c.loop-k.invariant.free).1;
      room = omega (arith, room, more, len, capacity);
      capacity = capacity ∙ c.loop-k.invariant.capacity;
      items =
          words-more 1 c.loop-k.at left rest (seen m) c.loop-k.output.items _ _ (omega arith)
          (c.push_reserved.ensures.items ∙ ap (λ x. c.loop-k.output.items ++ x ∷ []) c.byte_at.ensures.value)
          c.loop-k.invariant.items;
    }

pub returns-clause-items : goal.returns-clause-items
returns-clause-items c =
    let m = memory_of c.args.mem.now in
    let left : c.args.len - c.loop-k._k ≡ 0 = omega arith in
    sym (append-nil c.loop-k.output.items) ∙ ap (λ n. c.loop-k.output.items ++ words 1 n c.loop-k.at (seen m)) (sym left) ∙ c.loop-k.invariant.items
