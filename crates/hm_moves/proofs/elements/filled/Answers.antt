use Rattle.std.proofs.Common.{◌≡◌, ◌+◌, ◌-◌, ◌<◌, drop, get_or, length, false, ap, subst, ◌∙◌, arith}
use Rattle.hm_mem.specs.Memory.{memory_of}
use Rattle.hm_mem.specs.Seen.{read, seen}
use Rattle.hm_moves.specs.Coded.{filled_in}
use Rattle.hm_moves.specs.Moves.{byte_count}
use Rattle.hm_moves.specs.Ways.{moves_of}
use Rattle.hm_moves.proofs.Loops.{drop_none, fill_next, none, stop_none}
use Rattle.hm_moves.proofs.elements.filled.Goals as goal

pub peek-x-requires-clause-free : goal.peek-x-requires-clause-free
peek-x-requires-clause-free c =
    let m = memory_of c.args.m.now in
    let len = byte_count c.args.row.now.memory in
    let low : c.loop-k.k - 1 < length c.args.es.now = omega arith in
    rw c.byte_count.ensures.value (stop_none m.around false len c.args.es.now (c.loop-k.k - 1) (seen m) low
    (drop_none m.around false len c.args.es.now (c.loop-k.k - 1) (seen m) c.requires.free)).0

pub loop-k-preserved : goal.loop-k-preserved
loop-k-preserved c =
    let i = moves_of c.args.row.now in
    let s = seen (memory_of c.args.m.now) in
    let next : c.loop-k.k ≡ c.loop-k.k - 1 + 1 = omega arith in
    let low : c.loop-k.k - 1 < length c.args.es.now = omega arith in
    let so_far = subst (λ n. c.loop-k.word ≡ filled_in i c.args.j (drop n c.args.es.now) c.args.old s) next c.loop-k.invariant in
    let x = c.peek-x.ensures.value ∙ ap (λ n. read n (get_or c.args.es.now (c.loop-k.k - 1) none).addr s) c.byte_count.ensures.value in
    fill_next i c.args.j c.args.es.now (c.loop-k.k - 1) c.args.old _ c.loop-k.word _ s low so_far x c.laid-word.ensures
