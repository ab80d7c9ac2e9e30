use Rattle.std.proofs.Common.{◌*◌, ◌/◌, ◌^◌, ◌<◌, length, get_or, true, ◌∙◌, arith}
use Rattle.hm_mem.specs.declared.Access.TheVariants.{Vector}
use Rattle.hm_mem.specs.Memory.{memory_of}
use Rattle.hm_mem.specs.Seen.{after_store, is_thread, marks, seen}
use Rattle.hm_moves.specs.Moves.{byte_count}
use Rattle.hm_moves.proofs.Accesses.{in_sram}
use Rattle.hm_mem.proofs.Elsewhere.{same_trans}
use Rattle.hm_mem.proofs.Stops.{fault_free, stop_of-elsewhere}
use Rattle.hm_moves.proofs.Loops.{drop_none, none, stop_none}
use Rattle.hm_moves.proofs.Stored.{put_state, store_next}
use Rattle.hm_moves.proofs.elements.store_all.Goals as goal

pub put-requires-clause-free : goal.put-requires-clause-free
put-requires-clause-free c =
    let m = memory_of c.args.m.now in
    let len = byte_count c.args.row.now.memory in
    let k = c.loop-e.e-index in
    rw c.byte_count.ensures.value (stop_of-elsewhere (memory_of c.loop-e.m).around m.around Vector len (get_or c.args.es.now k none).addr
    (seen (memory_of c.loop-e.m)) (seen m) c.loop-e.invariant.kept.around
    (stop_none m.around true len c.args.es.now k (seen m) (omega arith) (drop_none m.around true len c.args.es.now k (seen m) c.requires.free)).0)

pub loop-e-preserved : goal.loop-e-preserved
loop-e-preserved c =
    let m = memory_of c.args.m.now in
    let z = c.args.row.now.memory in
    let k = c.loop-e.e-index in
    let e = get_or c.args.es.now k none in
    let t = marks m.around.actor in
    let low : k < length c.args.es.now = omega arith in
    let free = (stop_none m.around true (byte_count z) c.args.es.now k (seen m) low
    (drop_none m.around true (byte_count z) c.args.es.now k (seen m) c.requires.free)).0 in
    let lies = in_sram (is_thread m.around.actor) (byte_count z) e.addr (fault_free m.around Vector true (byte_count z) e.addr (seen m) free) in
    record {
      state = λ r output.
          store_next t z c.args.es.now c.args.words.now k _ _ low
          (put_state (memory_of c.loop-e.m) (memory_of c.put.new.self) r output t z e c.args.words.now lies
          (c.put.ensures.seen ∙ (λ j. after_store (marks (c.loop-e.invariant.kept.around j).actor) (c.byte_count.ensures.value j) e.addr
          (c.number_at.ensures j / 2 ^ (8 * e.lane)) (seen (memory_of c.loop-e.m)))) c.put.ensures.kept.around)
          ∙ c.loop-e.invariant.state r output;
      kept = same_trans _ _ _ c.loop-e.invariant.kept c.put.ensures.kept;
    }
