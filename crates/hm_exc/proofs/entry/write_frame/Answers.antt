use Rattle.std.proofs.Common.{◌≡◌, ◌<◌, arith, ap, ◌∙◌, refl, rules, true}
use Rattle.hm_exc.specs.Frame.{frame_size}
use Rattle.hm_exc.proofs.Writes.{one_written}
use Rattle.hm_mem.specs.Memory.{Around, memory_of}
use Rattle.hm_mem.specs.Seen.{marks, seen}
use Rattle.hm_exc.proofs.entry.write_frame.Goals as goal

pub loop-k-preserved : goal.loop-k-preserved
loop-k-preserved c =
    let x = c.args.x.now in
    let a : (memory_of c.loop-k.m).around.actor ≡ (memory_of c.args.m.now).around.actor = ap (λ (v : Around). v.actor) c.loop-k.invariant.kept.around in
    let marked : marks (memory_of c.loop-k.m).around.actor ≡ true = ap marks (a ∙ c.requires.actor) in
    let lt : c.loop-k.k < frame_size x.long = omega (arith, c.frame_size-k-end.ensures.value) in
    record {
      seen = one_written x c.loop-k.k _ (seen (memory_of c.loop-k.m)) (seen (memory_of c.put.new.self)) (seen (memory_of c.args.m.now)) c.requires.in_sram lt
          (search rules) refl
          (marks (memory_of c.loop-k.m).around.actor) marked c.loop-k.invariant.seen c.put.ensures.seen;
      kept = record { flash = c.put.ensures.kept.flash ∙ c.loop-k.invariant.kept.flash; around = c.put.ensures.kept.around ∙ c.loop-k.invariant.kept.around };
    }
