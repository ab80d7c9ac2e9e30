use Rattle.std.proofs.Common.{ap, ◌∙◌, Bool, rules}
use Rattle.std.specs.Prelude.{nat_eq, if◌then◌else◌}
use Rattle.hm_mem.specs.Memory.{Memory, byte_at, memory_of, tainted_at}
use Rattle.hm_mem.specs.Seen.{Seen, marks, seen}
use Rattle.hm_undo.proofs.Laid.{laid_byte, laid_taint}
use Rattle.hm_undo.proofs.held.lay.Goals as goal

pub returns-clause-bytes : goal.returns-clause-bytes
returns-clause-bytes c a =
    ap (λ (m : Memory). byte_at m a) c.set_actor-2.ensures.memory
    ∙ ap (λ (s : Seen). s.byte a) c.put.ensures.seen
    ∙ laid_byte (seen (memory_of c.set_actor.new.self)) (marks (memory_of c.set_actor.new.self).around.actor) c.args.addr c.args.byte a (search rules)
    (search rules)
    ∙ ap (λ (m : Memory). if nat_eq a c.args.addr then c.args.byte else byte_at m a) c.set_actor.ensures.memory

pub returns-clause-taint : goal.returns-clause-taint
returns-clause-taint c a =
    ap (λ (m : Memory). tainted_at m a) c.set_actor-2.ensures.memory
    ∙ ap (λ (s : Seen). s.taint a) c.put.ensures.seen
    ∙ laid_taint (seen (memory_of c.set_actor.new.self)) _ c.args.addr c.args.byte a (search rules)
    ∙ ap (λ (m : Memory). if nat_eq a c.args.addr then marks m.around.actor else tainted_at m a) c.set_actor.ensures.memory
    ∙ ap (λ (b : Bool). if nat_eq a c.args.addr then b else tainted_at (memory_of c.args.mem.now) a) c.writer.ensures.marks
