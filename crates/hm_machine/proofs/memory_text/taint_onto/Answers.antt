use Rattle.std.proofs.Common.{ap, sym, ◌∙◌, ◌++◌, List, ℕ, rules}
use Rattle.hm_mem.specs.Memory.{memory_of}
use Rattle.hm_machine.proofs.MemoryTexts.{marks_told}
use Rattle.hm_machine.proofs.memory_text.taint_onto.Goals as goal

pub returns : goal.returns
returns c =
    c.in_ok-extend_from_slice.ensures.items
    ∙ ap (λ (l : List ℕ). c.args.out.now.items ++ l)
    (sym (marks_told (memory_of c.args.mem.now) c.marks-marks.result.now c.marks-marks.ensures.value c.sized.ensures.taint (λ k h. search rules)))
