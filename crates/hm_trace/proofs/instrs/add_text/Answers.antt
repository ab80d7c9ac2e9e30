use Rattle.std.proofs.Common.{ℕ, List, ◌≡◌, ◌++◌, ◌∙◌, subst}
use Rattle.std.specs.Prelude.{IfOk}
use Rattle.hm_mem.specs.Memory.{flash_at}
use Rattle.hm_trace.proofs.Standing.{text_missing, text_shown}
use Rattle.hm_trace.proofs.instrs.add_text.Goals as goal

pub returns-in-Some : goal.returns-in-Some
returns-in-Some c = record {
  added = λ listing listed.
      let is = c.as_bytes.ensures.value ∙ c.as_str.ensures.value ∙ c.print_instr.ensures.text
      ∙ text_shown (flash_at c.args.machine.now.memory) listing c.args.addr c.in-Some.i listed c.in-Some.ensures.there in
      subst (λ (t : List ℕ). IfOk c.text.result (λ _. c.text.new.out.items ≡ c.args.out.now.items ++ t)) is c.text.ensures;
}

pub returns-in-None : goal.returns-in-None
returns-in-None c = record {
  added = λ listing listed.
      let is = text_missing (flash_at c.args.machine.now.memory) listing c.args.addr listed c.in-None.ensures.none in
      subst (λ (t : List ℕ). IfOk c.text-in-None.result (λ _. c.text-in-None.new.out.items ≡ c.args.out.now.items ++ t)) is c.text-in-None.ensures;
}
