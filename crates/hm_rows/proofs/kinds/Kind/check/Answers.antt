use Rattle.std.proofs.Common.{◌≡◌, ℕ, List, sym, subst}
use Rattle.hm_mem.specs.Memory.{Memory, memory_of}
use Rattle.hm_regs.specs.declared.Regs.{Regs}
use Rattle.hm_beat.specs.Laws.{Checks, run}
use Rattle.hm_forms.specs.declared.form.Form.{Form}
use Rattle.hm_forms.proofs.Bytes.{form_passes, passed}
use Rattle.hm_rows.specs.declared.kinds.Kind.{Kind}
use Rattle.hm_rows.specs.declared.kinds.Kind.TheVariants.{Registers}
use Rattle.hm_rows.specs.Rows.{kind_seen, tree_of}
use Rattle.hm_rows.proofs.kinds.Kind.check.Goals as goal

registers_pass : (k : Kind) (f : Form) → k ≡ Registers f → (b : ℕ) (r : Regs) (m : Memory) (output : List ℕ)
    → Checks (run (tree_of (kind_seen k) m.around b) r m output) passed
registers_pass k f e b r m output = subst (λ (x : Kind). Checks (run (tree_of (kind_seen x) m.around b) r m output) passed) (sym e) (form_passes f b r m output)

pub returns-in-Registers : goal.returns-in-Registers
returns-in-Registers c = λ output. registers_pass _ _ c.in-Registers.is c.args.b c.args.r.now (memory_of c.args.m.now) output
