use Rattle.std.proofs.Common.{◌≡◌, ◌+◌, ◌++◌, ◌∷◌, [], ℕ, List, append_assoc, drop, sym, ap, ◌∙◌, rules}
use Rattle.std.proofs.lemmas.List.{append-nil}
use Rattle.hm_ihex.specs.Cells.{front_of}
use Rattle.hm_ihex.proofs.Loops.{front_all, front_more, front_none}
use Rattle.hm_ihex.proofs.collect.front.Goals as goal

pub returns-in-None : goal.returns-in-None
returns-in-None c =
    let none = front_none c.args.cells.now c.loop-cell.cell-index c.loop-cell-test.true c.in-None.is in
    record { bytes = sym (append-nil c.loop-cell.bytes.items) ∙ ap (λ (x : List ℕ). c.loop-cell.bytes.items ++ x) (sym none) ∙ c.loop-cell.invariant }

pub loop-cell-preserved : goal.loop-cell-preserved
loop-cell-preserved c =
    let more = front_more c.args.cells.now c.loop-cell.cell-index c.in-Some.byte c.loop-cell-test.true c.in-Some.is in
    let pushed : c.push.new.self.items ≡ c.loop-cell.bytes.items ++ c.in-Some.byte ∷ [] = search rules in
    ap (λ (x : List ℕ). x ++ front_of (drop (c.loop-cell.cell-index + 1) c.args.cells.now)) pushed
    ∙ append_assoc c.loop-cell.bytes.items (c.in-Some.byte ∷ []) (front_of (drop (c.loop-cell.cell-index + 1) c.args.cells.now))
    ∙ ap (λ (x : List ℕ). c.loop-cell.bytes.items ++ x) (sym more) ∙ c.loop-cell.invariant

pub returns : goal.returns
returns c =
    let none = front_all c.args.cells.now c.loop-cell.cell-index c.loop-cell-test.false in
    record { bytes = sym (append-nil c.loop-cell.bytes.items) ∙ ap (λ (x : List ℕ). c.loop-cell.bytes.items ++ x) (sym none) ∙ c.loop-cell.invariant }
