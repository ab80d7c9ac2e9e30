use Rattle.std.proofs.Common.{◌≡◌, ℕ, List, ap, length, rules}
use Rattle.hm_journal.proofs.Cuts.{behind_all, behind_first}
use Rattle.hm_journal.proofs.formats.behind_line.Goals as goal

pub returns-then-is_empty : goal.returns-then-is_empty
returns-then-is_empty c =
    let none : length c.span.result.1.now ≡ 0 = search rules in
    record { value = behind_all c.args.text.now c.span.result.1.now (ap (λ (p : List ℕ × List ℕ). p.1) c.span.ensures.parts) none }

pub returns : goal.returns
returns c = record { value = behind_first c.args.text.now c.span.result.1.now (ap (λ (p : List ℕ × List ℕ). p.1) c.span.ensures.parts) }
