use Rattle.std.proofs.Common.{rules, ◌≡◌, None, length, ap, sym, ◌∙◌, inl, inr}
use Rattle.std.proofs.lemmas.List.{nil_from_length}
use Rattle.hm_machine.specs.Shown.{Shown}
use Rattle.hm_machine.proofs.machine.Machine.next_line.Goals as goal

pub returns-then-lines-eq0-clause-none : goal.returns-then-lines-eq0-clause-none
returns-then-lines-eq0-clause-none c = λ none.
    ap (λ (v : Shown). v.schedule.lines) (sym c.self.view_is) ∙ nil_from_length c.self.inside.schedule.lines (sym c.lines.ensures.count ∙ c.if-lines-eq0.true)

pub line_at-requires : goal.line_at-requires
line_at-requires c =
    elim (c.self.invariant.running (search rules)) [
      | inl stands ↦ stands
      | inr empty ↦ absurd (c.if-lines-eq0.false (c.lines.ensures.count ∙ ap length empty))
    ]

pub returns-clause-runs : goal.returns-clause-runs
returns-clause-runs c = ap (λ (v : Shown). v.outcome) (sym c.self.view_is) ∙ search rules

pub returns-clause-first : goal.returns-clause-first
returns-clause-first c = let none : c.self.inside.outcome ≡ None = search rules in rw (← c.self.view_is, none) c.line_at.ensures.first
