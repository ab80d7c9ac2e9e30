use Rattle.std.proofs.Common.{◌≡◌, ℕ, List, [], ◌∷◌, ap, arith, inr, length, rules, sym, ◌∙◌, subst}
use Rattle.std.proofs.lemmas.List.{nil_from_length}
use Rattle.hm_text_base.specs.Spans.{Lines, lines_of}
use Rattle.hm_debug.proofs.Lines.{count_line, some_says}
use Rattle.hm_debug.specs.Scripts.{IsFirstBad, SayAll, lines_in}
use Rattle.hm_debug.proofs.checking.check_lines.Goals as goal

pub loop-words-preserved : goal.loop-words-preserved
loop-words-preserved c =
    let ended = c.in-Some.ensures.ended in
    let did = some_says c.in-Some.words.now c.read_command.result c.if-is_none.ensures c.read_command.ensures.found in
    let few = c.loop-words.invariant.few in
    let one = ap lines_in ended ∙ count_line (lines_of c.in-Some.after.now).0 c.in-Some.words.now (lines_of c.in-Some.after.now).1 in
    record {
      fine = λ cs say. c.loop-words.invariant.fine (did.0 ∷ cs) (subst (λ (ls : Lines). SayAll ls (did.0 ∷ cs)) (sym ended) (did.1, say));
      bad = λ k b. c.loop-words.invariant.bad k (subst (λ (ls : Lines). IsFirstBad k c.loop-words.line ls) (sym ended) (inr (did.0, did.1, b)));
      few = omega (arith, few, one);
    }

pub returns-then-is_empty-clause-fine : goal.returns-then-is_empty-clause-fine
returns-then-is_empty-clause-fine c =
    let none : length c.loop-words.rest.now ≡ 0 = search rules in
    let lines : lines_of c.loop-words.rest.now ≡ ([], []) = c.in_default.ensures.unended
    ∙ ap (λ (r : List ℕ). ([], r)) (nil_from_length c.loop-words.rest.now none) in
    c.loop-words.invariant.fine [] (subst (λ (ls : Lines). SayAll ls []) (sym lines) tt)
