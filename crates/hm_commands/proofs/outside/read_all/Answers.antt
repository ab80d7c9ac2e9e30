use Rattle.std.proofs.Common.{◌≡◌, ◌≤◌, ◌+◌, ◌∷◌, ◌++◌, [], ℕ, List, Vec, Global, All, length, map, drop, ap, sym, subst, ◌∙◌, arith, rules}
use Rattle.std.proofs.lemmas.List.{map_push}
use Rattle.std.proofs.lemmas.List.Elements.{All-push}
use Rattle.hm_host.specs.Host.{longest}
use Rattle.hm_commands.specs.Effect.{after_contents, reading_of}
use Rattle.hm_commands.proofs.Readings.{ReadsAll-err, next_told, next_calls, next_splits, reads_done, calls_cut, calls_lost}
use Rattle.hm_commands.proofs.outside.read_all.Goals as goal

pub returns-in-Err-clause-answer : goal.returns-in-Err-clause-answer
returns-in-Err-clause-answer g c =
    ReadsAll-err _ _ _ _ c.args.names.now c.loop-name.name-index c.in-Err.e c.loop-name.invariant.told c.loop-name-test.true c.loop-name.invariant.files
    c.in-Err.ensures.answer

pub returns-then-is_err-clause-calls : goal.returns-then-is_err-clause-calls
returns-then-is_err-clause-calls g c = λ F is.
    let i = c.loop-name.invariant in
    let h = c.in-Ok.ensures in
    let names = c.args.names.now in
    let lt = c.loop-name-test.true in
    calls_lost F names _ _ _ (next_splits F names c.loop-name.name-index _ lt (h.answer.1 F (i.files F is)) h.answer.0 (i.splits F is))
    (next_calls names c.loop-name.name-index _ _ _ lt i.calls h.calls)

pub returns-in-Err-clause-calls : goal.returns-in-Err-clause-calls
returns-in-Err-clause-calls g c = λ F is.
    let i = c.loop-name.invariant in
    let h = c.in-Err.ensures in
    calls_cut F _ c.args.names.now c.loop-name.name-index c.in-Err.e _ _ _ c.loop-name-test.true (i.splits F is) i.calls h.calls (i.files F is) h.answer

pub loop-name-preserved : goal.loop-name-preserved
loop-name-preserved g c =
    let i = c.loop-name.invariant in
    let h = c.in-Ok.ensures in
    let names = c.args.names.now in
    let lt = c.loop-name-test.true in
    let pushed : c.push.new.self.items ≡ c.loop-name.contents.items ++ c.in-Ok.bytes ∷ [] = search rules in
    let items : map (λ (v : Vec ℕ Global). v.items) c.push.new.self.items
    ≡ map (λ (v : Vec ℕ Global). v.items) c.loop-name.contents.items ++ c.in-Ok.bytes.items ∷ []
    = ap (map (λ (v : Vec ℕ Global). v.items)) pushed ∙ map_push (λ (v : Vec ℕ Global). v.items) c.loop-name.contents.items c.in-Ok.bytes in
    record {
      each = search rules;
      short = subst (λ (l : List (Vec ℕ Global)). All (λ (v : Vec ℕ Global). length v.items ≤ longest) l) (sym pushed)
          (All-push (λ (v : Vec ℕ Global). length v.items ≤ longest) c.loop-name.contents.items c.in-Ok.bytes i.short h.answer.0);
      told = λ F is.
          i.told F is ∙ next_told F _ names c.loop-name.name-index c.in-Ok.bytes.items lt (h.answer.1 F (i.files F is)) h.answer.0
          ∙ ap (λ (b : List (List ℕ)). after_contents b (reading_of F (map (λ name. name.now) (drop (c.loop-name.name-index + 1) names)))) (sym items);
      files = λ F is. h.files F (i.files F is);
      printed = λ P is. h.printed P (i.printed P is);
      splits = λ F is. next_splits F names c.loop-name.name-index _ lt (h.answer.1 F (i.files F is)) h.answer.0 (i.splits F is);
      calls = next_calls names c.loop-name.name-index _ _ _ lt i.calls h.calls;
      faults = h.count ∙ i.faults;
    }

pub returns-clause-calls : goal.returns-clause-calls
returns-clause-calls g c = λ F is.
    let i = c.loop-name.invariant in
    reads_done F c.args.names.now c.loop-name.name-index _ _ (omega arith) (i.splits F is) i.calls
