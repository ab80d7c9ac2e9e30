use Rattle.std.proofs.Common.{◌≡◌, ◌≤◌, ◌+◌, ◌++◌, ◌∷◌, [], ℕ, List, true, false, get_or, is_none, length, drop, None, refl, sym, ap, ◌∙◌, rules, arith}
use Rattle.std.proofs.lemmas.List.{append-nil, drop_all, take_rest}
use Rattle.std.proofs.lemmas.List.Elements.{All-weaker}
use Rattle.hm_base.specs.Image.{Segment, segment}
use Rattle.hm_ihex.specs.Cells.{front_of, runs}
use Rattle.hm_ihex.proofs.Runs.{at_next, in_area, run_at, runs_nil, runs_skip}
use Rattle.hm_ihex.proofs.collect.add_runs.Goals as goal

pub loop-at-preserved-then-is_none : goal.loop-at-preserved-then-is_none
loop-at-preserved-then-is_none c =
    let cells = c.args.cells.now in
    let at = c.loop-at.at in
    let none : is_none (get_or cells at None) ≡ true = search rules in
    record {
      within = omega (arith, c.loop-at-test.true);
      added = ap (λ (ss : List Segment). c.loop-at.image ++ ss) (sym (runs_skip c.args.start at cells c.loop-at-test.true none)) ∙ c.loop-at.invariant.added;
      behind = All-weaker (λ (s : Segment). s.addr + length s.bytes ≤ c.args.start + at) (λ (s : Segment). s.addr + length s.bytes ≤ c.args.start + (at + 1))
          (λ s h. omega arith) c.loop-at.image c.loop-at.invariant.behind;
    }

pub add_behind-requires-clause-placed : goal.add_behind-requires-clause-placed
add_behind-requires-clause-placed c =
    let cells = c.args.cells.now in
    let at = c.loop-at.at in
    let some : is_none (get_or cells at None) ≡ false = search rules in
    let run = run_at c.args.start at cells c.loop-at-test.true some in
    let bytes : c.in_ok-bytes.bytes.items ≡ front_of (drop at cells) = c.in_ok-bytes.ensures.bytes ∙ ap front_of (take_rest cells at) in
    let count : length c.in_ok-bytes.bytes.items ≡ length (front_of (drop at cells)) = ap length bytes in
    let within = run.within in
    in_area c.args.start (c.args.start + at) (length (front_of (drop at cells))) (c.args.start + length cells) c.in_ok-bytes.bytes.items c.requires.area
    (omega arith) (omega arith) count run.some

pub loop-at-smaller : goal.loop-at-smaller
loop-at-smaller c =
    let cells = c.args.cells.now in
    let at = c.loop-at.at in
    let some : is_none (get_or cells at None) ≡ false = search rules in
    let run = run_at c.args.start at cells c.loop-at-test.true some in
    let bytes : c.in_ok-bytes.bytes.items ≡ front_of (drop at cells) = c.in_ok-bytes.ensures.bytes ∙ ap front_of (take_rest cells at) in
    let count : c.len-count.result ≡ length (front_of (drop at cells)) = search (rules, bytes) in
    let within = run.within in
    let positive = run.some in
    omega (arith, c.loop-at-test.true)

pub loop-at-preserved : goal.loop-at-preserved
loop-at-preserved c =
    let cells = c.args.cells.now in
    let at = c.loop-at.at in
    let some : is_none (get_or cells at None) ≡ false = search rules in
    let run = run_at c.args.start at cells c.loop-at-test.true some in
    let bytes : c.in_ok-bytes.bytes.items ≡ front_of (drop at cells) = c.in_ok-bytes.ensures.bytes ∙ ap front_of (take_rest cells at) in
    let n = length (front_of (drop at cells)) in
    let count : c.len-count.result ≡ n = search (rules, bytes) in
    let image : c.add_behind.new.image ≡ c.loop-at.image ++ segment (c.args.start + at) (front_of (drop at cells)) ∷ [] = c.in_ok-add_behind.ensures.added
    ∙ ap (λ (b : List ℕ). c.loop-at.image ++ segment (c.args.start + at) b ∷ []) bytes in
    let next = at_next c.args.start at n c.len-count.result cells c.loop-at.image c.add_behind.new.image (c.args.image.now ++ runs c.args.start cells)
    (front_of (drop at cells)) count image refl run.within run.first
    (record { within = c.loop-at.invariant.within; added = c.loop-at.invariant.added; behind = c.loop-at.invariant.behind }) in
    record { within = next.within; added = next.added; behind = next.behind }

pub returns-clause-added : goal.returns-clause-added
returns-clause-added c =
    let none : drop c.loop-at.at c.args.cells.now ≡ [] = drop_all c.loop-at.at c.args.cells.now c.loop-at-test.false in
    sym (append-nil c.loop-at.image)
    ∙ ap (λ (ss : List Segment). c.loop-at.image ++ ss) (sym (ap (runs (c.args.start + c.loop-at.at)) none ∙ runs_nil (c.args.start + c.loop-at.at)))
    ∙ c.loop-at.invariant.added
