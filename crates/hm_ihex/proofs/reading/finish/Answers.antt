use Rattle.std.proofs.Common.{◌≡◌, length, ap, sym, ◌∙◌, rules, Ok, List}
use Rattle.hm_base.specs.Image.{Segment}
use Rattle.hm_ihex.specs.Meant.{cells_of}
use Rattle.hm_ihex.proofs.Lines.{line_follows, nothing_follows}
use Rattle.hm_ihex.proofs.reading.finish.Goals as goal

pub returns-then-not-is_empty : goal.returns-then-not-is_empty
returns-then-not-is_empty c = record { value = line_follows c.args.number (cells_of c.args.areas.now) c.args.rest.now (search rules) }

pub returns-in-Ok : goal.returns-in-Ok
returns-in-Ok c =
    let none : length c.args.rest.now ≡ 0 = search rules in
    record {
      value = nothing_follows c.args.number (cells_of c.args.areas.now) c.args.rest.now none
          ∙ ap (λ (i : List Segment). Ok i) (sym c.in-Ok.ensures.image);
    }
