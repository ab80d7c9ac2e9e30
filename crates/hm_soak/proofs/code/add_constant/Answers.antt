use Rattle.std.proofs.Common.{[], ◌∷◌, ◌/◌, ◌%◌}
use Rattle.hm_soak_laws.specs.Soak.{Movt, Movw}
use Rattle.hm_soak.proofs.Adding.{adds_last, adds_next, adds_none}
use Rattle.hm_soak.proofs.code.add_constant.Goals as goal

pub returns : goal.returns
returns c =
    let a = c.args.out.now.items in
    let d = c.args.d in
    let low = c.args.word % 65536 in
    let one = adds_next [] (Movw d low) c.half_row.result a a c.add_code.new.out.items (adds_none a) c.half_row.ensures.row c.in_ok-add_code.ensures.added in
    record {
      codes = adds_last (Movw d low ∷ []) (Movt d (c.args.word / 65536)) c.half_row-2.result a c.add_code.new.out.items c.add_code-2.new.out.items
          c.add_code-2.result one c.half_row-2.ensures.row
          c.add_code-2.ensures.added;
    }
