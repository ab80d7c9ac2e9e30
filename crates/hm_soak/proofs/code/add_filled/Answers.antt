use Rattle.std.proofs.Common.{[], ◌∷◌, ◌+◌, ◌/◌, ◌%◌}
use Rattle.hm_soak_laws.specs.Soak.{Movt, Movw, Vdup}
use Rattle.hm_soak.proofs.Adding.{adds_last}
use Rattle.hm_soak.proofs.code.add_filled.Goals as goal

pub returns : goal.returns
returns c =
    let v = c.args.v in
    record {
      codes = adds_last (Movw 1 (v % 65536) ∷ Movt 1 (v / 65536) ∷ []) (Vdup (4 + c.args.j) 1) c.duplicate_row.result c.args.out.now.items
          c.add_constant.new.out.items c.add_code.new.out.items c.add_code.result
          c.in_ok-add_constant.ensures.codes c.duplicate_row.ensures.row c.add_code.ensures.added;
    }
