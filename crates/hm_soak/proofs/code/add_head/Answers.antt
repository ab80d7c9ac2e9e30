use Rattle.std.proofs.Common.{[], ◌∷◌}
use Rattle.hm_soak_laws.specs.Soak.{Movs, Movt, Movw, Str}
use Rattle.hm_soak.proofs.Adding.{adds_last, adds_next}
use Rattle.hm_soak.proofs.code.add_head.Goals as goal

pub returns : goal.returns
returns c =
    let a = c.args.out.now.items in
    let b = c.add_constant.new.out.items in
    let three = adds_next (Movw 2 0xe100 ∷ Movt 2 0xe000 ∷ []) (Movs 3 1) c.byte_row.result a b c.add_code.new.out.items c.in_ok-add_constant.ensures.codes
    c.byte_row.ensures.row c.in_ok-add_code.ensures.added in
    record {
      codes = adds_last (Movw 2 0xe100 ∷ Movt 2 0xe000 ∷ Movs 3 1 ∷ []) (Str 3 2) c.store.result a c.add_code.new.out.items c.add_code-2.new.out.items
          c.add_code-2.result three c.store.ensures.row
          c.add_code-2.ensures.added;
    }
