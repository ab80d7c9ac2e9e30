use Rattle.std.proofs.Common.{[], ◌∷◌}
use Rattle.hm_soak_laws.specs.Soak.{Bkpt, Bx, Movs, Nop}
use Rattle.hm_soak.proofs.Adding.{adds_last, adds_next, adds_none}
use Rattle.hm_soak.proofs.code.add_end.Goals as goal

pub returns : goal.returns
returns c =
    let a = c.args.out.now.items in
    let one = adds_next [] (Bkpt 0) c.breakpoint_row.result a a c.add_code.new.out.items (adds_none a) c.breakpoint_row.ensures.row
    c.in_ok-add_code.ensures.added in
    let two = adds_next (Bkpt 0 ∷ []) (Movs 0 7) c.byte_row.result a c.add_code.new.out.items c.add_code-2.new.out.items one c.byte_row.ensures.row
    c.in_ok-add_code-2.ensures.added in
    let three = adds_next (Bkpt 0 ∷ Movs 0 7 ∷ []) Nop c.no_operation.result a c.add_code-2.new.out.items c.add_code-3.new.out.items two
    c.no_operation.ensures.row c.in_ok-add_code-3.ensures.added in
    record {
      codes = adds_last (Bkpt 0 ∷ Movs 0 7 ∷ Nop ∷ []) (Bx 14) c.branch_to_link.result a c.add_code-3.new.out.items c.add_code-4.new.out.items
          c.add_code-4.result three c.branch_to_link.ensures.row
          c.add_code-4.ensures.added;
    }
