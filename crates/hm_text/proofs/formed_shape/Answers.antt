use Rattle.std.proofs.Common.{subst, sym}
use Rattle.hm_line.specs.declared.errors.AsmKind.{AsmKind}
use Rattle.hm_text_tables.specs.Refusals.{IsShapeRefused}
use Rattle.hm_text_tables.proofs.InTables.{seen_of, seen_parts}
use Rattle.hm_text.proofs.formed_shape.Goals as goal

pub returns-in-Some-clause-told : goal.returns-in-Some-clause-told
returns-in-Some-clause-told c = let f = c.in-Some.ensures.found in (f.0, f.1, record { form = c.requires.form; has = f.2 }, f.3, f.4)

pub returns-in-Some-clause-only : goal.returns-in-Some-clause-only
returns-in-Some-clause-only c i u row = seen_parts _ _ (seen_of i u) (c.in-Some.ensures.only i u row.has)

pub returns-in-None-clause-told : goal.returns-in-None-clause-told
returns-in-None-clause-told c =
    subst (λ (k : AsmKind). IsShapeRefused k c.args.text.now c.no_row.result.column) (sym c.no_row.ensures.kind)
    (record { form = c.requires.form; none = λ i u row. (let e = c.in-None.ensures.only i u row.has in cc); column = c.no_row.ensures.column })
