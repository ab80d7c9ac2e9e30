use Rattle.std.proofs.Common.{refl}
use Rattle.std.specs.FinMap.{get}
use Rattle.std.specs.Prelude.{option_map}
use Rattle.hm_tokens.specs.Tokens.{tok}
use Rattle.hm_text_tables.proofs.Told.{is_missing, is_out_of_reach, missing_reads, missing_tells, nothing_at, one_at_label, out_reads, out_tells, row_is_named}
use Rattle.hm_text_tables.proofs.Told.{row_reads, row_tells, shape_label, shape_reads, shape_tells}
use Rattle.hm_text.proofs.parse_instr.Goals as goal

pub returns-in-Some-row_at-clause-read : goal.returns-in-Some-row_at-clause-read
returns-in-Some-row_at-clause-read c =
    let l = option_map tok c.in-Ok.shape.label in
    let label = shape_label c.args.text.now c.in-Ok.shape.width l c.in-Ok.ensures.only in
    row_reads c.args.text.now c.args.pc c.in-Some.address (get c.args.labels.now) l c.in-Some-row_at.i label c.in-Some.ensures.named
    (row_is_named c.args.text.now c.args.pc c.in-Some.address (get c.args.labels.now) l c.in-Some-row_at.i c.in-Ok.ensures.told.2.form label
    c.in-Some.ensures.named c.in-Some-row_at.ensures.found) c.in-Some-row_at.ensures.only

pub returns-in-Some-row_at-clause-refused : goal.returns-in-Some-row_at-clause-refused
returns-in-Some-row_at-clause-refused c =
    let l = option_map tok c.in-Ok.shape.label in
    let label = shape_label c.args.text.now c.in-Ok.shape.width l c.in-Ok.ensures.only in
    row_tells c.args.text.now c.args.pc c.in-Some.address (get c.args.labels.now) l c.in-Some-row_at.i label c.in-Some.ensures.named
    (row_is_named c.args.text.now c.args.pc c.in-Some.address (get c.args.labels.now) l c.in-Some-row_at.i c.in-Ok.ensures.told.2.form label
    c.in-Some.ensures.named c.in-Some-row_at.ensures.found)

pub returns-in-None-row_at-clause-read : goal.returns-in-None-row_at-clause-read
returns-in-None-row_at-clause-read c =
    let l = option_map tok c.in-Ok.shape.label in
    let label = shape_label c.args.text.now c.in-Ok.shape.width l c.in-Ok.ensures.only in
    out_reads c.args.text.now c.args.pc (get c.args.labels.now) _ c.last_column.result
    (is_out_of_reach c.args.text.now c.args.pc c.in-Some.address (get c.args.labels.now) c.in-Ok.shape.width l c.last_column.result c.in-Ok.ensures.told label
    c.in-Some.ensures.named (nothing_at c.args.text.now c.args.pc c.in-Some.address c.in-None-row_at.ensures.only) c.last_column.ensures.value)

pub returns-in-None-row_at-clause-refused : goal.returns-in-None-row_at-clause-refused
returns-in-None-row_at-clause-refused c =
    let l = option_map tok c.in-Ok.shape.label in
    let label = shape_label c.args.text.now c.in-Ok.shape.width l c.in-Ok.ensures.only in
    out_tells c.args.text.now c.args.pc c.in-Some.address (get c.args.labels.now) l _ refl label c.in-Some.ensures.named
    (is_out_of_reach c.args.text.now c.args.pc c.in-Some.address (get c.args.labels.now) c.in-Ok.shape.width l c.last_column.result c.in-Ok.ensures.told label
    c.in-Some.ensures.named (nothing_at c.args.text.now c.args.pc c.in-Some.address c.in-None-row_at.ensures.only) c.last_column.ensures.value)
    (one_at_label c.args.text.now c.last_column.result c.last_column.ensures.value)

pub returns-in-None-clause-read : goal.returns-in-None-clause-read
returns-in-None-clause-read c =
    let l = option_map tok c.in-Ok.shape.label in
    missing_reads c.args.text.now c.args.pc (get c.args.labels.now) l _ (shape_label c.args.text.now c.in-Ok.shape.width l c.in-Ok.ensures.only)
    c.in-None.ensures.named

pub returns-in-None-clause-refused : goal.returns-in-None-clause-refused
returns-in-None-clause-refused c =
    let l = option_map tok c.in-Ok.shape.label in
    missing_tells c.args.text.now c.args.pc (get c.args.labels.now) l _ refl (shape_label c.args.text.now c.in-Ok.shape.width l c.in-Ok.ensures.only)
    c.in-None.ensures.named
    (is_missing c.args.text.now (get c.args.labels.now) c.in-Ok.shape.width l c.last_column-in-None.result c.in-Ok.ensures.told c.in-None.ensures.named
    c.last_column-in-None.ensures.value)
    (one_at_label c.args.text.now c.last_column-in-None.result c.last_column-in-None.ensures.value)

pub returns-in-Err-clause-read : goal.returns-in-Err-clause-read
returns-in-Err-clause-read c = shape_reads c.args.text.now c.args.pc (get c.args.labels.now) c.in-Err.e c.in-Err.ensures.told

pub returns-in-Err-clause-refused : goal.returns-in-Err-clause-refused
returns-in-Err-clause-refused c = shape_tells c.args.text.now c.args.pc (get c.args.labels.now) c.in-Err.e c.in-Err.ensures.told
