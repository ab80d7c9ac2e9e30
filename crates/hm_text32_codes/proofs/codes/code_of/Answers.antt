use Rattle.std.proofs.Common.{ℕ, Some, sym, ap, ◌∙◌}
use Rattle.std.specs.Prelude.{is_some}
use Rattle.std.proofs.lemmas.Bool.{false≢true}
use Rattle.hm_isa.specs.declared.arith.T11.TheVariants as t11
use Rattle.hm_isa.specs.declared.jumps.T16.TheVariants as t16
use Rattle.hm_isa.specs.declared.jumps.T23.TheVariants as t23
use Rattle.hm_isa.specs.declared.system.T18.TheVariants as t18
use Rattle.hm_isa.specs.declared.system.T19.TheVariants as t19
use Rattle.hm_isa.specs.declared.wide.T12.TheVariants as t12
use Rattle.hm_isa.specs.declared.widths.WideRow.TheVariants as wide
use Rattle.hm_text_base.proofs.Steps.{some_is}
use Rattle.hm_text32_codes.specs.Names.{kind_in}
use Rattle.hm_text32_codes.proofs.DataForms.{data_row, has_data_mnemonic, said_t1, said_t2, told_t8}
use Rattle.hm_text32_codes.proofs.Unique.{no_data}
use Rattle.hm_text32_codes.proofs.codes.code_of.Goals as goal

-- T1, T2 and T8
pub returns-in-Some-clause-row : goal.returns-in-Some-clause-row
returns-in-Some-clause-row c (wide.T1 i) t asks reaches =
    let is = sym c.in-Some.is ∙ c.data_kind.ensures ∙ ap kind_in asks.0 ∙ (said_t1 i).told in
    ap (λ (w : ℕ). Some w) (c.kind_code.ensures.t1 i (some_is _ _ is) asks.1)
returns-in-Some-clause-row c (wide.T2 i) t asks reaches =
    let is = sym c.in-Some.is ∙ c.data_kind.ensures ∙ ap kind_in asks.0 ∙ (said_t2 i).told in
    ap (λ (w : ℕ). Some w) (c.kind_code.ensures.t2 i (some_is _ _ is) asks.1)
returns-in-Some-clause-row c (wide.T8 i) t asks reaches =
    let is = sym c.in-Some.is ∙ c.data_kind.ensures ∙ ap kind_in asks.0 ∙ told_t8 i in
    ap (λ (w : ℕ). Some w) (c.kind_code.ensures.t8 i (some_is _ _ is) asks.1)
returns-in-Some-clause-row c r t asks reaches =
    absurd (false≢true (sym (data_row r) ∙ ap has_data_mnemonic (sym asks.0) ∙ ap is_some (sym c.data_kind.ensures ∙ c.in-Some.is)))

pub returns-in-Some-clause-bare : goal.returns-in-Some-clause-bare
returns-in-Some-clause-bare c i asks =
    absurd (false≢true (sym (no_data i.name) ∙ ap has_data_mnemonic (sym asks.1) ∙ ap is_some (sym c.data_kind.ensures ∙ c.in-Some.is)))

-- all others
pub returns-clause-row : goal.returns-clause-row
returns-clause-row c (wide.T16 (t16.Conditional i)) t asks reaches = c.code_at_label.ensures.conditional i t asks reaches
returns-clause-row c (wide.T16 (t16.Always i)) t asks reaches = c.code_at_label.ensures.always i t asks reaches
returns-clause-row c (wide.T23 (t23.Wls i)) t asks reaches = c.code_at_label.ensures.wls i t asks reaches
returns-clause-row c (wide.T23 (t23.Wlstp i)) t asks reaches = c.code_at_label.ensures.wlstp i t asks reaches
returns-clause-row c (wide.T23 (t23.End i)) t asks reaches = c.code_at_label.ensures.ending i t asks reaches
returns-clause-row c (wide.T3 i) t asks reaches = c.code_at_label.ensures.numbers.t3 i t asks
returns-clause-row c (wide.T4 i) t asks reaches = c.code_at_label.ensures.numbers.t4 i t asks
returns-clause-row c (wide.T5 i) t asks reaches = c.code_at_label.ensures.numbers.t5 i t asks
returns-clause-row c (wide.T6 i) t asks reaches = c.code_at_label.ensures.numbers.t6 i t asks
returns-clause-row c (wide.T7 i) t asks reaches = c.code_at_label.ensures.numbers.t7 i t asks
returns-clause-row c (wide.T9 i) t asks reaches = c.code_at_label.ensures.numbers.arith_rows.t9 i t asks
returns-clause-row c (wide.T10 i) t asks reaches = c.code_at_label.ensures.numbers.arith_rows.t10 i t asks
returns-clause-row c (wide.T20 i) t asks reaches = c.code_at_label.ensures.numbers.arith_rows.t20 i t asks
returns-clause-row c (wide.T11 (t11.Operation i)) t asks reaches = c.code_at_label.ensures.numbers.arith_rows.operation i t asks
returns-clause-row c (wide.T11 (t11.Accumulate i)) t asks reaches = c.code_at_label.ensures.numbers.arith_rows.accumulate i t asks
returns-clause-row c (wide.T11 (t11.Long i)) t asks reaches = c.code_at_label.ensures.numbers.arith_rows.long i t asks
returns-clause-row c (wide.T12 (t12.Offset i)) t asks reaches = c.code_at_label.ensures.numbers.arith_rows.memory.offset i t asks
returns-clause-row c (wide.T12 (t12.Indexed i)) t asks reaches = c.code_at_label.ensures.numbers.arith_rows.memory.indexed i t asks
returns-clause-row c (wide.T12 (t12.Shifted i)) t asks reaches = c.code_at_label.ensures.numbers.arith_rows.memory.shifted i t asks
returns-clause-row c (wide.T12 (t12.Literal i)) t asks reaches = c.code_at_label.ensures.numbers.arith_rows.memory.literal i t asks
returns-clause-row c (wide.T13 i) t asks reaches = c.code_at_label.ensures.numbers.arith_rows.memory.t13 i t asks
returns-clause-row c (wide.T14 i) t asks reaches = c.code_at_label.ensures.numbers.arith_rows.memory.t14 i t asks
returns-clause-row c (wide.T15 i) t asks reaches = c.code_at_label.ensures.numbers.arith_rows.memory.t15 i t asks
returns-clause-row c (wide.T17 i) t asks reaches = c.code_at_label.ensures.numbers.arith_rows.memory.system.t17 i t asks
returns-clause-row c (wide.T18 (t18.Read i)) t asks reaches = c.code_at_label.ensures.numbers.arith_rows.memory.system.read i t asks
returns-clause-row c (wide.T18 (t18.Write i)) t asks reaches = c.code_at_label.ensures.numbers.arith_rows.memory.system.write i t asks
returns-clause-row c (wide.T19 t19.Nop) t asks reaches = c.code_at_label.ensures.numbers.arith_rows.memory.system.nop asks.0
returns-clause-row c (wide.T19 (t19.Barrier i)) t asks reaches = c.code_at_label.ensures.numbers.arith_rows.memory.system.barrier i t asks
returns-clause-row c (wide.T21 i) t asks reaches = c.code_at_label.ensures.numbers.arith_rows.memory.system.t21 i t asks
returns-clause-row c (wide.T22 i) t asks reaches = c.code_at_label.ensures.numbers.arith_rows.memory.system.t22 i t asks
returns-clause-row c (wide.T23 (t23.Dls i)) t asks reaches = c.code_at_label.ensures.numbers.arith_rows.memory.system.dls i t asks
returns-clause-row c (wide.T23 (t23.Dlstp i)) t asks reaches = c.code_at_label.ensures.numbers.arith_rows.memory.system.dlstp i t asks
returns-clause-row c (wide.T23 t23.Lctp) t asks reaches = c.code_at_label.ensures.numbers.arith_rows.memory.system.lctp asks.0
returns-clause-row c r t asks reaches =
    absurd (false≢true (ap is_some (sym c.in_default.is ∙ c.data_kind.ensures) ∙ ap has_data_mnemonic asks.0 ∙ data_row r))
