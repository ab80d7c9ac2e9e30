use Rattle.std.proofs.Common.{ap, arith}
use Rattle.hm_isa.specs.declared.narrow.S25.TheVariants as s25
use Rattle.hm_isa.specs.declared.widths.NarrowRow.TheVariants as narrow
use Rattle.hm_text16_codes.specs.declared.operands.Operands.{Operands}
use Rattle.hm_text16_codes.proofs.Lists.{some_listed}
use Rattle.hm_text16_codes.proofs.codes.code_of.Goals as goal

pub returns-then-o-ne0 : goal.returns-then-o-ne0
returns-then-o-ne0 c (narrow.S20 i) t asks reaches = c.code_list.ensures i t asks
returns-then-o-ne0 c r t asks reaches = let e = ap (λ (o : Operands). o.registers) asks.1 in absurd (grind (arith, e))

pub returns-in-Number : goal.returns-in-Number
returns-in-Number c (narrow.S1 i) t asks reaches = c.code_behind_low.ensures.s1 i t asks
returns-in-Number c (narrow.S3 i) t asks reaches = c.code_behind_low.ensures.s3 i t asks
returns-in-Number c (narrow.S16 i) t asks reaches = c.code_behind_low.ensures.s16 i t asks
returns-in-Number c (narrow.S20 i) t asks reaches = let some = some_listed i t c.args.o.now asks.1 in absurd (grind (arith, some))
returns-in-Number c r t asks reaches = absurd (grind (arith, asks.1))

pub returns-in-Number-2 : goal.returns-in-Number-2
returns-in-Number-2 c (narrow.S9 i) t asks reaches = c.code_behind_base.ensures.s9 i t asks
returns-in-Number-2 c (narrow.S17 i) t asks reaches = c.code_behind_base.ensures.s17 i t asks
returns-in-Number-2 c (narrow.S1 i) t asks reaches = let low = i.m.in_range in absurd (grind (arith, asks.1, low))
returns-in-Number-2 c (narrow.S3 i) t asks reaches = let low = i.n.in_range in absurd (grind (arith, asks.1, low))
returns-in-Number-2 c (narrow.S16 i) t asks reaches = let low = i.n.in_range in absurd (grind (arith, asks.1, low))
returns-in-Number-2 c (narrow.S20 i) t asks reaches = let some = some_listed i t c.args.o.now asks.1 in absurd (grind (arith, some))
returns-in-Number-2 c r t asks reaches = absurd (grind (arith, asks.1))

pub returns-in-Word : goal.returns-in-Word
returns-in-Word c (narrow.S2 i) t asks reaches = c.code_with_register.ensures.s2 i t asks
returns-in-Word c (narrow.S15 i) t asks reaches = c.code_with_register.ensures.s15 i t asks
returns-in-Word c (narrow.S20 i) t asks reaches = let some = some_listed i t c.args.o.now asks.1 in absurd (grind (arith, some))
returns-in-Word c r t asks reaches = absurd (grind (arith, asks.1))

pub returns-in-Missing : goal.returns-in-Missing
returns-in-Missing c (narrow.S4 i) t asks reaches = c.code_of_two.ensures.s4 i t asks
returns-in-Missing c (narrow.S5 i) t asks reaches = c.code_of_two.ensures.s5 i t asks
returns-in-Missing c (narrow.S6 i) t asks reaches = c.code_of_two.ensures.s6 i t asks
returns-in-Missing c (narrow.S7 i) t asks reaches = c.code_of_two.ensures.s7 i t asks
returns-in-Missing c (narrow.S8 i) t asks reaches = c.code_of_two.ensures.s8 i t asks
returns-in-Missing c (narrow.S10 i) t asks reaches = c.code_of_two.ensures.s10 i t asks
returns-in-Missing c (narrow.S11 i) t asks reaches = c.code_of_two.ensures.s11 i t asks
returns-in-Missing c (narrow.S12 i) t asks reaches = c.code_of_two.ensures.s12 i t asks
returns-in-Missing c (narrow.S13 i) t asks reaches = c.code_of_two.ensures.s13 i t asks
returns-in-Missing c (narrow.S14 i) t asks reaches = c.code_of_two.ensures.s14 i t asks reaches
returns-in-Missing c (narrow.S18 i) t asks reaches = c.code_of_two.ensures.s18 i t asks
returns-in-Missing c (narrow.S19 i) t asks reaches = c.code_of_two.ensures.s19 i t asks
returns-in-Missing c (narrow.S20 i) t asks reaches = let some = some_listed i t c.args.o.now asks.1 in absurd (grind (arith, some))
returns-in-Missing c (narrow.S21 i) t asks reaches = c.code_of_two.ensures.s21 i t asks
returns-in-Missing c (narrow.S23 i) t asks reaches = c.code_of_two.ensures.s23 i t asks
returns-in-Missing c (narrow.S24 i) t asks reaches = c.code_of_two.ensures.s24 i t asks reaches
returns-in-Missing c (narrow.S25 (s25.Conditional i)) t asks reaches = c.code_of_two.ensures.conditional i t asks reaches
returns-in-Missing c (narrow.S25 (s25.Always i)) t asks reaches = c.code_of_two.ensures.always i t asks reaches
returns-in-Missing c r t asks reaches = absurd (grind (arith, asks.1))
