-- The rows T1 to T7.
use Rattle.std.proofs.Common.{◌+◌, ◌*◌, ◌^◌, arith}
use Rattle.hm_isa.specs.contracts.narrow.SumName as sum_
use Rattle.hm_isa.specs.contracts.data.DataName as data_
use Rattle.hm_isa.specs.contracts.data.HalfName as half_
use Rattle.hm_isa.specs.contracts.data.SaturateName as saturate_
use Rattle.hm_isa.specs.contracts.data.ExtractName as bits_
use Rattle.hm_isa.specs.contracts.data.T1 as t1_
use Rattle.hm_isa.specs.contracts.data.T2 as t2_
use Rattle.hm_isa.specs.contracts.data.T3 as t3_
use Rattle.hm_isa.specs.contracts.data.T4 as t4_
use Rattle.hm_isa.specs.contracts.data.T5 as t5_
use Rattle.hm_isa.specs.contracts.data.T6 as t6_
use Rattle.hm_isa.specs.contracts.data.T7 as t7_
use Rattle.hm_isa.specs.DataCodes.{data_operation, code_t1, code_t2, wide_sum_base, code_t3, half_base, code_t4, saturate_base, code_t5, extract_base, code_t6}
use Rattle.hm_isa.specs.DataCodes.{code_t7}
use Rattle.hm_layout.proofs.Search.{one_rule}
use Rattle.hm_layout.proofs.Rows.{at, the_name, Named, Plain}

abbrev pub row_t1 : Named t1_.the_type data_.enum code_t1 (λ x. 0xf0000000 + data_operation x * 2 ^ 21)
row_t1 = record {
  layout = (the_name tt, (at 20 1 2, (at 16 4 16, (at 8 4 16, (at 26 1 2, (at 12 3 8, (at 0 8 256, tt)))))));
  is_code = λ r. omega arith;
  rules = λ v. one_rule;
}

abbrev pub row_t2 : Named t2_.the_type data_.enum code_t2 (λ x. 0xea000000 + data_operation x * 2 ^ 21)
row_t2 = record {
  layout = (the_name tt, (at 20 1 2, (at 16 4 16, (at 8 4 16, (at 12 3 8, (at 6 2 4, (at 4 2 4, (at 0 4 16, tt))))))));
  is_code = λ r. omega arith;
  rules = λ v. one_rule;
}

abbrev pub row_t3 : Named t3_.the_type sum_.enum code_t3 wide_sum_base
row_t3 = record {
  layout = (the_name tt, (at 16 4 16, (at 8 4 16, (at 26 1 2, (at 12 3 8, (at 0 8 256, tt))))));
  is_code = λ r. omega arith;
  rules = λ v. one_rule;
}

abbrev pub row_t4 : Named t4_.the_type half_.enum code_t4 half_base
row_t4 = record {
  layout = (the_name tt, (at 8 4 16, (at 16 4 16, (at 26 1 2, (at 12 3 8, (at 0 8 256, tt))))));
  is_code = λ r. omega arith;
  rules = λ v. one_rule;
}

abbrev pub row_t5 : Named t5_.the_type saturate_.enum code_t5 saturate_base
row_t5 = record {
  layout = (the_name tt, (at 21 1 2, (at 16 4 16, (at 8 4 16, (at 12 3 8, (at 6 2 4, (at 0 5 32, tt)))))));
  is_code = λ r. omega arith;
  rules = λ v. one_rule;
}

abbrev pub row_t6 : Named t6_.the_type bits_.enum code_t6 extract_base
row_t6 = record {
  layout = (the_name tt, (at 16 4 16, (at 8 4 16, (at 12 3 8, (at 6 2 4, (at 0 5 32, tt))))));
  is_code = λ r. omega arith;
  rules = λ v. one_rule;
}

abbrev pub row_t7 : Plain t7_.the_type code_t7
row_t7 = record {
  base = 0xf3600000;
  layout = (at 16 4 16, (at 8 4 16, (at 12 3 8, (at 6 2 4, (at 0 5 32, tt)))));
  is_code = λ r. omega arith;
  rules = λ v. one_rule;
}
