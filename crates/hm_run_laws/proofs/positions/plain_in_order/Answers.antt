use Rattle.hm_run_laws.proofs.Plain.{reports, plain_ends, retires, tells}
use Rattle.hm_run_laws.proofs.positions.plain_in_order.Goals as goal

pub returns : goal.returns
returns c = record {
  report = reports;
  ends = plain_ends;
  retired = retires;
  under = λ listing image s n none is. let told = tells listing image s n none is in record { outcome = told.ends; ticks = told.ticks };
}
