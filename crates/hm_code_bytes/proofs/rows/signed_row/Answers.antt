use Rattle.std.proofs.Common.{refl}
use Rattle.hm_code_bytes.proofs.Made.{signed_made}
use Rattle.hm_code_bytes.proofs.rows.signed_row.Goals as goal

pub returns : goal.returns
returns c = record {
  row = signed_made _ c.args.u c.args.z c.args.name c.args.d c.args.n c.args.m c.new.ensures c.new-2.ensures refl c.new-3.ensures c.new-4.ensures
      c.new-5.ensures;
}
