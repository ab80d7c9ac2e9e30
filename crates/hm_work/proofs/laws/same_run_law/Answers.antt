use Rattle.hm_work.proofs.HexImages.{hex_colon, hex_runs, joined_listing, joined_reset, joined_shown}
use Rattle.hm_work.proofs.laws.same_run_law.Goals as goal

pub returns : goal.returns
returns c = record {
  file = hex_runs;
  joined = λ listing image s is h. (joined_listing image listing is h, joined_reset image is, joined_shown listing image s is);
  colon = hex_colon;
}
