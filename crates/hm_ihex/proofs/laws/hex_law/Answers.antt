use Rattle.hm_ihex.proofs.HexFiles.{hex_found, hex_longest, hex_only}
use Rattle.hm_ihex.proofs.ReadBack.{read_back_is}
use Rattle.hm_ihex.proofs.SameBytes.{is_image_is, same_bytes_is}
use Rattle.hm_ihex.proofs.laws.hex_law.Goals as goal

pub returns : goal.returns
returns c = record { found = hex_found; only = hex_only; longest = hex_longest; read_back = read_back_is; is_image = is_image_is; same_bytes = same_bytes_is }
