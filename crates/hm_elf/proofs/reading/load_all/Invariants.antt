use Rattle.std.proofs.Common.{◌≡◌, []}
use Rattle.hm_elf.specs.Elf.{headers_in}
use Rattle.hm_elf.specs.ReadImage.{loads_in}
use Rattle.hm_elf.proofs.LoadSteps.{left}
use Rattle.hm_elf.proofs.reading.load_all.Given as goal

abbrev pub invariant-loop-number : goal.invariant-loop-number
invariant-loop-number l = loads_in l.bytes l.number (left l.number l.count l.table) l.image ≡ loads_in l.bytes 0 (headers_in l.count l.table) []
