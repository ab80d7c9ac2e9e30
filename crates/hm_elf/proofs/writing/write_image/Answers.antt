use Rattle.std.proofs.Common.{◌<◌, ◌^◌, List, ℕ, length, subst, sym, arith}
use Rattle.hm_elf.specs.Elf.{IsImageFile}
use Rattle.hm_elf.proofs.WriteLaws.{file_again, length-elf_file}
use Rattle.hm_elf.proofs.writing.write_image.Goals as goal

pub returns-in-Ok-clause-read_back : goal.returns-in-Ok-clause-read_back
returns-in-Ok-clause-read_back c =
    subst (λ (x : List ℕ). IsImageFile x c.args.image.now) (sym c.in-Ok.ensures) (file_again c.args.image.now c.len.ensures.sound (omega arith))

pub returns-in-Ok-clause-small : goal.returns-in-Ok-clause-small
returns-in-Ok-clause-small c =
    subst (λ (x : List ℕ). length x < 2 ^ 31) (sym c.in-Ok.ensures) (length-elf_file c.args.image.now c.len.ensures.sound (omega arith))
