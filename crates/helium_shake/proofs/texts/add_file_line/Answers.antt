use Rattle.std.proofs.Common.{◌≡◌, ◌++◌, codes, rules}
use Rattle.std.specs.Fmt.{decimal}
use Rattle.helium_shake.proofs.Names.{six_added}
use Rattle.helium_shake.specs.Texts.{file_name}
use Rattle.helium_shake.proofs.texts.add_file_line.Goals as goal

pub returns : goal.returns
returns c =
    let ticks : c.decimal.new.out.items ≡ c.text.new.out.items ++ decimal c.args.file.now.ticks = search rules in
    let interrupts : c.decimal-2.new.out.items ≡ c.text-2.new.out.items ++ decimal c.args.file.now.interrupts = search rules in
    record {
      added =
          six_added c.args.out.now.items (file_name c.args.schedule.now c.args.file.now.kind) (codes " ticks ") (decimal c.args.file.now.ticks)
          (codes " interrupts ") (decimal c.args.file.now.interrupts) (codes "\n")
          c.add_file_name.new.out.items c.text.new.out.items c.decimal.new.out.items c.text-2.new.out.items c.decimal-2.new.out.items c.text-3.new.out.items
          c.in_ok-add_file_name.ensures.added c.in_ok-text.ensures ticks c.in_ok-text-2.ensures interrupts c.in_ok-text-3.ensures;
    }
