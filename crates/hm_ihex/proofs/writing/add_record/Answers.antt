use Rattle.hm_ihex.proofs.WrittenLines.{record_line}
use Rattle.hm_ihex.proofs.writing.add_record.Goals as goal

pub returns : goal.returns
returns c = record {
  added = record_line c.args.out.now.items c.text.new.out.items c.add_digits.new.out.items c.add_digits-2.new.out.items c.add_digits-3.new.out.items
      c.text-2.new.out.items c.args.head.now c.args.bytes.now c.check.result
      c.in_ok-text.ensures c.in_ok-add_digits.ensures.added c.in_ok-add_digits-2.ensures.added c.in_ok-add_digits-3.ensures.added c.in_ok-text-2.ensures
      c.check.ensures.value;
}
