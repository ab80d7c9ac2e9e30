use Rattle.std.proofs.Common.{◌≡◌, ◌∷◌, Some, Option, sym, subst, rules}
use Rattle.hm_ihex.specs.Meant.{IsNext, reading_of, record_meant}
use Rattle.hm_ihex.specs.Records.{Record, bytes_in, record_in}
use Rattle.hm_ihex.proofs.Steps.{line_of}
use Rattle.hm_ihex.proofs.reading.follow.Goals as goal

pub returns-in-Some-read_record-clause-next : goal.returns-in-Some-read_record-clause-next
returns-in-Some-read_record-clause-next c =
    let line : c.args.line.now ≡ 58 ∷ c.in-Some.digits.now = search rules in
    let bytes : Some c.in-Ok-Some.bytes.items ≡ bytes_in c.in-Some.digits.now = search rules in
    let said : Some (record_meant c.in-Some-read_record.record) ≡ record_in c.in-Ok-Some.bytes.items = search rules in
    let is = line_of c.args.line.now c.in-Some.digits.now c.in-Ok-Some.bytes.items (record_meant c.in-Some-read_record.record) line bytes said in
    subst (λ (said : Option Record). IsNext c.args.number (reading_of c.args.state.now) (reading_of c.take_in.new.state) said c.take_in.result) (sym is)
    (c.take_in.ensures.next c.args.number)
