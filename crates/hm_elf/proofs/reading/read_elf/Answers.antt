use Rattle.std.proofs.Common.{List, ℕ, [], Result, subst, sym}
use Rattle.std.proofs.lemmas.List.{take_rest}
use Rattle.hm_base.specs.Image.{Segment}
use Rattle.hm_base.specs.Results.{GivesImage}
use Rattle.hm_base.specs.declared.errors.ImageErr.{ImageErr}
use Rattle.hm_elf.specs.Elf.{headers_in}
use Rattle.hm_elf.specs.ReadImage.{loads_in, elf_in}
use Rattle.hm_elf.proofs.LoadSteps.{Fails-same}
use Rattle.hm_elf.proofs.ReadLaws.{header_refused, header_passed}
use Rattle.hm_elf.proofs.reading.read_elf.Goals as goal

pub returns-in-Some-clause-value : goal.returns-in-Some-clause-value
returns-in-Some-clause-value c =
    Fails-same c.in-Some.refusal (elf_in c.args.bytes.now) (header_refused c.args.bytes.now c.in-Some.refusal (sym c.in-Some.ensures))

pub returns-in-None-clause-value : goal.returns-in-None-clause-value
returns-in-None-clause-value c =
    let read = subst (λ (t : List ℕ). GivesImage c.load_all.result (loads_in c.args.bytes.now 0 (headers_in c.half.result t) []))
    (take_rest c.args.bytes.now c.word.result) c.load_all.ensures in
    subst (λ (r : Result (List Segment) ImageErr). GivesImage c.load_all.result r)
    (sym (header_passed c.args.bytes.now c.half.result c.word.result (sym c.in-None.ensures) c.half.ensures c.word.ensures)) read
