use Rattle.std.proofs.Common.{List, ℕ, subst}
use Rattle.hm_soak.proofs.Adding.{fits_flash, soak_ok}
use Rattle.hm_soak.proofs.flat.soak_image.Goals as goal
use Rattle.hm_soak.specs.Adding.{AddsCodes}
use Rattle.hm_soak_laws.specs.Soak.{code}

pub flat_image-requires-clause-some : goal.flat_image-requires-clause-some
flat_image-requires-clause-some c =
    let added = subst (λ (bytes : List ℕ). AddsCodes (code c.args.number) bytes c.add_instructions.new.out.items) c.in_ok-bytes.ensures.value
    c.in_ok-add_instructions.ensures.codes in
    (fits_flash c.args.number c.add_instructions.new.out.items added).0

pub flat_image-requires-clause-few : goal.flat_image-requires-clause-few
flat_image-requires-clause-few c =
    let added = subst (λ (bytes : List ℕ). AddsCodes (code c.args.number) bytes c.add_instructions.new.out.items) c.in_ok-bytes.ensures.value
    c.in_ok-add_instructions.ensures.codes in
    (fits_flash c.args.number c.add_instructions.new.out.items added).1

pub returns : goal.returns
returns c =
    let added = subst (λ (bytes : List ℕ). AddsCodes (code c.args.number) bytes c.add_instructions.new.out.items) c.in_ok-bytes.ensures.value
    c.in_ok-add_instructions.ensures.codes in
    record { soak = soak_ok c.args.number c.add_instructions.new.out.items c.flat_image.result added c.flat_image.ensures.value }
