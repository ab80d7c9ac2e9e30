use Rattle.std.proofs.Common.{subst, sym}
use Rattle.hm_asm.specs.Making.{Made, place_of}
use Rattle.hm_source.specs.Places.{HasRoom}
use Rattle.hm_asm.proofs.Made.{made_zeros}
use Rattle.hm_asm.proofs.making.Making.add_zeros.Goals as goal

pub invariant_of-self : goal.invariant_of-self
invariant_of-self c =
    made_zeros c.add_zeros.result c.self.inside.image c.self.inside.start c.args.count c.self.inside.bytes.items c.add_zeros.new.out.items c.self.invariant
    (subst (λ (m : Made). HasRoom (place_of m) c.args.count) (sym c.self.view_is) c.requires.room) c.add_zeros.ensures.added c.add_zeros.ensures.kept
