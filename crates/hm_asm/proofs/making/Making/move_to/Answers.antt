use Rattle.std.proofs.Common.{◌≡◌, ◌≤◌, ◌++◌, ℕ, List, [], ap, subst, sym, ◌∙◌}
use Rattle.hm_base.specs.Image.{Segment}
use Rattle.hm_asm.specs.Making.{IsMade, Made, place_of}
use Rattle.hm_asm.specs.Segments.{with_piece}
use Rattle.hm_asm.proofs.Made.{made_moved}
use Rattle.hm_asm.proofs.making.Making.move_to.Goals as goal

pub invariant_of-self-2 : goal.invariant_of-self-2
invariant_of-self-2 c =
    let now : c.add_segment.new.image ≡ c.self.inside.image ++ with_piece c.self.inside.start c.self.inside.bytes.items []
    = c.in_ok-add_segment.ensures.added ∙ ap (λ v. c.self.inside.image ++ with_piece c.self.inside.start v.items []) c.replace-bytes.ensures.value in
    let none : c.replace-bytes.new.dest.items ≡ [] = ap (λ v. v.items) c.replace-bytes.ensures.after ∙ c.new.ensures.items in
    let rising : place_of c.args.self.now ≤ c.args.at = c.requires.rising in
    let made =
    made_moved c.self.inside.image c.self.inside.start c.self.inside.bytes.items c.args.at c.self.invariant
    (subst (λ (m : Made). place_of m ≤ c.args.at) (sym c.self.view_is) rising) c.ranges.at.fits in
    subst (λ (x : List Segment). IsMade (record { whole = x; start = c.args.at; bytes = c.replace-bytes.new.dest.items })) (sym now)
    (subst (λ (x : List ℕ). IsMade
    (record { whole = c.self.inside.image ++ with_piece c.self.inside.start c.self.inside.bytes.items []; start = c.args.at; bytes = x })) (sym none) made)
