use Rattle.std.proofs.Common.{◌≡◌, [], ◌∷◌, arith, subst, sym, ◌∙◌}
use Rattle.hm_lane.specs.declared.lanes.Size.TheVariants.{Half, Word}
use Rattle.hm_lane.specs.Lanes.{bytes_of, lanes, paired_tests}
use Rattle.hm_forms_predicate.specs.Forms.{compares}
use Rattle.hm_lane_fns.specs.Words.{filled}
use Rattle.hm_lane_fns.proofs.Parts.{half_parts, word_parts}
use Rattle.hm_forms_predicate.proofs.compare.compare_word.Goals as goal

pub returns-in-Half : goal.returns-in-Half
returns-in-Half c =
    let g = compares c.args.c c.args.z in
    subst (λ z. c.compares-low.result ∷ c.compares-low.result ∷ c.compares-high.result ∷ c.compares-high.result ∷ []
    ≡ filled z (paired_tests g (lanes z (bytes_of c.args.x)) (lanes z (bytes_of c.args.y)))) (sym c.in-Half.is)
    ((λ j. c.compares-low.ensures j ∷ c.compares-low.ensures j ∷ c.compares-high.ensures j ∷ c.compares-high.ensures j ∷ [])
    ∙ (λ j. filled Half (paired_tests g (half_parts c.args.x (omega arith) j) (half_parts c.args.y (omega arith) j))))

pub returns-in-Word : goal.returns-in-Word
returns-in-Word c =
    let g = compares c.args.c c.args.z in
    subst (λ z. c.compares-one.result ∷ c.compares-one.result ∷ c.compares-one.result ∷ c.compares-one.result ∷ []
    ≡ filled z (paired_tests g (lanes z (bytes_of c.args.x)) (lanes z (bytes_of c.args.y)))) (sym c.in-Word.is)
    ((λ j. c.compares-one.ensures j ∷ c.compares-one.ensures j ∷ c.compares-one.ensures j ∷ c.compares-one.ensures j ∷ [])
    ∙ (λ j. filled Word (paired_tests g (word_parts c.args.x (omega arith) j) (word_parts c.args.y (omega arith) j))))
