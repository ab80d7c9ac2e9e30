use Rattle.std.proofs.Common.{◌≡◌, ◌%◌, ◌/◌, ◌^◌, [], ◌∷◌, arith, subst, sym, ◌∙◌, rules}
use Rattle.hm_lane.specs.declared.lanes.Size.TheVariants.{Half, Word}
use Rattle.hm_lane.specs.Lanes.{bytes_of, firsts, lanes}
use Rattle.hm_forms_across.specs.Forms.{added, term}
use Rattle.hm_lane_fns.proofs.Parts.{half_parts, word_parts}
use Rattle.hm_forms_across.proofs.terms.sum_word.Goals as goal

pub returns-in-Half : goal.returns-in-Half
returns-in-Half c =
    let F = term c.args.terms in
    let h : c.plus.result ≡ added (2 ^ 64) F (firsts Half c.args.active) (c.args.x % 65536 ∷ c.args.x / 65536 ∷ []) (c.args.y % 65536 ∷ c.args.y / 65536 ∷ [])
    c.args.sum = search rules in
    subst (λ z. c.plus.result ≡ added (2 ^ 64) F (firsts z c.args.active) (lanes z (bytes_of c.args.x)) (lanes z (bytes_of c.args.y)) c.args.sum)
    (sym c.in-Half.is)
    (h ∙ (λ j. added (2 ^ 64) F (firsts Half c.args.active) (half_parts c.args.x (omega arith) j) (half_parts c.args.y (omega arith) j) c.args.sum))

pub returns-in-Word : goal.returns-in-Word
returns-in-Word c =
    let F = term c.args.terms in
    let h : c.plus-in-Word.result ≡ added (2 ^ 64) F (firsts Word c.args.active) (c.args.x ∷ []) (c.args.y ∷ []) c.args.sum = search rules in
    subst (λ z. c.plus-in-Word.result ≡ added (2 ^ 64) F (firsts z c.args.active) (lanes z (bytes_of c.args.x)) (lanes z (bytes_of c.args.y)) c.args.sum)
    (sym c.in-Word.is)
    (h ∙ (λ j. added (2 ^ 64) F (firsts Word c.args.active) (word_parts c.args.x (omega arith) j) (word_parts c.args.y (omega arith) j) c.args.sum))
