use Rattle.std.proofs.Common.{◌≡◌, ◌^◌, get_or, length, ◌∷◌, [], ◌∙◌, rules}
use Rattle.hm_forms_across.specs.Forms.{added, term}
use Rattle.hm_forms_across.proofs.Added.{four_added}
use Rattle.hm_forms_across.proofs.terms.sum_bytes.Goals as goal

pub returns : goal.returns
returns c =
    let four : length c.args.active ≡ 4 = search rules in
    four_added (2 ^ 64) (term c.args.terms) c.args.active (λ k. get_or c.bytes.result k 0) (λ k. get_or c.bytes-2.result k 0)
    c.term-t0.result c.term-t1.result c.term-t2.result c.term-t3.result c.args.sum c.plus-s0.result c.plus-s1.result c.plus-s2.result c.plus.result four
    c.term-t0.ensures c.term-t1.ensures c.term-t2.ensures c.term-t3.ensures c.plus-s0.ensures c.plus-s1.ensures c.plus-s2.ensures c.plus.ensures
    ∙ (λ j. added (2 ^ 64) (term c.args.terms) c.args.active
    (get_or (c.bytes.ensures j) 0 0 ∷ get_or (c.bytes.ensures j) 1 0 ∷ get_or (c.bytes.ensures j) 2 0 ∷ get_or (c.bytes.ensures j) 3 0 ∷ [])
    (get_or (c.bytes-2.ensures j) 0 0 ∷ get_or (c.bytes-2.ensures j) 1 0 ∷ get_or (c.bytes-2.ensures j) 2 0 ∷ get_or (c.bytes-2.ensures j) 3 0 ∷ []) c.args.sum)
