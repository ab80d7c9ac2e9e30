use Rattle.std.proofs.Common.{◌%◌, ◌^◌, ap, arith, ◌∙◌}
use Rattle.hm_lane.specs.Lanes.{bytes_of, firsts, lanes}
use Rattle.hm_forms_across.specs.Forms.{added, term}
use Rattle.hm_forms_across.proofs.Added.{added_low}
use Rattle.hm_forms_across.proofs.sums.sum_low.Goals as goal

pub returns : goal.returns
returns c =
    let t = c.args.terms in
    let ps = firsts t.z c.args.active in
    let xs = lanes t.z (bytes_of c.args.x) in
    let ys = lanes t.z (bytes_of c.args.y) in
    ap (λ n. n % 2 ^ 32) c.sum_word.ensures ∙ added_low (term t) ps xs ys c.args.sum ∙ ap (added (2 ^ 32) (term t) ps xs ys) (omega arith)
