use Rattle.std.proofs.Common.{◌≡◌, ℕ, ◌<◌, ◌^◌, List, Bool, arith, ap, sym, ◌∙◌}
use Rattle.hm_lane.specs.Lanes.{bytes_of, merged, word_of}
use Rattle.hm_beat.proofs.Footprint.{active_is}
use Rattle.hm_lane_fns.proofs.words.merge_active.Goals as goal

whole : (x : ℕ) → x < 2 ^ 32 → x ≡ word_of (bytes_of x)
whole x h = omega arith

pub returns-then-is_unpredicated : goal.returns-then-is_unpredicated
returns-then-is_unpredicated c = λ m output. let r = c.args.r.now in
    whole c.args.new (omega arith)
    ∙ sym (ap (λ (ps : List Bool). word_of (merged ps (bytes_of c.args.old) (bytes_of c.args.new)))
    (active_is c.args.b r m output c.requires ∙ c.is_unpredicated.ensures.active (cc) c.args.b))
