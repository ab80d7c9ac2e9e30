use Rattle.std.proofs.Common.{◌≡◌, ℕ, ◌<◌, ◌≤◌, ap, arith, sym, ◌∙◌, get_or}
use Rattle.hm_exc.specs.Frame.{frame_words}
use Rattle.hm_exc.proofs.Stacked.{has_context, size_most}
use Rattle.hm_exc.proofs.Words.{word-low, word-12, word-lr, word-pc, word-psr, word-vector, word-fpscr, word-vpr}
use Rattle.hm_exc.proofs.frame.frame_word.Goals as goal

pub returns-in-0-to-3 : goal.returns-in-0-to-3
returns-in-0-to-3 c = record { value = sym (word-low c.args.r.now c.args.w c.args.k (omega arith)) }

pub returns-in-4 : goal.returns-in-4
returns-in-4 c =
    let e : c.args.k ≡ 4 = omega arith in
    record { value = sym (ap (λ (i : ℕ). get_or (frame_words c.args.r.now c.args.w) i 0) e ∙ word-12 c.args.r.now c.args.w) }

pub returns-in-5 : goal.returns-in-5
returns-in-5 c =
    let e : c.args.k ≡ 5 = omega arith in
    record { value = sym (ap (λ (i : ℕ). get_or (frame_words c.args.r.now c.args.w) i 0) e ∙ word-lr c.args.r.now c.args.w) }

pub returns-in-6 : goal.returns-in-6
returns-in-6 c =
    let e : c.args.k ≡ 6 = omega arith in
    record { value = sym (ap (λ (i : ℕ). get_or (frame_words c.args.r.now c.args.w) i 0) e ∙ word-pc c.args.r.now c.args.w) }

pub returns-in-7 : goal.returns-in-7
returns-in-7 c =
    let e : c.args.k ≡ 7 = omega arith in
    record { value = c.xpsr.ensures.value ∙ sym (ap (λ (i : ℕ). get_or (frame_words c.args.r.now c.args.w) i 0) e ∙ word-psr c.args.r.now c.args.w) }

pub returns-in-8-to-23 : goal.returns-in-8-to-23
returns-in-8-to-23 c =
    let low : 8 ≤ c.args.k = omega arith in
    let high : c.args.k < 24 = omega arith in
    record {
      value = sym (word-vector c.args.r.now c.args.w c.args.k (has_context c.args.r.now.fpca c.args.k low c.requires.word)
          c.in_range.ensures.counted.qw_count low high);
    }

pub returns-in-24 : goal.returns-in-24
returns-in-24 c =
    let e : c.args.k ≡ 24 = omega arith in
    let low : 8 ≤ c.args.k = omega arith in
    record {
      value = sym (ap (λ (i : ℕ). get_or (frame_words c.args.r.now c.args.w) i 0) e
          ∙ word-fpscr c.args.r.now c.args.w (has_context c.args.r.now.fpca c.args.k low c.requires.word) c.in_range.ensures.counted.qw_count);
    }

pub returns-in_default : goal.returns-in_default
returns-in_default c =
    let m = size_most c.args.r.now.fpca in
    let e : c.args.k ≡ 25 = omega arith in
    let low : 8 ≤ c.args.k = omega arith in
    record {
      value = sym (ap (λ (i : ℕ). get_or (frame_words c.args.r.now c.args.w) i 0) e
          ∙ word-vpr c.args.r.now c.args.w (has_context c.args.r.now.fpca c.args.k low c.requires.word) c.in_range.ensures.counted.qw_count);
    }
