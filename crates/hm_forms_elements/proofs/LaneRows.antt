-- Rows of lanes do to whole registers what they do to their words.
use Rattle.std.proofs.Common.{◌≡◌, ℕ, Bool, ◌&&◌, ◌||◌, List, [], ◌∷◌, ◌++◌, map, refl}
use Rattle.std.proofs.Common.{sym, ◌∙◌, ap}
use Rattle.hm_lane.specs.Lanes.{bytes_of, word_of, merged}
use Rattle.hm_state.specs.Store.{flagged, put_all}
use Rattle.hm_state.specs.State.{At, Cell, State, Value, at, cells, word}
use Rattle.hm_beat.specs.Rows.{active_at, advance_half, predicate_at, register_at, retired, word_place, write_register}
use Rattle.hm_kinds.specs.Row.{ends_at, mark_at, numbers, row_by_words, values_at}
use Rattle.hm_lane_fns.specs.LaneFns.{lane_of, lane_saturates, saturates}
use Rattle.hm_lane_fns.specs.Words.{any_both, lane_tests3, lanewise3, operand_of, operand_places}
use Rattle.hm_lane_fns.proofs.Lanewise.{advances, and_four, four_words, marked_where, one_word, operand_at, operand_four, operand_is, tests_words}
use Rattle.hm_forms_elements.specs.declared.lanes.Lanes.{Lanes}
use Rattle.hm_forms_elements.specs.Forms.{lanes_mark, lanes_row}
use Rattle.hm_forms_elements.specs.Registers.{lanes_result, lanes_saturated, lanes_whole}

module _ (l : Lanes) (s : State) where
  -- the new word of beat b
  abbrev pub new_word : ℕ → ℕ
  new_word b = word_of (lanewise3 l.z (lane_of l.f l.unsigned l.z) (bytes_of (at (word_place l.d.value b) s)) (bytes_of (at (word_place l.n.value b) s))
      (bytes_of (operand_at l.z l.by b s)))

  pub lanes_words : lanes_result l s ≡ bytes_of (new_word 0) ++ bytes_of (new_word 1) ++ bytes_of (new_word 2) ++ bytes_of (new_word 3)
  lanes_words =
      let f = lane_of l.f l.unsigned l.z in
      let u : ℕ → ℕ = λ b. at (word_place l.d.value b) s in
      let v : ℕ → ℕ = λ b. at (word_place l.n.value b) s in
      let w : ℕ → ℕ = λ b. operand_at l.z l.by b s in
      (λ j. lanewise3 l.z f (register_at l.d.value s) (register_at l.n.value s) (operand_four l.z l.by s j)) ∙ four_words l.z f u v w
      ∙ (λ j. one_word l.z f (u 0) (v 0) (w 0) j ++ one_word l.z f (u 1) (v 1) (w 1) j ++ one_word l.z f (u 2) (v 2) (w 2) j
      ++ one_word l.z f (u 3) (v 3) (w 3) j)

  abbrev pub merged_at : ℕ → ℕ → Cell × Value
  merged_at b y = (
    At (word_place l.d.value b),
    word (word_of (merged (active_at b s) (bytes_of (at (word_place l.d.value b) s))
        (bytes_of (word_of (lanewise3 l.z (lane_of l.f l.unsigned l.z) (bytes_of (at (word_place l.d.value b) s)) (bytes_of (at (word_place l.n.value b) s))
        (bytes_of y)))))),
  )

  pub lanes_marks : (mark_at (lanes_row l) 0 s || mark_at (lanes_row l) 1 s || mark_at (lanes_row l) 2 s || mark_at (lanes_row l) 3 s)
      ≡ (saturates l.f && any_both (predicate_at s) (lanes_saturated l s))
  lanes_marks =
      let x = saturates l.f in
      let g = lane_saturates l.f l.unsigned l.z in
      let M : ℕ → ℕ → Bool = λ b y. any_both (active_at b s)
      (lane_tests3 l.z g (bytes_of (at (word_place l.d.value b) s)) (bytes_of (at (word_place l.n.value b) s)) (bytes_of y)) in
      let e : (b : ℕ) → mark_at (lanes_row l) b s ≡ (x && M b (operand_at l.z l.by b s))
      = λ b. marked_where x b (active_at b s) (values_at (lanes_row l) b s) (λ k. lanes_mark l) ∙ (λ j. x && M b (operand_is l.z l.by b s j)) in
      (λ j. e 0 j || e 1 j || e 2 j || e 3 j)
      ∙ and_four x (M 0 (operand_at l.z l.by 0 s)) (M 1 (operand_at l.z l.by 1 s)) (M 2 (operand_at l.z l.by 2 s)) (M 3 (operand_at l.z l.by 3 s))
      ∙ ap (λ y. x && y) (sym ((λ j. any_both (predicate_at s)
      (lane_tests3 l.z g (register_at l.d.value s) (register_at l.n.value s) (operand_four l.z l.by s j)))
      ∙ tests_words l.z g (λ b. at (word_place l.d.value b) s) (λ b. at (word_place l.n.value b) s) (λ b. operand_at l.z l.by b s) s))

  pub lanes_is : row_by_words (lanes_row l) s ≡ lanes_whole l s
  lanes_is =
      let i = lanes_row l in
      let O : (ℕ → ℕ) → State = λ y. put_all cells (merged_at 0 (y 0) ∷ merged_at 1 (y 1) ∷ merged_at 2 (y 2) ∷ merged_at 3 (y 3) ∷ []) s in
      let ends = ends_at i 0 s ++ ends_at i 1 s ++ ends_at i 2 s ++ ends_at i 3 s in
      let state : put_all cells ends (O (λ b. operand_of l.z l.by (numbers (map s.cell (map At (operand_places l.by b))))))
      ≡ put_all cells (write_register l.d.value (merged (predicate_at s) (register_at l.d.value s) (lanes_result l s)) ++ advance_half 0 s ++ advance_half 2 s)
      s
      = (λ j. put_all cells ends (O (λ b. operand_is l.z l.by b s j)))
      ∙ advances i s (O (λ b. operand_at l.z l.by b s)) refl refl
      ∙ sym (ap (λ (u : List ℕ). put_all cells
      (write_register l.d.value (merged (predicate_at s) (register_at l.d.value s) u) ++ advance_half 0 s ++ advance_half 2 s) s) lanes_words) in
      λ j. retired (flagged (lanes_marks j) (state j))
