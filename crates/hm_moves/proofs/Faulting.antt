-- Four beats where each may have a fault, and else hands links on to the next; no beat uses anything else that an earlier one sets.
use Rattle.std.proofs.Common.{◌≡◌, ℕ, ◌<◌, true, false, List, [], ◌++◌, Option, Some, None, Result, Ok, Err, refl, sym, ◌∙◌, ap, arith}
use Rattle.hm_base.specs.declared.Fault.{Fault}
use Rattle.hm_base.specs.declared.Stop.{Stop}
use Rattle.hm_base.specs.declared.Stop.TheVariants as stop
use Rattle.hm_order.specs.Beats.{then}
use Rattle.hm_state.specs.Store.{put_all}
use Rattle.hm_state.specs.State.{Byte, Cell, State, Value, cells}
use Rattle.hm_state.proofs.Cells.{cell_laws}
use Rattle.hm_beat.specs.Trees.{action}
use Rattle.hm_beat.specs.Rows.{Tree}
use Rattle.hm_beat.specs.Effects.{Effect, effect, done, four_beats}
use Rattle.hm_beat.specs.Laws.{NoTaint}
use Rattle.hm_beat.proofs.Chained.{Apart, Off, apart-append, apart_each, commute, off-append, put_other}
use Rattle.hm_beat.proofs.Effects.{effect_same, run_is}
use Rattle.hm_beat.proofs.Whole.{put_all-append}

-- the first fault, or else what comes
abbrev pub stop_first : {A : Type 0} → Option Fault → Result A Stop → Result A Stop
stop_first None r = r
stop_first (Some f) r = Err (stop.Fault f)

then_first : {A : Type 0} (o : Option Fault) (u : State) (g : State → Result A Stop) → then (stop_first o (Ok u)) g ≡ stop_first o (g u)
then_first None u g = refl
then_first (Some f) u g = refl

-- a fault, or these writes
abbrev pub effect_after : Option Fault → List (Cell × Value) → Result (Effect Cell Value) Stop
effect_after o ws = stop_first o (Ok (false, ws))

after_step : (o : Option Fault) (ws : List (Cell × Value)) (u v : State) → put_all cells ws u ≡ v
    → then (effect_after o ws) (λ e. Ok (done cells e u)) ≡ stop_first o (Ok v)
after_step None ws u v h = ap Ok h
after_step (Some f) ws u v h = refl

module _ (t : ℕ → Tree) (fault : ℕ → State → Option Fault) (links others : ℕ → State → List (Cell × Value))
    (effects : (b : ℕ) (s : State) → NoTaint s → effect cells (t b) s ≡ effect_after (fault b s) (links b s ++ others b s))
    (kept : (b : ℕ) (s : State) (a : ℕ) → Off (Byte a) (links b s)) where
  -- a beat in a state that differs by writes to cells that it does not use
  step : (b : ℕ) (s : State) (ws : List (Cell × Value)) → NoTaint s → ((c : Cell) → (action cells (t b)).uses s c ≡ true → Off c ws) → Apart ws (links b s)
      → (action cells (t b)).run (put_all cells ws s) ≡ stop_first (fault b s) (Ok (put_all cells (ws ++ others b s) (put_all cells (links b s) s)))
  step b s ws clean off apart =
      let u = put_all cells ws s in
      run_is cells (t b) u
      ∙ ap (λ x. then x (λ e. Ok (done cells e u))) (sym (effect_same cells cell_laws (t b) s u (λ c h. sym (put_other ws c s (off c h)))) ∙ effects b s clean)
      ∙ after_step (fault b s) (links b s ++ others b s) u _
      (put_all-append (links b s) (others b s) u
      ∙ ap (put_all cells (others b s)) (sym (commute ws (links b s) s apart))
      ∙ sym (put_all-append ws (others b s) (put_all cells (links b s) s)))

  -- the state of the next beat as far as links go
  abbrev pub linked : ℕ → State → State
  linked b s = put_all cells (links b s) s

  pub clean_linked : (b : ℕ) (s : State) → NoTaint s → NoTaint (linked b s)
  clean_linked b s clean a = ap (λ (v : Value). v.taint) (put_other (links b s) (Byte a) s (kept b s a)) ∙ clean a

  pub four_faulting : {R : Type 0} (f : State → Result R Stop) (s : State) → NoTaint s
      → ((b k : ℕ) → k < b → b < 4 → (u v : State) (c : Cell) → (action cells (t b)).uses u c ≡ true → Off c (others k v))
      → ((b k : ℕ) → k < b → b < 4 → (u v : State) → Apart (others k v) (links b u))
      → let s1 = linked 0 s in let s2 = linked 1 s1 in let s3 = linked 2 s2 in
      four_beats cells t f s ≡ stop_first (fault 0 s) (stop_first (fault 1 s1) (stop_first (fault 2 s2) (stop_first (fault 3 s3)
      (f (put_all cells (others 0 s ++ others 1 s1 ++ others 2 s2 ++ others 3 s3) (linked 3 s3))))))
  four_faulting f s clean uses free =
      let s1 = linked 0 s in
      let s2 = linked 1 s1 in
      let s3 = linked 2 s2 in
      let clean1 = clean_linked 0 s clean in
      let clean2 = clean_linked 1 s1 clean1 in
      let clean3 = clean_linked 2 s2 clean2 in
      let w1 = others 0 s in
      let w2 = w1 ++ others 1 s1 in
      let w3 = w2 ++ others 2 s2 in
      let f3 : State → Result _ Stop = λ w. then ((action cells (t 3)).run w) f in
      let f2 : State → Result _ Stop = λ v. then ((action cells (t 2)).run v) f3 in
      let f1 : State → Result _ Stop = λ u. then ((action cells (t 1)).run u) f2 in
      ap (λ x. then x f1) (step 0 s [] clean (λ c h. tt) (apart_each [] (links 0 s) (λ v. tt))) ∙ then_first (fault 0 s) _ f1
      ∙ ap (stop_first (fault 0 s)) (ap (λ x. then x f2)
      (step 1 s1 w1 clean1 (λ c h. uses 1 0 (omega arith) (omega arith) s1 s c h) (free 1 0 (omega arith) (omega arith) s1 s))
      ∙ then_first (fault 1 s1) _ f2
      ∙ ap (stop_first (fault 1 s1)) (ap (λ x. then x f3) (step 2 s2 w2 clean2
      (λ c h. off-append c w1 (others 1 s1) (uses 2 0 (omega arith) (omega arith) s2 s c h) (uses 2 1 (omega arith) (omega arith) s2 s1 c h))
      (apart-append w1 (others 1 s1) (links 2 s2) (free 2 0 (omega arith) (omega arith) s2 s) (free 2 1 (omega arith) (omega arith) s2 s1)))
      ∙ then_first (fault 2 s2) _ f3
      ∙ ap (stop_first (fault 2 s2)) (ap (λ x. then x f) (step 3 s3 w3 clean3
      (λ c h. off-append c w2 (others 2 s2)
      (off-append c w1 (others 1 s1) (uses 3 0 (omega arith) (omega arith) s3 s c h) (uses 3 1 (omega arith) (omega arith) s3 s1 c h))
      (uses 3 2 (omega arith) (omega arith) s3 s2 c h))
      (apart-append w2 (others 2 s2) (links 3 s3)
      (apart-append w1 (others 1 s1) (links 3 s3) (free 3 0 (omega arith) (omega arith) s3 s) (free 3 1 (omega arith) (omega arith) s3 s1))
      (free 3 2 (omega arith) (omega arith) s3 s2))) ∙ then_first (fault 3 s3) _ f)))
