-- What a breakpoint asks, and how it is answered.
use Rattle.std.proofs.Common.{◌≡◌, ℕ, zero, suc, ◌+◌, ◌<◌, ◌≤◌, ◌^◌, ◌++◌, arith, refl, ap, sym, ◌∙◌, true, false, cond, List, [], ◌∷◌, length, append_assoc}
use Rattle.std.proofs.Common.{append-nil, Some, None, Result, Ok, Err}
use Rattle.std.specs.Prelude.{nat_eq, nat_lt}
use Rattle.std.proofs.lemmas.Bool.Decides.{nat_tests}
use Rattle.hm_base.specs.declared.Stop.{Stop}
use Rattle.hm_mem.specs.Memory.{Around, Memory}
use Rattle.hm_mem.specs.Seen.{Seen, read, seen}
use Rattle.hm_mem.specs.declared.Access.TheVariants.{Scalar}
use Rattle.hm_regs.specs.Place.{Counted}
use Rattle.hm_regs.specs.declared.Regs.{Regs}
use Rattle.hm_run.specs.declared.Cause.TheVariants as cause
use Rattle.hm_run.specs.Program.{answered, breakpoint, doing_in_machine, cause_of, caused, most_output, printed, served}
use Rattle.hm_state.proofs.Registers.{registers_are}
use Rattle.hm_state.specs.State.{State, regs_of, state_of}
use Rattle.hm_order.specs.Beats.{then}
use Rattle.hm_thumb.specs.Calls.{Asked, Writes, asked, more, most_text, text}
use Rattle.hm_thumb.specs.Does as runner
use Rattle.hm_thumb.specs.Does.{Runner, behind, first_stop, words}
use Rattle.hm_thumb.specs.Steps.{settled}
use Rattle.hm_thumb.specs.declared.Way.TheVariants as way
use Rattle.hm_whole.specs.Whole.{state_with}
use Rattle.hm_whole.proofs.Agreement.{made_of}
use Rattle.hm_whole.proofs.Executed.{seen_made}

-- TEXTS, byte by byte: what is read of a text so far, and what comes of the rest
abbrev pub behind_these : List ℕ → Result (List ℕ) Stop → Result (List ℕ) Stop
behind_these xs (Ok ys) = Ok (xs ++ ys)
behind_these xs (Err e) = Err e

pub behind_nothing : (r : Result (List ℕ) Stop) → behind_these [] r ≡ r
behind_nothing r = grind arith

onto : (xs : List ℕ) (x : ℕ) (r : Result (List ℕ) Stop) → behind_these xs (more x r) ≡ behind_these (xs ++ x ∷ []) r
onto xs x (Ok ys) = ap Ok (sym (append_assoc xs (x ∷ []) ys))
onto xs x (Err e) = refl

-- the first k bytes from a on are read, and the next stands at b
pub record IsRead (R : Runner Stop) (s : Seen) (k a b : ℕ) : Type 0 where
  pub bytes : (j : ℕ) → words 1 (k + j) a s ≡ words 1 k a s ++ words 1 j b s
  pub free : (j : ℕ) → first_stop R Scalar false 1 (k + j) a s ≡ first_stop R Scalar false 1 j b s

module _ (R : Runner Stop) (s : Seen) where
  pub none_read : (a : ℕ) → IsRead R s 0 a a
  none_read a = record {
    bytes = λ j. let e : 0 + j ≡ j = omega arith in ap (λ n. words 1 n a s) e;
    free = λ j. let e : 0 + j ≡ j = omega arith in ap (λ n. first_stop R Scalar false 1 n a s) e;
  }

  module _ (k a b : ℕ) (is : IsRead R s k a b) where
    next_bytes : words 1 (k + 1) a s ≡ words 1 k a s ++ read 1 b s ∷ []
    next_bytes = is.bytes 1

    pub one_read : R.stop Scalar false 1 b s ≡ None → IsRead R s (k + 1) a (behind 1 b)
    one_read none = record {
      bytes = λ j.
          let e : k + 1 + j ≡ k + suc j = omega arith in
          ap (λ n. words 1 n a s) e ∙ is.bytes (suc j) ∙ sym (append_assoc (words 1 k a s) (read 1 b s ∷ []) (words 1 j (behind 1 b) s))
          ∙ ap (λ xs. xs ++ words 1 j (behind 1 b) s) (sym next_bytes);
      free = λ j.
          let e : k + 1 + j ≡ k + suc j = omega arith in
          ap (λ n. first_stop R Scalar false 1 n a s) e ∙ is.free (suc j) ∙ rw none refl;
    }

    -- none of them stops
    pub all_free : first_stop R Scalar false 1 k a s ≡ None
    all_free = let e : k ≡ k + 0 = omega arith in ap (λ n. first_stop R Scalar false 1 n a s) e ∙ is.free 0

    ended : (x : ℕ) → x ≡ 0 → (r : Result (List ℕ) Stop) → behind_these (words 1 k a s) (cond (nat_eq x 0) (Ok []) r) ≡ Ok (words 1 k a s)
    ended x e r = ap (λ y. behind_these (words 1 k a s) (cond (nat_eq y 0) (Ok []) r)) e ∙ ap Ok (append-nil (words 1 k a s))

    -- the next byte stops, ends the text, or goes on
    pub text_stops : (n m : ℕ) (e : Stop) → n ≡ suc m → R.stop Scalar false 1 b s ≡ Some e → behind_these (words 1 k a s) (text R n b s) ≡ Err e
    text_stops n m e left stop = rw left (rw stop refl)

    pub text_ends : (n m : ℕ) → n ≡ suc m → R.stop Scalar false 1 b s ≡ None → read 1 b s ≡ 0 → behind_these (words 1 k a s) (text R n b s) ≡ Ok (words 1 k a s)
    text_ends n m left none end = rw left (rw none (ended (read 1 b s) end _))

    pub text_goes : (n m : ℕ) → n ≡ suc m → R.stop Scalar false 1 b s ≡ None → nat_eq (read 1 b s) 0 ≡ false
        → behind_these (words 1 k a s) (text R n b s) ≡ behind_these (words 1 (k + 1) a s) (text R m (behind 1 b) s)
    text_goes n m left none going =
        rw left (rw none (rw going (onto (words 1 k a s) (read 1 b s) _ ∙ ap (λ xs. behind_these xs (text R m (behind 1 b) s)) (sym next_bytes))))

    pub text_is_long : (n : ℕ) → n ≡ 0 → behind_these (words 1 k a s) (text R n b s) ≡ Ok (words 1 k a s)
    text_is_long n none = rw none (ap Ok (append-nil (words 1 k a s)))

pub most_is : most_text ≡ 0x100001
unfolding most_text
most_is = refl

pub words_length : (n a : ℕ) (s : Seen) → length (words 1 n a s) ≡ n
words_length zero a s = refl
words_length (suc n) a s = ap suc (words_length n (behind 1 a) s)

-- THE STATE BEHIND A BREAKPOINT
pub printed_is : (r : Regs) (m : Memory) (output xs : List ℕ) → Counted r → r.fpscr < 2 ^ 32 → r.vpr < 2 ^ 32
    → state_of (settled 2 way.On r) m (output ++ xs) ≡ printed xs (state_of r m output)
unfolding state_of
printed_is r m output xs n f v =
    made_of (settled 2 way.On r) m (output ++ xs)
    ∙ ap (λ (q : Regs). state_with (settled 2 way.On q) (seen m) m.around (output ++ xs)) (sym (registers_are r m output n f v))

-- by whether the output has room
pub prints : (r : Regs) (m : Memory) (output xs : List ℕ) → Counted r → r.fpscr < 2 ^ 32 → r.vpr < 2 ^ 32 → length output + length xs ≤ most_output
    → Ok (state_of (settled 2 way.On r) m (output ++ xs)) ≡ answered cause_of (state_of r m output) (Writes xs)
unfolding state_of
prints r m output xs n f v room =
    let test : nat_lt most_output (length output + length xs) ≡ false = grind (arith, nat_tests, room) in
    ap Ok (printed_is r m output xs n f v)
    ∙ ap (λ b. cond b (Err cause.Full) (Ok (printed xs (state_of r m output)))) (sym test)

pub is_full : (r : Regs) (m : Memory) (output xs : List ℕ) → most_output < length output + length xs
    → Err cause.Full ≡ answered cause_of (state_of r m output) (Writes xs)
unfolding state_of
is_full r m output xs full =
    let test : nat_lt most_output (length output + length xs) ≡ true = grind (arith, nat_tests, full) in
    ap (λ b. cond b (Err cause.Full) (Ok (printed xs (state_of r m output)))) (sym test)

-- what is asked, from the registers and the memory that make a state
pub asked_there : (r : Regs) (m : Memory) (output : List ℕ) → Counted r → r.fpscr < 2 ^ 32 → r.vpr < 2 ^ 32
    → (q : Result Asked Stop) → q ≡ asked (runner.in_machine m.around) r (seen m)
    → then (caused q) (answered cause_of (state_of r m output)) ≡ served (doing_in_machine m.around) (state_of r m output)
asked_there r m output n f v q e =
    let s = state_of r m output in
    let from = λ (t : Regs) (y : Seen). then (caused (asked (runner.in_machine m.around) t y)) (answered cause_of s) in
    ap (λ z. then (caused z) (answered cause_of s)) e
    ∙ ap (λ (t : Regs). from t (seen m)) (sym (registers_are r m output n f v))
    ∙ ap (λ (y : Seen). from (regs_of s) y) (sym (seen_made r m output))

pub serves : (around : Around) (k : ℕ) (s : State) → k ≡ 171 → served (doing_in_machine around) s ≡ breakpoint (doing_in_machine around) k s
serves around k s e = ap (λ (n : ℕ). breakpoint (doing_in_machine around) n s) (sym e)
