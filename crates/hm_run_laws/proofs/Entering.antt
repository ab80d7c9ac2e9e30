-- What an entry puts away is what a return gives back.
use Rattle.hm_mem.specs.Memory.{Bounds}
use Rattle.std.proofs.Common.{◌≡◌, ℕ, ◌+◌, ◌-◌, ◌*◌, ◌/◌, ◌%◌, ◌^◌, ◌<◌, Bool, true, false, cond, not, nat_le, List, length, get_or, Option, Some, None, arith}
use Rattle.std.proofs.Common.{refl, sym, ◌∙◌, ap, subst}
use Rattle.std.specs.Prelude.{slice_index}
use Rattle.std.proofs.Math.ListN.{replicate}
use Rattle.std.proofs.lemmas.List.{get_or_append_left, take_at}
use Rattle.hm_base.specs.Image.{word_at}
use Rattle.hm_exc.specs.Entry.{CanEnter, FitsEntry, activation, entry_refusal, window_in}
use Rattle.hm_exc.specs.Frame.{floor_for, frame_base, frame_bytes, frame_size, frame_words, has_room, psr_window, xpsr}
use Rattle.hm_exc.specs.declared.types.EnterErr.{EnterErr}
use Rattle.hm_exc.proofs.Psr.{psr-below, psr-window}
use Rattle.hm_exc.proofs.Stacked.{frame_byte-is, in_room, length-frame_bytes}
use Rattle.hm_exc.proofs.Words.{four_bytes, word-psr}
use Rattle.hm_run_laws.specs.Blocks.{IsBlockByte}
use Rattle.hm_mem.specs.Devices.{byte_of}
use Rattle.hm_mem.specs.Seen.{Seen, lies_in_sram}
use Rattle.hm_mem.specs.declared.Actor.{Actor}
use Rattle.hm_order.specs.Machine.{Config}
use Rattle.hm_regs.specs.declared.Regs.{Regs}
use Rattle.hm_state.specs.State.{State, regs_of}
use Rattle.hm_state.proofs.Lists.{length-listed}
use Rattle.hm_whole.specs.Whole.{seen_in}
use Rattle.hm_window.specs.declared.rule.Window.{Window}
use Rattle.hm_sys.specs.Exceptions.{IsException}
use Rattle.hm_run_laws.specs.Entries.{interrupted_by, position_of}
use Rattle.hm_run_laws.specs.Nested.{Interrupted}
use Rattle.hm_run_laws.specs.Registers.{registers_in, restored}
use Rattle.hm_run_laws.specs.Sound.{FitsInside, IsStacked, number_under}

-- THE POSITION in a frame
word_back : (f : ℕ → ℕ) (x : ℕ) → x < 2 ^ 32 → f 28 ≡ byte_of x 0 → f 29 ≡ byte_of x 1 → f 30 ≡ byte_of x 2 → f 31 ≡ byte_of x 3 → word_at f 28 ≡ x
word_back f x fits a b c d = (λ j. a j + 0x100 * b j + 0x10000 * c j + 0x1000000 * d j) ∙ four_bytes x fits

long_enough : (t : Bool) → 31 < frame_size t
long_enough t = grind arith

module _ (r : Regs) (w : Window) (e : ℕ) (count : length r.qw ≡ 32) (can : CanEnter r w) (fits : r.it < 256) where
  size : length (frame_bytes r w) ≡ frame_size r.fpca
  size = length-frame_bytes r w count

  -- byte k of word 7
  psr_byte : (j k : ℕ) → j < 32 → j / 4 ≡ 7 → j % 4 ≡ k → get_or (activation r w e).bytes j 0 ≡ byte_of (xpsr r w) k
  psr_byte j k l seventh byte =
      let long : 31 < frame_size r.fpca = long_enough r.fpca in
      let there : length (frame_bytes r w) ≡ frame_size r.fpca = size in
      get_or_append_left (frame_bytes r w) (replicate (104 - frame_size r.fpca) 0) 0 j (omega arith)
      ∙ frame_byte-is r w j count (omega arith)
      ∙ (λ i. byte_of (get_or (frame_words r w) (seventh i) 0) (byte i)) ∙ ap (λ (x : ℕ). byte_of x k) (word-psr r w)

  psr_in : word_at (slice_index (activation r w e).bytes) 28 ≡ xpsr r w
  psr_in = word_back (slice_index (activation r w e).bytes) (xpsr r w) (psr-below r w can fits)
      (psr_byte 28 0 (omega arith) refl refl) (psr_byte 29 1 (omega arith) refl refl) (psr_byte 30 2 (omega arith) refl refl)
      (psr_byte 31 3 (omega arith) refl refl)

  pub position_back : window_in (activation r w e) ≡ w
  position_back = ap psr_window psr_in ∙ psr-window r w can fits

  pub entry_fits : lies_in_sram (frame_size r.fpca) (frame_base r) ≡ true → FitsEntry (activation r w e)
  entry_fits h = record {
    in_sram = h;
    form = refl;
    enters = subst (λ (v : Window). CanEnter r v) (sym position_back) can;
    frame = refl;
    value = refl;
    bytes = take_at (frame_bytes r w) (replicate (104 - frame_size r.fpca) 0) (frame_size r.fpca) size ∙ ap (frame_bytes r) (sym position_back);
  }

-- WHAT IS NOT REFUSED has room
pub room_of : (bounds : Bounds) (r : Regs) (m : Seen) (e : ℕ) → entry_refusal bounds r m e ≡ None → has_room bounds r ≡ true
room_of bounds r m e h = by_room (has_room bounds r) _ _ h
  where
    by_room : (b : Bool) (why : EnterErr) (rest : Option EnterErr) → cond (not b) (Some why) rest ≡ None → b ≡ true
    by_room true why rest h = refl
    by_room false why rest h = absurd cc

lies : (bounds : Bounds) (r : Regs) (w : Window) (e : ℕ) → has_room bounds r ≡ true → lies_in_sram (frame_size r.fpca) (frame_base r) ≡ true
lies bounds r w e h = in_room (activation r w e) (activation r w e) (nat_le (floor_for bounds r) (frame_base r)) (has_room bounds r) refl refl h

-- THE REGISTERS
count_of : (s : State) → length (regs_of s).qw ≡ 32
unfolding regs_of
count_of s = length-listed 32 _

pub byte_in : (s : State) → (regs_of s).it ≡ s.rest.it
unfolding regs_of
byte_in s = refl

pub number_in : (s : State) → (regs_of s).ipsr ≡ s.rest.ipsr
unfolding regs_of
number_in s = refl

pub spsel_in : (s : State) → (regs_of s).spsel ≡ s.rest.spsel
unfolding regs_of
spsel_in s = refl

context_in : (s : State) → (regs_of s).fpca ≡ s.rest.fpca
unfolding regs_of
context_in s = refl

registers_back : (s : State) (actor : Actor) (t : State) → regs_of (restored (registers_in s) actor t) ≡ regs_of s
unfolding regs_of
registers_back s actor t = refl

pub stacked_by : (bounds : Bounds) (e : ℕ) (c : Config State) (acts : List Interrupted) → IsException e → CanEnter (regs_of c.state) (position_of c)
    → IsBlockByte c.state.rest.it
    → FitsInside c → c.state.rest.ipsr ≡ number_under acts → entry_refusal bounds (regs_of c.state) (seen_in c.state) e ≡ None
    → IsStacked (interrupted_by e c) acts
stacked_by bounds e c acts exception can block inside number free =
    let r = regs_of c.state in
    let w = position_of c in
    let sound : IsBlockByte r.it = subst IsBlockByte (sym (byte_in c.state)) block in
    record {
      exception = exception;
      fits = entry_fits r w e (count_of c.state) can sound.0 (lies bounds r w e (room_of bounds r (seen_in c.state) e free));
      position = position_back r w e (count_of c.state) can sound.0;
      registers = registers_back c.state;
      number = number_in c.state ∙ number;
      block = sound;
      context = λ h. context_in c.state ∙ (inside h).1;
    }
