-- A REPORT IS ASCII, line by line, whatever it tells.
use Rattle.std.proofs.Common.{◌≡◌, ℕ, zero, suc, ◌+◌, ◌*◌, ◌/◌, ◌%◌, Bool, true, false, cond, nat_eq, List, [], ◌∷◌, ◌++◌, codes, decimal, length, Option, Some}
use Rattle.std.proofs.Common.{arith}
use Rattle.std.proofs.Common.{None, refl, slice_index}
use Rattle.std.specs.Str.{IsAscii}
use Rattle.hex.specs.Hex.{encode_lower}
use Rattle.hm_base.specs.declared.FaultKind.{FaultKind}
use Rattle.hm_base.specs.declared.Place.{Place}
use Rattle.hm_base.specs.declared.Place.TheVariants as place
use Rattle.hm_regs.specs.Stacks.{main_of, process_of}
use Rattle.hm_regs.specs.declared.Regs.{Regs}
use Rattle.hm_exc.specs.declared.types.Broken.{Broken}
use Rattle.hm_exc.specs.declared.types.Broken.TheVariants as broken
use Rattle.hm_exc.specs.declared.types.Slot.{Slot}
use Rattle.hm_exc.specs.declared.types.Slot.TheVariants as slot
use Rattle.hm_run.specs.declared.Offence.{Offence}
use Rattle.hm_run.specs.declared.Offence.TheVariants as offence
use Rattle.hm_run.specs.declared.Outcome.{Outcome}
use Rattle.hm_run.specs.declared.Outcome.TheVariants as outcome
use Rattle.hm_run.specs.declared.Reason.{Reason}
use Rattle.hm_run.specs.declared.Reason.TheVariants as reason
use Rattle.hm_run.specs.declared.Who.{Who}
use Rattle.hm_window.specs.declared.rule.Rule.{Rule}
use Rattle.hm_window.specs.declared.rule.Rule.TheVariants as rule
use Rattle.hm_run.specs.Report.{kind_text, who_text, reason_text, address_text, register_text, place_text, slot_text, rule_text, broken_text, offence_text}
use Rattle.hm_run.specs.Report.{ended_text, outcome_text, outcome_line, mode_line, low_lines, word_line, pointer_lines, position_line, flags_line, bit_line}
use Rattle.hm_run.specs.Report.{system_line, state_lines, special_lines, vector_words, vector_line, vector_lines, output_lines, register_lines, report_of}
use Rattle.hm_run.specs.Report.{report_text}
use Rattle.hm_run.specs.Timed.{Timed}
use Rattle.hm_state.specs.State.{regs_of}
use Rattle.hm_text_base.specs.Texts.{separator, binary_digit, hex2, hex8}
use Rattle.hm_report_lines.proofs.Bytes.{AreAll, adds, appended, bit_is, bytes_are, decimal_is, decimal_plain, hex2_is, hex8_is, hex8_plain, is_ascii, is_low}
use Rattle.hm_report_lines.proofs.Bytes.{is_plain, is_shown, joined, plain_is, told}

-- THE FIRST LINE
kind_is : (k : FaultKind) → is_plain (kind_text k) ≡ true
kind_is k = grind arith

who_is : (w : Who) → is_plain (who_text w) ≡ true
who_is w = grind arith

-- what holds of a text and stays so with each more part of the line holds of the first line, if it holds where that begins
module _ (P : List ℕ → Type 0) (more : (out part : List ℕ) → P out → is_plain part ≡ true → P (out ++ part)) where
  with_parts : (out : List ℕ) (parts : List (List ℕ)) → P out → AreAll is_shown parts → P (appended out parts)
  with_parts out [] h all = h
  with_parts out (part ∷ parts) h all = with_parts (out ++ part) parts (more out part h all.0) all.1

  one_of : (b : Bool) (xs ys : List ℕ) → P xs → P ys → P (cond b xs ys)
  one_of true xs ys h k = h
  one_of false xs ys h k = k

  reason_is : (r : Reason) (out : List ℕ) → P out → P (reason_text r out)
  reason_is (reason.Break k) out h = with_parts out (codes "break " ∷ decimal k ∷ []) h (refl, (decimal_plain k, tt))
  reason_is (reason.Exit r) out h = with_parts out (codes "exit " ∷ hex8 r ∷ []) h (refl, (hex8_plain r, tt))

  address_is : (pc addr : ℕ) (out : List ℕ) → P out → P (address_text pc addr out)
  address_is pc addr out h = with_parts out (codes " pc " ∷ hex8 pc ∷ codes " addr " ∷ hex8 addr ∷ []) h (refl, (hex8_plain pc, (refl, (hex8_plain addr, tt))))

  register_is : (n : ℕ) (out : List ℕ) → P out → P (register_text n out)
  register_is n out h =
      one_of (nat_eq n 13) _ _ (with_parts out (codes "sp" ∷ []) h (refl, tt))
      (one_of (nat_eq n 14) _ _ (with_parts out (codes "lr" ∷ []) h (refl, tt)) (with_parts out (codes "r" ∷ decimal n ∷ []) h (refl, (decimal_plain n, tt))))

  place_is : (p : Place) (out : List ℕ) → P out → P (place_text p out)
  place_is (place.R n) out h = register_is n out h
  place_is (place.QWord k) out h =
      with_parts out (codes "q" ∷ decimal (k / 4) ∷ codes "." ∷ decimal (k % 4) ∷ []) h (refl, (decimal_plain (k / 4), (refl, (decimal_plain (k % 4), tt))))
  place_is (place.P0 b) out h = with_parts out (codes "p0." ∷ decimal b ∷ []) h (refl, (decimal_plain b, tt))
  place_is place.Mask01 out h = with_parts out (codes "mask01" ∷ []) h (refl, tt)
  place_is place.Mask23 out h = with_parts out (codes "mask23" ∷ []) h (refl, tt)
  place_is place.Carry out h = with_parts out (codes "carry" ∷ []) h (refl, tt)
  place_is place.Ltp out h = with_parts out (codes "ltpsize" ∷ []) h (refl, tt)
  place_is place.Sticky out h = with_parts out (codes "qc" ∷ []) h (refl, tt)

  slot_is : (s : Slot) (out : List ℕ) → P out → P (slot_text s out)
  slot_is (slot.Reg p) out h = place_is p out h
  slot_is slot.Primask out h = with_parts out (codes "primask" ∷ []) h (refl, tt)
  slot_is slot.Psp out h = with_parts out (codes "psp" ∷ []) h (refl, tt)
  slot_is slot.Basepri out h = with_parts out (codes "basepri" ∷ []) h (refl, tt)

  rule_is : (r : Rule) (out : List ℕ) → P out → P (rule_text r out)
  rule_is rule.NotVector out h = with_parts out (codes "notvector" ∷ []) h (refl, tt)
  rule_is rule.Order out h = with_parts out (codes "order" ∷ []) h (refl, tt)
  rule_is (rule.Register p) out h = place_is p (out ++ codes "register ") (with_parts out (codes "register " ∷ []) h (refl, tt))
  rule_is (rule.Memory addr) out h = with_parts out (codes "memory " ∷ hex8 addr ∷ []) h (refl, (hex8_plain addr, tt))
  rule_is rule.YoungerFault out h = with_parts out (codes "youngerfault" ∷ []) h (refl, tt)
  rule_is (rule.Ending a b) out h =
      with_parts out (codes "ending " ∷ decimal a ∷ separator ∷ decimal b ∷ []) h (refl, (decimal_plain a, (refl, (decimal_plain b, tt))))

  broken_is : (b : Broken) (out : List ℕ) → P out → P (broken_text b out)
  broken_is (broken.ExcReturn value) out h = with_parts out (codes "return " ∷ hex8 value ∷ []) h (refl, (hex8_plain value, tt))
  broken_is (broken.Register name entry now) out h =
      with_parts (slot_text name (out ++ codes "register ")) (codes " entry " ∷ hex8 entry ∷ codes " now " ∷ hex8 now ∷ [])
      (slot_is name (out ++ codes "register ") (with_parts out (codes "register " ∷ []) h (refl, tt))) (refl, (hex8_plain entry, (refl, (hex8_plain now, tt))))
  broken_is (broken.Frame addr) out h = with_parts out (codes "frame " ∷ hex8 addr ∷ []) h (refl, (hex8_plain addr, tt))

  offence_is : (o : Offence) (out : List ℕ) → P out → P (offence_text o out)
  offence_is (offence.Left b) out h = broken_is b out h
  offence_is (offence.Store addr) out h = with_parts out (codes "store " ∷ hex8 addr ∷ []) h (refl, (hex8_plain addr, tt))
  offence_is (offence.Call pc) out h = with_parts out (codes "call " ∷ hex8 pc ∷ []) h (refl, (hex8_plain pc, tt))

  ended_is : (o : Outcome) (out : List ℕ) → P out → P (ended_text o out)
  ended_is (outcome.Halted r n) out h =
      with_parts (reason_text r (out ++ codes "halted ")) (codes " after " ∷ decimal n ∷ [])
      (reason_is r (out ++ codes "halted ") (with_parts out (codes "halted " ∷ []) h (refl, tt))) (refl, (decimal_plain n, tt))
  ended_is (outcome.Fault w f pc n) out h =
      let begun = out ++ codes "fault " ++ who_text w ++ separator ++ kind_text f.kind in
      with_parts (address_text pc f.addr begun) (codes " after " ∷ decimal n ∷ [])
      (address_is pc f.addr begun (with_parts out (codes "fault " ∷ who_text w ∷ separator ∷ kind_text f.kind ∷ []) h
      (refl, (who_is w, (refl, (kind_is f.kind, tt))))))
      (refl, (decimal_plain n, tt))
  ended_is (outcome.RuleBroken t step r) out h =
      rule_is r (out ++ codes "rule tick " ++ decimal t ++ codes " step " ++ decimal step ++ separator)
      (with_parts out (codes "rule tick " ∷ decimal t ∷ codes " step " ∷ decimal step ∷ separator ∷ []) h
      (refl, (decimal_plain t, (refl, (decimal_plain step, (refl, tt))))))
  ended_is (outcome.HandlerBroken t what) out h =
      offence_is what (out ++ codes "handler tick " ++ decimal t ++ separator)
      (with_parts out (codes "handler tick " ∷ decimal t ∷ separator ∷ []) h (refl, (decimal_plain t, (refl, tt))))
  ended_is (outcome.TaintedRead t pc addr) out h =
      address_is pc addr (out ++ codes "tainted tick " ++ decimal t) (with_parts out (codes "tainted tick " ∷ decimal t ∷ []) h (refl, (decimal_plain t, tt)))
  ended_is (outcome.StackSpent t sp) out h =
      with_parts out (codes "stack tick " ∷ decimal t ∷ codes " sp " ∷ hex8 sp ∷ []) h (refl, (decimal_plain t, (refl, (hex8_plain sp, tt))))
  ended_is (outcome.OutputFull t) out h = with_parts out (codes "output tick " ∷ decimal t ∷ []) h (refl, (decimal_plain t, tt))
  ended_is outcome.OutOfTicks out h = with_parts out (codes "ticks" ∷ []) h (refl, tt)

  pub outcome_keeps : (o : Option Outcome) (out : List ℕ) → P out → P (outcome_text o out)
  outcome_keeps (Some o) out h = ended_is o out h
  outcome_keeps None out h = with_parts out (codes "running" ∷ []) h (refl, tt)

first_line : (o : Option Outcome) → is_ascii (outcome_line o) ≡ true
first_line o = adds is_low (outcome_text o (codes "outcome ")) (codes "\n" ∷ [])
    (plain_is (outcome_text o (codes "outcome ")) (outcome_keeps (λ out. is_plain out ≡ true) (joined is_shown) o (codes "outcome ") refl)) (refl, tt)

-- THE FURTHER LINES
mode_is : (depth ipsr : ℕ) (out : List ℕ) → is_ascii out ≡ true → is_ascii (mode_line depth ipsr out) ≡ true
mode_is zero ipsr out h = adds is_low out (codes "mode thread\n" ∷ []) h (refl, tt)
mode_is (suc k) ipsr out h =
    adds is_low out (codes "mode handler " ∷ decimal ipsr ∷ codes " depth " ∷ decimal (suc k) ∷ codes "\n" ∷ []) h
    (refl, (decimal_is ipsr, (refl, (decimal_is (suc k), (refl, tt)))))

low_are : (k : ℕ) (r out : List ℕ) → is_ascii out ≡ true → is_ascii (low_lines k r out) ≡ true
low_are zero r out h = h
low_are (suc k) r out h =
    adds is_low (low_lines k r out) (codes "r" ∷ decimal k ∷ separator ∷ hex8 (slice_index r k) ∷ codes "\n" ∷ []) (low_are k r out h)
    (refl, (decimal_is k, (refl, (hex8_is (slice_index r k), (refl, tt)))))

word_is : (name : List ℕ) (x : ℕ) (out : List ℕ) → is_ascii name ≡ true → is_ascii out ≡ true → is_ascii (word_line name x out) ≡ true
word_is name x out n h = adds is_low out (name ∷ separator ∷ hex8 x ∷ codes "\n" ∷ []) h (n, (refl, (hex8_is x, (refl, tt))))

flag_is : (name : List ℕ) (b : Bool) (out : List ℕ) → is_ascii name ≡ true → is_ascii out ≡ true → is_ascii (bit_line name b out) ≡ true
flag_is name b out n h = adds is_low out (name ∷ separator ∷ binary_digit b ∷ codes "\n" ∷ []) h (n, (refl, (bit_is b, (refl, tt))))

pointers_are : (g : Regs) (out : List ℕ) → is_ascii out ≡ true → is_ascii (pointer_lines g out) ≡ true
pointers_are g out h =
    let sp = word_line (codes "sp") g.sp out in
    let lr = word_line (codes "lr") g.lr sp in
    word_is (codes "pc") g.pc lr refl (word_is (codes "lr") g.lr sp refl (word_is (codes "sp") g.sp out refl h))

position_is : (a b : ℕ) (out : List ℕ) → is_ascii out ≡ true → is_ascii (position_line a b out) ≡ true
position_is a b out h = adds is_low out (codes "position " ∷ decimal a ∷ separator ∷ decimal b ∷ codes "\n" ∷ []) h
    (refl, (decimal_is a, (refl, (decimal_is b, (refl, tt)))))

flags_are : (g : Regs) (out : List ℕ) → is_ascii out ≡ true → is_ascii (flags_line g out) ≡ true
flags_are g out h =
    adds is_low out (codes "flags " ∷ binary_digit g.n ∷ binary_digit g.z ∷ binary_digit g.c ∷ binary_digit g.v ∷ binary_digit g.q ∷ codes "\n" ∷ []) h
    (refl, (bit_is g.n, (bit_is g.z, (bit_is g.c, (bit_is g.v, (bit_is g.q, (refl, tt)))))))

system_is : (g : Regs) (out : List ℕ) → is_ascii out ≡ true → is_ascii (system_line g out) ≡ true
system_is g out h =
    adds is_low out (codes "system " ∷ hex8 (main_of g) ∷ separator ∷ hex8 (process_of g) ∷ separator ∷ binary_digit g.spsel ∷ separator ∷ hex2 g.basepri
    ∷ codes "\n"
    ∷ []) h
    (refl, (hex8_is (main_of g), (refl, (hex8_is (process_of g), (refl, (bit_is g.spsel, (refl, (hex2_is g.basepri, (refl, tt)))))))))

states_are : (g : Regs) (out : List ℕ) → is_ascii out ≡ true → is_ascii (state_lines g out) ≡ true
states_are g out h =
    let it = out ++ codes "it " ++ hex2 g.it ++ codes "\n" in
    let fpscr = word_line (codes "fpscr") g.fpscr it in
    let vpr = word_line (codes "vpr") g.vpr fpscr in
    let fpca = bit_line (codes "fpca") g.fpca vpr in
    flag_is (codes "primask") g.primask fpca refl (flag_is (codes "fpca") g.fpca vpr refl
    (word_is (codes "vpr") g.vpr fpscr refl (word_is (codes "fpscr") g.fpscr it refl
    (adds is_low out (codes "it " ∷ hex2 g.it ∷ codes "\n" ∷ []) h (refl, (hex2_is g.it, (refl, tt)))))))

special_are : (g : Regs) (out : List ℕ) → is_ascii out ≡ true → is_ascii (special_lines g out) ≡ true
special_are g out h = system_is g (state_lines g out) (states_are g out h)

words_are : (k : ℕ) (qw out : List ℕ) → is_ascii out ≡ true → is_ascii (vector_words k qw out) ≡ true
words_are k qw out h =
    let first = slice_index qw (4 * k) in
    let second = slice_index qw (4 * k + 1) in
    let third = slice_index qw (4 * k + 2) in
    let fourth = slice_index qw (4 * k + 3) in
    adds is_low out (hex8 first ∷ separator ∷ hex8 second ∷ separator ∷ hex8 third ∷ separator ∷ hex8 fourth ∷ []) h
    (hex8_is first, (refl, (hex8_is second, (refl, (hex8_is third, (refl, (hex8_is fourth, tt)))))))

vector_is : (k : ℕ) (qw out : List ℕ) → is_ascii out ≡ true → is_ascii (vector_line k qw out) ≡ true
vector_is k qw out h =
    let name = out ++ codes "q" ++ decimal k ++ separator in
    adds is_low (vector_words k qw name) (codes "\n" ∷ [])
    (words_are k qw name (adds is_low out (codes "q" ∷ decimal k ∷ separator ∷ []) h (refl, (decimal_is k, (refl, tt))))) (refl, tt)

vectors_are : (k : ℕ) (qw out : List ℕ) → is_ascii out ≡ true → is_ascii (vector_lines k qw out) ≡ true
vectors_are zero qw out h = h
vectors_are (suc k) qw out h = vector_is k qw (vector_lines k qw out) (vectors_are k qw out h)

output_is : (bytes out : List ℕ) → is_ascii out ≡ true → is_ascii (output_lines bytes out) ≡ true
output_is bytes out h =
    adds is_low out (codes "output " ∷ decimal (length bytes) ∷ codes "\n" ∷ encode_lower bytes ∷ codes "\n" ∷ []) h
    (refl, (decimal_is (length bytes), (refl, (bytes_are bytes, (refl, tt)))))

registers_are : (g : Regs) (a b : ℕ) (out : List ℕ) → is_ascii out ≡ true → is_ascii (register_lines g a b out) ≡ true
unfolding register_lines
registers_are g a b out h =
    let low = low_lines 13 g.r out in
    let pointers = pointer_lines g low in
    let position = position_line a b pointers in
    let flags = flags_line g position in
    let special = special_lines g flags in
    vectors_are 8 g.qw special (special_are g flags (flags_are g position (position_is a b pointers (pointers_are g low (low_are 13 g.r out h)))))

pub report_is : (o : Option Outcome) (depth : ℕ) (g : Regs) (a b : ℕ) (output : List ℕ) → IsAscii (report_of o depth g a b output)
unfolding report_of
report_is o depth g a b output =
    let mode = mode_line depth g.ipsr (outcome_line o) in
    told (output_lines output (register_lines g a b mode))
    (output_is output (register_lines g a b mode) (registers_are g a b mode (mode_is depth g.ipsr (outcome_line o) (first_line o))))

-- the report of each value of a run
pub report_text_is : (x : Timed) → IsAscii (report_text x)
report_text_is x = let s = x.config.state in report_is x.outcome (length x.acts) (regs_of s) x.config.a x.config.b s.rest.output
