-- THE NAME OF A KIND tells the kind: a reader of names gives it back.
use Rattle.std.proofs.Common.{◌≡◌, ◌∙◌, ℕ, ◌+◌, ◌*◌, ◌/◌, ◌%◌, ◌<◌, ◌^◌, Bool, true, false, cond, nat_eq, nat_lt, not, List, [], ◌∷◌, ◌++◌, Option, Some, None}
use Rattle.std.proofs.Common.{ap, append_assoc, arith, codes, decimal, drop, get_or, map, refl, sym, take}
use Rattle.std.specs.Str.Parse.{digits_value}
use Rattle.std.proofs.lemmas.Bool.{and_parts, not-true}
use Rattle.std.proofs.lemmas.Bool.Decides.{nat_tests}
use Rattle.std.proofs.lemmas.Fmt.{decimal_is_IsNumeral}
use Rattle.hm_base.specs.declared.FaultKind.{FaultKind}
use Rattle.hm_base.specs.declared.FaultKind.TheVariants as fault
use Rattle.hm_base.specs.declared.Place.TheVariants as place
use Rattle.hm_text_base.proofs.NumberLaws.{decimal_lacks, hex8_again}
use Rattle.hm_text_base.proofs.SpanLaws.{span_at}
use Rattle.hm_text_base.specs.Numbers.{hex8_in}
use Rattle.hm_text_base.specs.Spans.{span}
use Rattle.hm_shake.proofs.Names.{are_words, is_worded, kind_words}
use Rattle.hm_shake.specs.Numbers.{HasNumbers, ReasonFits, SlotFits}
use Rattle.hm_shake.specs.Kinds.{joined, kind_name, kind_text}
use Rattle.hm_run.specs.Report.{kind_text as fault_text, slot_text}
use Rattle.hm_shake_runs.specs.declared.kinds.Kind.{Kind}
use Rattle.hm_shake_runs.specs.declared.kinds.Kind.TheVariants as kind
use Rattle.hm_run.specs.declared.Reason.{Reason}
use Rattle.hm_run.specs.declared.Reason.TheVariants as reason
use Rattle.hm_exc.specs.declared.types.Slot.{Slot}
use Rattle.hm_exc.specs.declared.types.Slot.TheVariants as slot
use Rattle.hm_run.specs.declared.Who.{Who}
use Rattle.hm_run.specs.declared.Who.TheVariants as who

-- a text begins so, by its k-th byte
abbrev has : List ℕ → ℕ → ℕ → Bool
has text k byte = nat_eq (get_or text k 0) byte

-- ---- numbers

abbrev value : List ℕ → ℕ
value text = digits_value 10 text

value_again : (n : ℕ) → n < 2 ^ 64 → value (decimal n) ≡ n
value_again n lt = (decimal_is_IsNumeral n lt).1

abbrev or_zero : Option ℕ → ℕ
or_zero (Some n) = n
or_zero None = 0

-- ---- halts, behind the first word

abbrev break_in : List ℕ × List ℕ → Kind
break_in (number, rest) = kind.Halted (reason.Break (value number)) (value (drop 7 rest))

abbrev exit_in : List ℕ → Kind
exit_in text = kind.Halted (reason.Exit (or_zero (hex8_in (take 8 text)))) (value (drop 15 text))

abbrev halt_in : List ℕ → Kind
halt_in text = cond (has text 0 98) (break_in (span 32 (drop 6 text))) (exit_in (drop 5 text))

halt_again : (r : Reason) (n : ℕ) → ReasonFits r → n < 2 ^ 64 → halt_in (drop 7 (kind_text (kind.Halted r n) [])) ≡ kind.Halted r n
halt_again (reason.Break k) n small wide =
    ap break_in (ap (span 32) (append_assoc (decimal k) (codes " after ") (decimal n))
    ∙ span_at 32 (decimal k) (codes "after " ++ decimal n) (decimal_lacks 32 k (omega arith) (omega arith)))
    ∙ (λ j. kind.Halted (reason.Break (value_again k (omega arith) j)) (value_again n wide j))
halt_again (reason.Exit r) n small wide = λ j. kind.Halted (reason.Exit (or_zero (hex8_again r small j))) (value_again n wide j)

-- ---- faults, behind the first word

abbrev cause_in : List ℕ → FaultKind
cause_in text =
    cond (has text 0 105) fault.InvState
    (cond (has text 0 98) fault.Bus
    (cond (has text 0 100) fault.DeviceVector
    (cond (has text 0 116) fault.TimedRead
    (cond (has text 0 115) fault.Semihost
    (cond (has text 0 118) fault.Vector
    (cond (has text 0 102) (cond (has text 1 101) fault.Fetch fault.FlashWrite)
    (cond (has text 2 100) fault.Undefined fault.Unaligned)))))))

cause_again : (k : FaultKind) → cause_in (fault_text k) ≡ k
cause_again k = grind arith

abbrev fault_in : List ℕ → Kind
fault_in text =
    cond (has text 0 116) (kind.Fault who.Thread (cause_in (drop 7 text)))
    (cond (has text 0 104) (kind.Fault who.Handler (cause_in (drop 8 text)))
    (kind.Fault who.Entry (cause_in (drop 6 text))))

fault_again : (w : Who) (k : FaultKind) → fault_in (drop 6 (kind_text (kind.Fault w k) [])) ≡ kind.Fault w k
fault_again who.Thread k = ap (kind.Fault who.Thread) (cause_again k)
fault_again who.Handler k = ap (kind.Fault who.Handler) (cause_again k)
fault_again who.Entry k = ap (kind.Fault who.Entry) (cause_again k)

-- ---- what a handler has to leave

abbrev word_in : List ℕ × List ℕ → Slot
word_in (front, []) = slot.Reg place.Sticky
word_in (front, mark ∷ rest) = slot.Reg (place.QWord (value front * 4 + value rest))

abbrev slot_in : List ℕ → Slot
slot_in text =
    cond (has text 0 115) (slot.Reg (place.R 13))
    (cond (has text 0 108) (cond (has text 1 114) (slot.Reg (place.R 14)) (slot.Reg place.Ltp))
    (cond (has text 0 114) (slot.Reg (place.R (value (drop 1 text))))
    (cond (has text 0 113) (word_in (span 46 (drop 1 text)))
    (cond (has text 0 109) (cond (has text 4 48) (slot.Reg place.Mask01) (slot.Reg place.Mask23))
    (cond (has text 0 99) (slot.Reg place.Carry)
    (cond (has text 0 98) slot.Basepri
    (cond (has text 1 48) (slot.Reg (place.P0 (value (drop 3 text)))) (cond (has text 1 114) slot.Primask slot.Psp))))))))

register_again : (n : ℕ) (b c : Bool) → nat_eq n 13 ≡ b → nat_eq n 14 ≡ c → n < 2 ^ 8
    → slot_in (cond b (codes "sp") (cond c (codes "lr") (codes "r" ++ decimal n))) ≡ slot.Reg (place.R n)
register_again n true c e f small = let same : 13 ≡ n = grind (arith, nat_tests) in ap (λ (k : ℕ). slot.Reg (place.R k)) same
register_again n false true e f small = let same : 14 ≡ n = grind (arith, nat_tests) in ap (λ (k : ℕ). slot.Reg (place.R k)) same
register_again n false false e f small = ap (λ (k : ℕ). slot.Reg (place.R k)) (value_again n (omega arith))

word_again : (k : ℕ) → k < 2 ^ 8 → slot_in (slot_text (slot.Reg (place.QWord k)) []) ≡ slot.Reg (place.QWord k)
word_again k small =
    let whole : k / 4 * 4 + k % 4 ≡ k = omega arith in
    ap word_in (ap (span 46) (append_assoc (decimal (k / 4)) (codes ".") (decimal (k % 4)))
    ∙ span_at 46 (decimal (k / 4)) (decimal (k % 4)) (decimal_lacks 46 (k / 4) (omega arith) (omega arith)))
    ∙ (λ j. slot.Reg (place.QWord (value_again (k / 4) (omega arith) j * 4 + value_again (k % 4) (omega arith) j)))
    ∙ ap (λ (n : ℕ). slot.Reg (place.QWord n)) whole

slot_again : (s : Slot) → SlotFits s → slot_in (slot_text s []) ≡ s
unfolding span
slot_again (slot.Reg (place.R n)) small = register_again n (nat_eq n 13) (nat_eq n 14) refl refl small
slot_again (slot.Reg (place.QWord k)) small = word_again k small
slot_again (slot.Reg (place.P0 b)) small = ap (λ (n : ℕ). slot.Reg (place.P0 n)) (value_again b (omega arith))
slot_again s small = refl

-- its text stands behind what stands before it
either_behind : (b : Bool) (out x y xs ys : List ℕ) → x ≡ out ++ xs → y ≡ out ++ ys → cond b x y ≡ out ++ cond b xs ys
either_behind true out x y xs ys h k = h
either_behind false out x y xs ys h k = k

slot_behind : (s : Slot) (out : List ℕ) → slot_text s out ≡ out ++ slot_text s []
slot_behind (slot.Reg (place.R n)) out =
    either_behind (nat_eq n 13) out _ _ _ _ refl
    (either_behind (nat_eq n 14) out _ _ _ _ refl (append_assoc out (codes "r") (decimal n)))
slot_behind (slot.Reg (place.QWord k)) out = simp append_assoc
slot_behind (slot.Reg (place.P0 b)) out = append_assoc out (codes "p0.") (decimal b)
slot_behind s out = refl

-- ---- kinds

abbrev handler_in : List ℕ → Kind
handler_in text =
    cond (has text 8 102) kind.Frame
    (cond (has text 8 115) kind.Store
    (cond (has text 8 99) kind.Call
    (cond (has text 10 103) (kind.Register (slot_in (drop 17 text))) kind.Return)))

abbrev kind_in : List ℕ → Kind
kind_in text =
    cond (has text 0 104) (cond (has text 2 108) (halt_in (drop 7 text)) (handler_in text))
    (cond (has text 0 102) (fault_in (drop 6 text))
    (cond (has text 0 114) kind.Rule
    (cond (has text 0 115) kind.Stack
    (cond (has text 0 111) kind.Output
    (cond (has text 1 97) kind.Tainted kind.Ticks)))))

kind_again : (k : Kind) → HasNumbers k → kind_in (kind_text k []) ≡ k
kind_again (kind.Halted (reason.Break k) n) small = halt_again (reason.Break k) n small.0 small.1
kind_again (kind.Halted (reason.Exit r) n) small = halt_again (reason.Exit r) n small.0 small.1
kind_again (kind.Fault w k) small = fault_again w k
kind_again (kind.Register name) small = ap kind_in (slot_behind name (codes "handler register ")) ∙ ap kind.Register (slot_again name small)
kind_again k small = refl

-- ---- names

-- a space in place of a minus
abbrev apart : ℕ → ℕ
apart c = cond (nat_eq c 45) 32 c

byte_again : (c : ℕ) → nat_eq c 45 ≡ false → apart (joined c) ≡ c
byte_again c none = grind (arith, nat_tests)

words_again : (text : List ℕ) → are_words text ≡ true → map apart (map joined text) ≡ text
words_again [] h = refl
words_again (c ∷ cs) h =
    let parts = and_parts (is_worded c) (are_words cs) h in
    let other : nat_eq c 45 ≡ false = not-true (nat_eq c 45) (and_parts (nat_lt c 128) (not (nat_eq c 45)) parts.0).1 in
    λ j. byte_again c other j ∷ words_again cs parts.1 j

name_again : (k : Kind) → HasNumbers k → kind_in (map apart (kind_name k)) ≡ k
name_again k small = ap kind_in (words_again (kind_text k []) (kind_words k)) ∙ kind_again k small

-- TWO KINDS OF ONE NAME are one
pub names_apart : (k l : Kind) → HasNumbers k → HasNumbers l → kind_name k ≡ kind_name l → k ≡ l
names_apart k l small few e = sym (name_again k small) ∙ ap (λ (text : List ℕ). kind_in (map apart text)) e ∙ name_again l few
