-- THE TEXT OF A KIND is ASCII, and has no minus; its name is ASCII.
use Rattle.std.proofs.Common.{◌≡◌, ℕ, zero, suc, ◌+◌, ◌/◌, ◌%◌, ◌<◌, ◌^◌, ◌==◌, ◌&&◌, Bool, true, false, cond, nat_eq, nat_lt, not, List, [], ◌∷◌, codes}
use Rattle.std.proofs.Common.{arith, decimal, refl}
use Rattle.std.proofs.lemmas.Bool.{and_parts}
use Rattle.std.proofs.lemmas.Bool.Decides.{nat_tests}
use Rattle.std.proofs.lemmas.Str.Ascii.{IsAscii-map}
use Rattle.std.specs.Fmt.{digit_glyph, digits, digits_onto}
use Rattle.std.specs.Str.{IsAscii}
use Rattle.hm_base.specs.declared.FaultKind.{FaultKind}
use Rattle.hm_base.specs.declared.Place.{Place}
use Rattle.hm_base.specs.declared.Place.TheVariants as place
use Rattle.hm_exc.specs.declared.types.Slot.{Slot}
use Rattle.hm_exc.specs.declared.types.Slot.TheVariants as slot
use Rattle.hm_report_lines.proofs.Bytes.{AreAll, adds, appended, are_all, is_ascii, told}
use Rattle.hm_run.specs.Report.{kind_text as fault_text, place_text, reason_text, register_text, slot_text, who_text}
use Rattle.hm_run.specs.declared.Reason.{Reason}
use Rattle.hm_run.specs.declared.Reason.TheVariants as reason
use Rattle.hm_run.specs.declared.Who.{Who}
use Rattle.hm_shake.specs.Kinds.{joined, kind_name, kind_text}
use Rattle.hm_shake_runs.specs.declared.kinds.Kind.{Kind}
use Rattle.hm_shake_runs.specs.declared.kinds.Kind.TheVariants as kind
use Rattle.hm_text_base.specs.Texts.{separator, hex8, hex_digit}

-- a byte that is ASCII and no minus
abbrev pub is_worded : ℕ → Bool
is_worded x = nat_lt x 128 && not (nat_eq x 45)

-- words, without a minus
abbrev pub are_words : List ℕ → Bool
are_words text = are_all is_worded text

words_low : (bytes : List ℕ) → are_words bytes ≡ true → is_ascii bytes ≡ true
words_low [] h = refl
words_low (x ∷ xs) h =
    let parts = and_parts (is_worded x) (are_words xs) h in
    let low = and_parts (nat_lt x 128) (not (nat_eq x 45)) parts.0 in
    rw low.0 (words_low xs parts.1)

-- ---- numbers

digit : (d : ℕ) → d < 16 → is_worded (cond (nat_lt d 10) (48 + d) (87 + d)) ≡ true
digit d small = grind (arith, nat_tests)

figure : (n : ℕ) → is_worded (hex_digit (n % 16)) ≡ true
figure n = digit (n % 16) (omega arith)

hex8_words : (x : ℕ) → are_words (hex8 x) ≡ true
hex8_words x = rw (
  figure (x / 2 ^ 28),
  figure (x / 2 ^ 24),
  figure (x / 2 ^ 20),
  figure (x / 2 ^ 16),
  figure (x / 2 ^ 12),
  figure (x / 2 ^ 8),
  figure (x / 2 ^ 4),
  figure x,
) refl

in_front : (x : ℕ) (xs : List ℕ) → is_worded x ≡ true → are_words xs ≡ true → are_words (x ∷ xs) ≡ true
in_front x xs one h = rw one h

one_of : (b : Bool) (xs ys : List ℕ) → are_words xs ≡ true → are_words ys ≡ true → are_words (cond b xs ys) ≡ true
one_of true xs ys h k = h
one_of false xs ys h k = k

digits_are : (k n : ℕ) (behind : List ℕ) → are_words behind ≡ true → are_words (digits_onto k 10 false n behind) ≡ true
digits_are zero n behind h = h
digits_are (suc k) n behind h =
    let more = in_front (digit_glyph false (n % 10)) behind (digit (n % 10) (omega arith)) h in
    one_of (n / 10 == 0) _ _ more (digits_are k (n / 10) (digit_glyph false (n % 10) ∷ behind) more)

decimal_words : (n : ℕ) → are_words (decimal n) ≡ true
unfolding digits
decimal_words n = digits_are 64 n [] refl

-- ---- parts

-- words stay words with such parts behind them
with_parts : (out : List ℕ) (parts : List (List ℕ)) → are_words out ≡ true → AreAll is_worded parts → are_words (appended out parts) ≡ true
with_parts out parts h all = adds is_worded out parts h all

reason_is : (r : Reason) (out : List ℕ) → are_words out ≡ true → are_words (reason_text r out) ≡ true
reason_is (reason.Break k) out h = with_parts out (codes "break " ∷ decimal k ∷ []) h (refl, (decimal_words k, tt))
reason_is (reason.Exit r) out h = with_parts out (codes "exit " ∷ hex8 r ∷ []) h (refl, (hex8_words r, tt))

fault_is : (k : FaultKind) → are_words (fault_text k) ≡ true
fault_is k = grind arith

who_is : (w : Who) → are_words (who_text w) ≡ true
who_is w = grind arith

register_is : (n : ℕ) (out : List ℕ) → are_words out ≡ true → are_words (register_text n out) ≡ true
register_is n out h =
    one_of (nat_eq n 13) _ _ (with_parts out (codes "sp" ∷ []) h (refl, tt))
    (one_of (nat_eq n 14) _ _ (with_parts out (codes "lr" ∷ []) h (refl, tt))
    (with_parts out (codes "r" ∷ decimal n ∷ []) h (refl, (decimal_words n, tt))))

place_is : (p : Place) (out : List ℕ) → are_words out ≡ true → are_words (place_text p out) ≡ true
place_is (place.R n) out h = register_is n out h
place_is (place.QWord k) out h =
    with_parts out (codes "q" ∷ decimal (k / 4) ∷ codes "." ∷ decimal (k % 4) ∷ []) h (refl, (decimal_words (k / 4), (refl, (decimal_words (k % 4), tt))))
place_is (place.P0 b) out h = with_parts out (codes "p0." ∷ decimal b ∷ []) h (refl, (decimal_words b, tt))
place_is place.Mask01 out h = with_parts out (codes "mask01" ∷ []) h (refl, tt)
place_is place.Mask23 out h = with_parts out (codes "mask23" ∷ []) h (refl, tt)
place_is place.Carry out h = with_parts out (codes "carry" ∷ []) h (refl, tt)
place_is place.Ltp out h = with_parts out (codes "ltpsize" ∷ []) h (refl, tt)
place_is place.Sticky out h = with_parts out (codes "qc" ∷ []) h (refl, tt)

slot_is : (s : Slot) (out : List ℕ) → are_words out ≡ true → are_words (slot_text s out) ≡ true
slot_is (slot.Reg p) out h = place_is p out h
slot_is slot.Primask out h = with_parts out (codes "primask" ∷ []) h (refl, tt)
slot_is slot.Psp out h = with_parts out (codes "psp" ∷ []) h (refl, tt)
slot_is slot.Basepri out h = with_parts out (codes "basepri" ∷ []) h (refl, tt)

pub kind_words : (k : Kind) → are_words (kind_text k []) ≡ true
kind_words (kind.Halted reason n) =
    with_parts (reason_text reason (codes "halted ")) (codes " after " ∷ decimal n ∷ []) (reason_is reason (codes "halted ") refl)
    (refl, (decimal_words n, tt))
kind_words (kind.Fault w k) = with_parts [] (codes "fault " ∷ who_text w ∷ separator ∷ fault_text k ∷ []) refl (refl, (who_is w, (refl, (fault_is k, tt))))
kind_words (kind.Register name) = slot_is name (codes "handler register ") refl
kind_words k = refl

joined_below : (c : ℕ) → c < 128 → joined c < 128
joined_below c h = grind (arith, nat_tests)

-- and so is its name
pub name_is_ascii : (k : Kind) → IsAscii (kind_name k)
name_is_ascii k = IsAscii-map joined (kind_text k []) joined_below (told (kind_text k []) (words_low (kind_text k []) (kind_words k)))
