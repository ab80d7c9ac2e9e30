-- Written records read again.
use Rattle.std.proofs.Common.{◌≡◌, ◌≢◌, ℕ, zero, suc, ◌+◌, ◌-◌, ◌*◌, ◌/◌, ◌%◌, ◌<◌, ◌≤◌, Bool, true, false, eqb, ltb, cond, List, [], ◌∷◌, ◌++◌, length}
use Rattle.std.proofs.Common.{length-append, get_or, map, Option, Some, option_map, refl, ap, ◌∙◌, inl, inr, arith}
use Rattle.std.specs.Prelude.{option_and_then}
use Rattle.std.specs.List.{AllByRecursion, flat_map}
use Rattle.std.proofs.Math.Seq.{take-append_seam}
use Rattle.std.proofs.lemmas.Bool.{and_from, cases_Bool, eq-eqb, ne_eqb, ltb-true, ltb-false, le-leb, lt-leb}
use Rattle.hm_base.specs.Image.{Segment}
use Rattle.hm_text_base.specs.Spans.{Lacks, line, lines_of}
use Rattle.hm_text_base.proofs.LineLaws.{lines_again}
use Rattle.hm_ihex.specs.Files.{all_lines, without_return}
use Rattle.hm_ihex.specs.Records.{byte_in, bytes_in, data_at, digit_in, end, line_in, new_base, record_in, record_of, sum_of}
use Rattle.hm_ihex.specs.Written.{base_text, check_of, data_text, digit, digits_of, end_text, lines_of_pieces, record_text}
use Rattle.hm_ihex.proofs.WrittenLines.{sum_append}

-- ---- the lines

-- no byte of a line is below the digit 0, so none is an LF or a CR
abbrev pub Shown : List ℕ → Type 0
Shown text = AllByRecursion (λ c. 48 ≤ c) text

digit_shown : (d : ℕ) → 48 ≤ digit d
digit_shown d = elim (cases_Bool (ltb d 10)) [
  | inl e ↦ rw e (omega arith)
  | inr e ↦ rw e (omega arith)
]

digits_shown : (bytes : List ℕ) → Shown (digits_of bytes)
digits_shown [] = tt
digits_shown (b ∷ bs) = (digit_shown (b / 16), (digit_shown (b % 16), digits_shown bs))

record_shown : (bytes : List ℕ) → Shown (record_text bytes)
record_shown bytes = (omega arith, digits_shown (bytes ++ check_of bytes ∷ []))

end_shown : Shown end_text
end_shown = (
  omega arith,
  (
    omega arith,
    (omega arith, (omega arith, (omega arith, (omega arith, (omega arith, (omega arith, (omega arith, (omega arith, (omega arith, tt))))))))),
  ),
)

pub lines_shown : (upper : ℕ) (ps : List Segment) → AllByRecursion Shown (lines_of_pieces upper ps)
lines_shown upper [] = (end_shown, tt)
lines_shown upper (p ∷ ps) =
    let rest : AllByRecursion Shown (data_text (p.addr % 65536) p.bytes ∷ lines_of_pieces (p.addr / 65536) ps)
    = (record_shown (length p.bytes ∷ p.addr % 65536 / 256 ∷ p.addr % 65536 % 256 ∷ 0 ∷ p.bytes), lines_shown (p.addr / 65536) ps) in
    elim (eqb (p.addr / 65536) upper) as (λ t. AllByRecursion Shown
    (cond t [] (base_text (p.addr / 65536) ∷ []) ++ data_text (p.addr % 65536) p.bytes ∷ lines_of_pieces (p.addr / 65536) ps)) [
      | true ↦ rest
      | false ↦ (record_shown (2 ∷ 0 ∷ 0 ∷ 4 ∷ p.addr / 65536 / 256 ∷ p.addr / 65536 % 256 ∷ []), rest)
    ]

pub shown_lacks : (text : List ℕ) → Shown text → Lacks 10 text
shown_lacks [] h = tt
shown_lacks (c ∷ cs) h = ((λ e. let low : 48 ≤ c = h.0 in let is : c ≡ 10 = e in absurd (omega arith)), shown_lacks cs h.1)

none_is : (c : ℕ) → c ≡ 0 → c ≢ 13
none_is c is = λ e. absurd (omega arith)

shown_at : (text : List ℕ) (k : ℕ) → Shown text → get_or text k 0 ≢ 13
shown_at [] k h = none_is 0 refl
shown_at (c ∷ cs) zero h = λ e. let low : 48 ≤ c = h.0 in let is : c ≡ 13 = e in absurd (omega arith)
shown_at (c ∷ cs) (suc k) h = shown_at cs k h.1

pub shown_whole : (text : List ℕ) → Shown text → without_return text ≡ text
shown_whole text h = rw (ne_eqb (get_or text (length text - 1) 0) 13 (shown_at text (length text - 1) h)) refl

all_lack : (ls : List (List ℕ)) → AllByRecursion Shown ls → AllByRecursion (Lacks 10) ls
all_lack [] h = tt
all_lack (l ∷ ls) h = (shown_lacks l h.0, all_lack ls h.1)

all_whole : (ls : List (List ℕ)) → AllByRecursion Shown ls → map without_return ls ≡ ls
all_whole [] h = refl
all_whole (l ∷ ls) h = ap (λ (x : List ℕ). x ∷ map without_return ls) (shown_whole l h.0) ∙ ap (λ (xs : List (List ℕ)). l ∷ xs) (all_whole ls h.1)

pub shown_again : (ls : List (List ℕ)) → AllByRecursion Shown ls → all_lines (lines_of (flat_map line ls)) ≡ ls
shown_again ls h = ap all_lines (lines_again ls (all_lack ls h)) ∙ all_whole ls h

-- ---- the records

low_again : (d : ℕ) → d < 10 → digit_in (48 + d) ≡ Some d
low_again d lt = rw (le-leb 48 (48 + d) (omega arith), le-leb (48 + d) 57 (omega arith)) (ap (λ (k : ℕ). Some k) (omega arith))

high_again : (d : ℕ) → 10 ≤ d → d < 16 → digit_in (55 + d) ≡ Some d
high_again d le lt = rw (le-leb 48 (55 + d) (omega arith), lt-leb (55 + d) 57 (omega arith), le-leb 65 (55 + d) (omega arith), le-leb (55 + d) 70 (omega arith))
    (ap (λ (k : ℕ). Some k) (omega arith))

digit_again : (d : ℕ) → d < 16 → digit_in (digit d) ≡ Some d
digit_again d lt = elim (cases_Bool (ltb d 10)) [
  | inl e ↦ ap (λ (t : Bool). digit_in (cond t (48 + d) (55 + d))) e ∙ low_again d (ltb-true d 10 e)
  | inr e ↦ ap (λ (t : Bool). digit_in (cond t (48 + d) (55 + d))) e ∙ high_again d (ltb-false d 10 e) lt
]

byte_again : (b : ℕ) → b < 256 → byte_in (digit (b / 16)) (digit (b % 16)) ≡ Some b
byte_again b lt =
    ap (λ (o : Option ℕ). option_and_then (λ (h : ℕ). option_map (λ (l : ℕ). 16 * h + l) (digit_in (digit (b % 16)))) o) (digit_again (b / 16) (omega arith))
    ∙ ap (λ (o : Option ℕ). option_map (λ (l : ℕ). 16 * (b / 16) + l) o) (digit_again (b % 16) (omega arith))
    ∙ ap (λ (k : ℕ). Some k) (let e : 16 * (b / 16) + b % 16 ≡ b = omega arith in e)

abbrev pub Bytes : List ℕ → Type 0
Bytes bytes = AllByRecursion (λ b. b < 256) bytes

pub bytes_next : (c d : ℕ) (cs : List ℕ) → bytes_in (c ∷ d ∷ cs) ≡ option_and_then (λ (b : ℕ). option_map (λ (bs : List ℕ). b ∷ bs) (bytes_in cs)) (byte_in c d)
unfolding bytes_in
bytes_next c d cs = refl

pub bytes_nil : bytes_in [] ≡ Some []
unfolding bytes_in
bytes_nil = refl

bytes_again : (bytes : List ℕ) → Bytes bytes → bytes_in (digits_of bytes) ≡ Some bytes
bytes_again [] h = bytes_nil
bytes_again (b ∷ bs) h =
    bytes_next (digit (b / 16)) (digit (b % 16)) (digits_of bs)
    ∙ ap (λ (o : Option ℕ). option_and_then (λ (x : ℕ). option_map (λ (xs : List ℕ). x ∷ xs) (bytes_in (digits_of bs))) o) (byte_again b h.0)
    ∙ ap (λ (o : Option (List ℕ)). option_map (λ (xs : List ℕ). b ∷ xs) o) (bytes_again bs h.1)

bytes_and : (xs ys : List ℕ) → Bytes xs → Bytes ys → Bytes (xs ++ ys)
bytes_and [] ys h more = more
bytes_and (x ∷ xs) ys h more = (h.0, bytes_and xs ys h.1 more)

check_below : (bytes : List ℕ) → check_of bytes < 256
check_below bytes = omega arith

record_again : (bytes : List ℕ) → Bytes bytes → line_in (record_text bytes) ≡ record_in (bytes ++ check_of bytes ∷ [])
record_again bytes h = ap (option_and_then record_in)
    (bytes_again (bytes ++ check_of bytes ∷ []) (bytes_and bytes (check_of bytes ∷ []) h (check_below bytes, tt)))

sum_one : (b : ℕ) → sum_of (b ∷ []) ≡ b
unfolding sum_of
sum_one b = omega arith

check_sum : (bytes : List ℕ) → sum_of (bytes ++ check_of bytes ∷ []) % 256 ≡ 0
check_sum bytes =
    let whole : sum_of (bytes ++ check_of bytes ∷ []) ≡ sum_of bytes + sum_of (check_of bytes ∷ []) = sum_append bytes (check_of bytes ∷ []) in
    let one : sum_of (check_of bytes ∷ []) ≡ (256 - sum_of bytes % 256) % 256 = sum_one (check_of bytes) in
    omega arith

-- the record of a head and of bytes whose number it gives
pub record_is : (high low kind check : ℕ) (bytes : List ℕ) → sum_of (length bytes ∷ high ∷ low ∷ kind ∷ (bytes ++ check ∷ [])) % 256 ≡ 0
    → record_in (length bytes ∷ high ∷ low ∷ kind ∷ (bytes ++ check ∷ [])) ≡ record_of kind (256 * high + low) bytes
record_is high low kind check bytes zero_sum =
    let count : length (bytes ++ check ∷ []) ≡ length bytes + 1 = length-append bytes (check ∷ []) in
    let test = and_from (eqb (length (bytes ++ check ∷ [])) (length bytes + 1))
    (eqb (sum_of (length bytes ∷ high ∷ low ∷ kind ∷ (bytes ++ check ∷ [])) % 256) 0) (eq-eqb (length (bytes ++ check ∷ [])) (length bytes + 1) count)
    (eq-eqb (sum_of (length bytes ∷ high ∷ low ∷ kind ∷ (bytes ++ check ∷ [])) % 256) 0 zero_sum) in
    rw (test, take-append_seam bytes (check ∷ [])) refl

data_is : (offset : ℕ) (bytes : List ℕ) → offset + length bytes ≤ 65536 → record_of 0 offset bytes ≡ Some (data_at offset bytes)
data_is offset bytes le = rw (le-leb (offset + length bytes) 65536 le) refl

pub data_again : (offset : ℕ) (bytes : List ℕ) → Bytes bytes → length bytes < 256 → offset < 65536 → offset + length bytes ≤ 65536
    → line_in (data_text offset bytes) ≡ Some (data_at offset bytes)
data_again offset bytes h few lt le =
    let head = length bytes ∷ offset / 256 ∷ offset % 256 ∷ 0 ∷ bytes in
    record_again head (few, (omega arith, (omega arith, (omega arith, h))))
    ∙ record_is (offset / 256) (offset % 256) 0 (check_of head) bytes (check_sum head)
    ∙ ap (λ (o : ℕ). record_of 0 o bytes) (let e : 256 * (offset / 256) + offset % 256 ≡ offset = omega arith in e)
    ∙ data_is offset bytes le

pub base_again : (upper : ℕ) → upper < 65536 → line_in (base_text upper) ≡ Some (new_base (65536 * upper))
base_again upper lt =
    let bytes = upper / 256 ∷ upper % 256 ∷ [] in
    let head = 2 ∷ 0 ∷ 0 ∷ 4 ∷ bytes in
    record_again head (omega arith, (omega arith, (omega arith, (omega arith, (omega arith, (omega arith, tt))))))
    ∙ record_is 0 0 4 (check_of head) bytes (check_sum head)
    ∙ ap (λ (k : ℕ). Some (new_base (65536 * k))) (let e : 256 * (upper / 256) + upper % 256 ≡ upper = omega arith in e)

pub end_again : line_in end_text ≡ Some end
unfolding bytes_in sum_of
end_again = refl
