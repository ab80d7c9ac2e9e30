-- Lines of records: what reading makes of them, and what it tells of them.
use Rattle.std.proofs.Common.{◌≡◌, ◌⊎◌, ℕ, ◌+◌, ◌*◌, ◌/◌, ◌%◌, ◌<◌, ◌≤◌, Bool, true, false, eqb, leb, cond, List, [], ◌∷◌, ◌++◌, get_or, length, length-take}
use Rattle.std.proofs.Common.{take, Option, Some, None, option_map, refl, sym, ap, subst, ◌∙◌, inl, inr, arith}
use Rattle.std.specs.Prelude.{◌&&◌, option_and_then}
use Rattle.std.proofs.lemmas.Bool.{and_parts, cases_Bool, eqb-true, eq-eqb, leb-true, le-leb}
use Rattle.std.proofs.lemmas.Bool.Decides.{nat_tests}
use Rattle.std.proofs.lemmas.List.{drop_all, drop_more, nil_from_length, take-append-drop}
use Rattle.hm_text_base.proofs.Steps.{and_then_some, test_some}
use Rattle.hm_ihex.specs.HexFile.{AreDigits, IsDigit, IsRecord, IsRecordLine, Says}
use Rattle.hm_ihex.specs.Records.{Record, byte_in, bytes_in, data_at, digit_in, end, line_in, new_base, pair_of, record_in, record_of, start, sum_of}
use Rattle.hm_ihex.proofs.Again.{bytes_nil, bytes_next, record_is}

-- ---- digits

digit_read : (c d : ℕ) → IsDigit c d → digit_in c ≡ Some d
digit_read c d h = grind (arith, nat_tests)

digit_told : (c d : ℕ) → digit_in c ≡ Some d → IsDigit c d
digit_told c d e = grind (arith, nat_tests)

abbrev byte_of : Option ℕ → Option ℕ → Option ℕ
byte_of high low = option_and_then (λ (h : ℕ). option_map (λ (l : ℕ). 16 * h + l) low) high

abbrev byte_and_more : Option ℕ → Option (List ℕ) → Option (List ℕ)
byte_and_more byte more = option_and_then (λ (b : ℕ). option_map (λ (bs : List ℕ). b ∷ bs) more) byte

byte_read : (h l b : ℕ) → IsDigit h (b / 16) → IsDigit l (b % 16) → byte_in h l ≡ Some b
byte_read h l b high low =
    ap (λ (o : Option ℕ). byte_of o (digit_in l)) (digit_read h (b / 16) high)
    ∙ ap (λ (o : Option ℕ). byte_of (Some (b / 16)) o) (digit_read l (b % 16) low)
    ∙ ap (λ (k : ℕ). Some k) (let e : 16 * (b / 16) + b % 16 ≡ b = omega arith in e)

bytes_read : (digits bytes : List ℕ) → AreDigits digits bytes → bytes_in digits ≡ Some bytes
bytes_read [] [] h = bytes_nil
bytes_read [] (b ∷ bytes) h = absurd h
bytes_read (c ∷ []) [] h = absurd h
bytes_read (c ∷ []) (b ∷ bytes) h = absurd h
bytes_read (c ∷ d ∷ digits) [] h = absurd h
bytes_read (c ∷ d ∷ digits) (b ∷ bytes) h =
    bytes_next c d digits
    ∙ ap (λ (o : Option ℕ). byte_and_more o (bytes_in digits)) (byte_read c d b h.0 h.1)
    ∙ ap (λ (o : Option (List ℕ)). byte_and_more (Some b) o) (bytes_read digits bytes h.2)

-- what two digits and the bytes behind them are, where they are some
record Parts (h l : Option ℕ) (o : Option (List ℕ)) (bytes : List ℕ) : Type 0 where
  high : ℕ
  low : ℕ
  more : List ℕ
  is_high : h ≡ Some high
  is_low : l ≡ Some low
  is_more : o ≡ Some more
  whole : (16 * high + low) ∷ more ≡ bytes

parts : (h l : Option ℕ) (o : Option (List ℕ)) (bytes : List ℕ) → byte_and_more (byte_of h l) o ≡ Some bytes → Parts h l o bytes
parts None l o bytes e = absurd cc
parts (Some h) None o bytes e = absurd cc
parts (Some h) (Some l) None bytes e = absurd cc
parts (Some h) (Some l) (Some bs) bytes e = record { high = h; low = l; more = bs; is_high = refl; is_low = refl; is_more = refl; whole = cc }

below_16 : (c d : ℕ) → IsDigit c d → d < 16
below_16 c d h = grind arith

bytes_told : (digits bytes : List ℕ) → bytes_in digits ≡ Some bytes → AreDigits digits bytes
unfolding bytes_in
bytes_told [] [] e = tt
bytes_told [] (b ∷ bytes) e = absurd cc
bytes_told (c ∷ []) bytes e = absurd cc
bytes_told (c ∷ d ∷ digits) bytes e =
    let p = parts (digit_in c) (digit_in d) (bytes_in digits) bytes e in
    let high = digit_told c p.high p.is_high in
    let low = digit_told d p.low p.is_low in
    let few : p.high < 16 = below_16 c p.high high in
    let less : p.low < 16 = below_16 d p.low low in
    let first : (16 * p.high + p.low) / 16 ≡ p.high = omega arith in
    let last : (16 * p.high + p.low) % 16 ≡ p.low = omega arith in
    subst (AreDigits (c ∷ d ∷ digits)) p.whole (subst (IsDigit c) (sym first) high, subst (IsDigit d) (sym last) low, bytes_told digits p.more p.is_more)

-- ---- records

said_read : (kind offset : ℕ) (content : List ℕ) (said : Record) → Says kind offset content said → record_of kind offset content ≡ Some said
said_read kind offset content (data_at at bytes) h = rw (h.0, h.1, h.2, le-leb (at + length bytes) 65536 h.3) refl
said_read kind offset content end h = rw (h.0, h.1) refl
said_read kind offset content (new_base base) (two, inl h) = rw (h.0, eq-eqb (length content) 2 two, h.1) refl
said_read kind offset content (new_base base) (two, inr h) = rw (h.0, eq-eqb (length content) 2 two, h.1) refl
said_read kind offset content start (four, inl h) = rw (h, eq-eqb (length content) 4 four) refl
said_read kind offset content start (four, inr h) = rw (h, eq-eqb (length content) 4 four) refl

record_read : (bytes : List ℕ) (said : Record) → IsRecord bytes said → record_in bytes ≡ Some said
record_read bytes said h =
    let zero_sum = ap (λ (b : List ℕ). sum_of b % 256) (sym h.form) ∙ h.sum in
    ap record_in h.form ∙ record_is h.high h.low h.kind h.check h.content zero_sum ∙ said_read h.kind (256 * h.high + h.low) h.content said h.says

-- a choice that gave something was made
chosen : (t : Bool) (r said : Record) → cond t (Some r) None ≡ Some said → (t ≡ true) × (r ≡ said)
chosen true r said e = (refl, cc)
chosen false r said e = absurd cc

abbrev Told : ℕ → ℕ → List ℕ → Record → Type 0
Told kind offset content said = record_of kind offset content ≡ Some said → Says kind offset content said

told_data : (kind offset : ℕ) (content : List ℕ) (said : Record) → kind ≡ 0 → Told kind offset content said
told_data kind offset content said is e =
    let c = chosen (leb (offset + length content) 65536) (data_at offset content) said (ap (λ (k : ℕ). record_of k offset content) (sym is) ∙ e) in
    subst (Says kind offset content) c.1 (is, refl, refl, leb-true (offset + length content) 65536 c.0)

told_end : (kind offset : ℕ) (content : List ℕ) (said : Record) → kind ≡ 1 → Told kind offset content said
told_end kind offset content said is e =
    let c = chosen (eqb (length content) 0) end said (ap (λ (k : ℕ). record_of k offset content) (sym is) ∙ e) in
    subst (Says kind offset content) c.1 (is, nil_from_length content (eqb-true (length content) 0 c.0))

told_segment : (kind offset : ℕ) (content : List ℕ) (said : Record) → kind ≡ 2 → Told kind offset content said
told_segment kind offset content said is e =
    let c = chosen (eqb (length content) 2) (new_base (16 * pair_of content)) said (ap (λ (k : ℕ). record_of k offset content) (sym is) ∙ e) in
    subst (Says kind offset content) c.1 (eqb-true (length content) 2 c.0, inl (is, refl))

told_linear : (kind offset : ℕ) (content : List ℕ) (said : Record) → kind ≡ 4 → Told kind offset content said
told_linear kind offset content said is e =
    let c = chosen (eqb (length content) 2) (new_base (65536 * pair_of content)) said (ap (λ (k : ℕ). record_of k offset content) (sym is) ∙ e) in
    subst (Says kind offset content) c.1 (eqb-true (length content) 2 c.0, inr (is, refl))

told_start : (kind offset : ℕ) (content : List ℕ) (said : Record) → (kind ≡ 3) ⊎ (kind ≡ 5) → Told kind offset content said
told_start kind offset content said (inl is) e =
    let c = chosen (eqb (length content) 4) start said (ap (λ (k : ℕ). record_of k offset content) (sym is) ∙ e) in
    subst (Says kind offset content) c.1 (eqb-true (length content) 4 c.0, inl is)
told_start kind offset content said (inr is) e =
    let c = chosen (eqb (length content) 4) start said (ap (λ (k : ℕ). record_of k offset content) (sym is) ∙ e) in
    subst (Says kind offset content) c.1 (eqb-true (length content) 4 c.0, inr is)

no_other : (kind offset : ℕ) (content : List ℕ) → eqb kind 0 ≡ false → eqb kind 1 ≡ false → eqb kind 2 ≡ false → eqb kind 4 ≡ false → eqb kind 3 ≡ false
    → eqb kind 5 ≡ false → record_of kind offset content ≡ None
no_other kind offset content a b c d e f = rw (a, b, c, d, e, f) refl

said_told : (kind offset : ℕ) (content : List ℕ) (said : Record) → Told kind offset content said
said_told kind offset content said e = elim (cases_Bool (eqb kind 0)) [
  | inl is ↦ told_data kind offset content said (eqb-true kind 0 is) e
  | inr n0 ↦ elim (cases_Bool (eqb kind 1)) [
    | inl is ↦ told_end kind offset content said (eqb-true kind 1 is) e
    | inr n1 ↦ elim (cases_Bool (eqb kind 2)) [
      | inl is ↦ told_segment kind offset content said (eqb-true kind 2 is) e
      | inr n2 ↦ elim (cases_Bool (eqb kind 4)) [
        | inl is ↦ told_linear kind offset content said (eqb-true kind 4 is) e
        | inr n4 ↦ elim (cases_Bool (eqb kind 3)) [
          | inl is ↦ told_start kind offset content said (inl (eqb-true kind 3 is)) e
          | inr n3 ↦ elim (cases_Bool (eqb kind 5)) [
            | inl is ↦ told_start kind offset content said (inr (eqb-true kind 5 is)) e
            | inr n5 ↦ let none = no_other kind offset content n0 n1 n2 n4 n3 n5 in absurd cc
          ]
        ]
      ]
    ]
  ]
]

pub length_taken : (n : ℕ) (bytes : List ℕ) → n ≤ length bytes → length (take n bytes) ≡ n
length_taken n bytes le = simp length-take (omega arith)

-- the content and the check byte
pub last_is : (len : ℕ) (rest : List ℕ) → length rest ≡ len + 1 → rest ≡ take len rest ++ get_or rest len 0 ∷ []
last_is len rest is =
    sym (take-append-drop len rest)
    ∙ ap (λ (x : List ℕ). take len rest ++ x)
    (drop_more rest len 0 (omega arith) ∙ ap (λ (x : List ℕ). get_or rest len 0 ∷ x) (drop_all (len + 1) rest (omega arith)))

record_told : (bytes : List ℕ) (said : Record) → record_in bytes ≡ Some said → IsRecord bytes said
record_told [] said e = absurd cc
record_told (len ∷ []) said e = absurd cc
record_told (len ∷ high ∷ []) said e = absurd cc
record_told (len ∷ high ∷ low ∷ []) said e = absurd cc
record_told (len ∷ high ∷ low ∷ kind ∷ rest) said e =
    let counted = eqb (length rest) (len + 1) in
    let summed = eqb (sum_of (len ∷ high ∷ low ∷ kind ∷ rest) % 256) 0 in
    let p = test_some (counted && summed) (record_of kind (256 * high + low) (take len rest)) said e in
    let both = and_parts counted summed p.0 in
    let count : length rest ≡ len + 1 = eqb-true (length rest) (len + 1) both.0 in
    let taken : length (take len rest) ≡ len = length_taken len rest (omega arith) in
    record {
      high = high;
      low = low;
      kind = kind;
      content = take len rest;
      check = get_or rest len 0;
      form = (λ i. sym taken i ∷ high ∷ low ∷ kind ∷ last_is len rest count i);
      sum = eqb-true (sum_of (len ∷ high ∷ low ∷ kind ∷ rest) % 256) 0 both.1;
      says = said_told kind (256 * high + low) (take len rest) said p.1;
    }

pub line_read : (line : List ℕ) (said : Record) → IsRecordLine line said → line_in line ≡ Some said
line_read line said h = ap line_in h.2 ∙ ap (option_and_then record_in) (bytes_read h.0 h.1 h.3) ∙ record_read h.1 said h.4

pub line_told : (line : List ℕ) (said : Record) → line_in line ≡ Some said → IsRecordLine line said
line_told [] said e = absurd cc
line_told (c ∷ digits) said e =
    let p = test_some (eqb c 58) (option_and_then record_in (bytes_in digits)) said e in
    let b = and_then_some (bytes_in digits) record_in said p.1 in
    (digits, b.0, ap (λ (x : ℕ). x ∷ digits) (eqb-true c 58 p.0), bytes_told digits b.0 b.1, record_told b.0 said b.2)
