-- What lines give is one thing, each piece has its size and its room.
use Rattle.std.proofs.Common.{◌≡◌, ◌⊎◌, ℕ, zero, suc, ◌+◌, ◌*◌, ◌^◌, ◌<◌, ◌≤◌, Bool, false, cond, List, [], ◌∷◌, ◌++◌, length, refl, sym, ap, subst, ◌∙◌, inl}
use Rattle.std.proofs.Common.{inr, arith}
use Rattle.std.proofs.lemmas.List.{length-append, length-replicate}
use Rattle.hm_base.specs.Image.{Segment}
use Rattle.hm_code_bytes.specs.Bytes.{code_bytes}
use Rattle.hm_code_bytes.proofs.Bytes.{length_halves}
use Rattle.hm_isa.specs.Code.{halfwords}
use Rattle.hm_line.specs.Columns.{ArePassed, IsOperand, is_between, is_inside}
use Rattle.hm_line.specs.Forms.{Spaced, kinds}
use Rattle.hm_line.specs.Labels.{LabelMap}
use Rattle.hm_line.specs.Texts.{AreTokens, column}
use Rattle.hm_line.specs.declared.errors.AsmKind.{AsmKind}
use Rattle.hm_line.specs.declared.errors.AsmKind.TheVariants as asm_kinds
use Rattle.hm_text_base.proofs.Steps.{some_is}
use Rattle.hm_tokens.specs.Tokens.{skip}
use Rattle.hm_source.specs.declared.values.DatumSize.{DatumSize}
use Rattle.hm_source.specs.Directives.{Datum, Directed, org, align, space, values, bytes_each}
use Rattle.hm_source.specs.Lines.{name_of, text_of, text_column, shifted}
use Rattle.hm_source.specs.Places.{HasPlace, HasRoom, next_place, padding, size_asked, size_of}
use Rattle.hm_source.specs.Statements.{Said, nothing, instruction, directive, Says}
use Rattle.hm_text_tables.proofs.Once.{late_refusal, not_refused, one_instruction, one_refusal, one_width, some_width}
use Rattle.hm_text_tables.proofs.Printing.{width_is}
use Rattle.hm_asm.specs.FirstPass.{AreFine, with_name}
use Rattle.hm_asm.specs.SecondPass.{AreAsked, AreBytes, AreGiven, AreValues, IsFirstMissing, IsListRefused, IsNextRefused, IsOperandColumn, IsSaidRefused}
use Rattle.hm_asm.specs.SecondPass.{Naming, low_bytes}
use Rattle.hm_asm.proofs.Joined.{AreRising}
use Rattle.hm_asm.proofs.Said.{one_said, says_width}

-- SIZES

pub low_length : (s : DatumSize) (n : ℕ) → length (low_bytes (bytes_each s) n) ≡ bytes_each s
low_length s n = grind arith

values_length : (labels : Naming) (s : DatumSize) (ds : List Datum) (bs : List ℕ) → AreValues labels s ds bs → length bs ≡ bytes_each s * length ds
values_length labels s [] bs e = ap length e ∙ (let f : 0 ≡ bytes_each s * 0 = omega arith in f)
values_length labels s (d ∷ ds) bs (n, rest, is, more, e) =
    let tail = values_length labels s ds rest more in
    let low = low_length s n in
    ap length e ∙ (let f : length (low_bytes (bytes_each s) n ++ rest) ≡ bytes_each s * length (d ∷ ds) =
    omega (arith, tail, low, length-append (low_bytes (bytes_each s) n) rest) in f)

asked_length : (labels : Naming) (a : ℕ) (asked : Directed) (bs : List ℕ) → AreAsked labels a asked bs → length bs ≡ size_asked asked a
asked_length labels a (org b) bs e = ap length e
asked_length labels a (align n) bs e = ap length e ∙ length-replicate (padding n a) 0
asked_length labels a (space n) bs e = ap length e ∙ length-replicate n 0
asked_length labels a (values s d ds) bs are = values_length labels s (d ∷ ds) bs are

pub bytes_length : (labels : Naming) (a : ℕ) (text : List ℕ) (said : Said) (bs : List ℕ) → Says text said → AreBytes labels a text said bs
    → length bs ≡ size_of said a
bytes_length labels a text nothing bs says e = ap length e
bytes_length labels a text (instruction n) bs says (i, is, e) =
    ap length e ∙ length_halves (halfwords i) ∙ one_width text (2 * length (halfwords i)) n (width_is text a labels i is) (says_width text n says)
bytes_length labels a text (directive asked) bs says are = asked_length labels a asked bs are

-- ROOM
-- a line has its room, and the next one stands behind it
record Roomed (a n b : ℕ) : Type 0 where
  room : HasRoom a n
  behind : a + n ≤ b

roomed_asked : (asked : Directed) (a : ℕ) → HasPlace (directive asked) a → Roomed a (size_asked asked a) (next_place (directive asked) a)
roomed_asked (org b) a place = record { room = inl refl; behind = omega (arith, place) }
roomed_asked asked a place = record { room = place; behind = omega arith }

roomed : (said : Said) (a : ℕ) → HasPlace said a → Roomed a (size_of said a) (next_place said a)
roomed nothing a place = record { room = place; behind = omega arith }
roomed (instruction n) a place = record { room = place.1; behind = omega arith }
roomed (directive asked) a place = roomed_asked asked a place

lower_rising : (a b : ℕ) (ps : List Segment) → a ≤ b → AreRising b ps → AreRising a ps
lower_rising a b [] h rising = tt
lower_rising a b (p ∷ ps) h rising = (omega (arith, h, rising.0), rising.1, rising.2)

-- the pieces that lines give stand one behind another
pub given_rising : (m : LabelMap) (a : ℕ) (ls : List (List ℕ)) (all : LabelMap) (labels : Naming) (ps : List Segment) → AreFine m a ls all
    → AreGiven labels a ls ps → AreRising a ps
given_rising m a [] all labels [] fine given = tt
given_rising m a [] all labels (p ∷ ps) fine given = absurd cc
given_rising m a (l ∷ ls) all labels [] fine given = absurd given
given_rising m a (l ∷ ls) all labels (p ∷ ps) (said, is, fine) (said', says, at, are, given) =
    let same : said' ≡ said = one_said (text_of l) said' said says is.says in
    let size : length p.bytes ≡ size_of said a = bytes_length labels a (text_of l) said' p.bytes says are ∙ ap (λ (s : Said). size_of s a) same in
    let room = roomed said a is.place in
    let more = given_rising (with_name m (name_of l) a) (next_place said a) ls all labels ps fine
    (subst (λ (s : Said). AreGiven labels (next_place s a) ls ps) same given) in (
      omega (arith, at),
      subst (λ (b : ℕ). HasRoom b (length p.bytes)) (sym at) (subst (λ (n : ℕ). HasRoom a n) (sym size) room.room),
      lower_rising (p.addr + length p.bytes) (next_place said a) ps (let be = room.behind in omega (arith, at, size, be)) more,
    )

-- ONE THING
same_values : (labels : Naming) (s : DatumSize) (ds : List Datum) (bs cs : List ℕ) → AreValues labels s ds bs → AreValues labels s ds cs → bs ≡ cs
same_values labels s [] bs cs e f = e ∙ sym f
same_values labels s (d ∷ ds) bs cs (n, rest, is, more, e) (m, left, also, others, f) =
    let number : n ≡ m = some_is n m (sym is ∙ also) in
    let tail = same_values labels s ds rest left more others in
    e ∙ ap (λ (x : ℕ). low_bytes (bytes_each s) x ++ rest) number ∙ ap (λ (x : List ℕ). low_bytes (bytes_each s) m ++ x) tail ∙ sym f

same_asked : (labels : Naming) (a : ℕ) (asked : Directed) (bs cs : List ℕ) → AreAsked labels a asked bs → AreAsked labels a asked cs → bs ≡ cs
same_asked labels a (values s d ds) bs cs e f = same_values labels s (d ∷ ds) bs cs e f
same_asked labels a asked bs cs e f = e ∙ sym f

-- an instruction stands below 2^32
low_place : (a n : ℕ) → 0 < n → HasRoom a n → a < 2 ^ 32
low_place a n some (inl e) = absurd (omega (arith, some, e))
low_place a n some (inr (inl f)) = omega (arith, f)
low_place a n some (inr (inr s)) = let t = s.1 in omega (arith, t)

same_bytes : (labels : Naming) (a : ℕ) (text : List ℕ) (said : Said) (bs cs : List ℕ) → HasPlace said a → Says text said → AreBytes labels a text said bs
    → AreBytes labels a text said cs → bs ≡ cs
same_bytes labels a text nothing bs cs place says e f = e ∙ sym f
same_bytes labels a text (instruction n) bs cs place says (i, is, e) (j, also, f) =
    let low = low_place a n (some_width text n (says_width text n says)) place.1 in
    e ∙ ap code_bytes (one_instruction text a labels i j low is also) ∙ sym f
same_bytes labels a text (directive asked) bs cs place says e f = same_asked labels a asked bs cs e f

same_piece : (p q : Segment) → p.addr ≡ q.addr → p.bytes ≡ q.bytes → p ≡ q
same_piece p q e f = λ j. record { addr = e j; bytes = f j }

pub one_given : (m : LabelMap) (a : ℕ) (ls : List (List ℕ)) (all : LabelMap) (labels : Naming) (ps qs : List Segment) → AreFine m a ls all
    → AreGiven labels a ls ps → AreGiven labels a ls qs → ps ≡ qs
one_given m a [] all labels ps qs fine e f = e ∙ sym f
one_given m a (l ∷ ls) all labels [] qs fine given also = absurd given
one_given m a (l ∷ ls) all labels (p ∷ ps) [] fine given also = absurd also
one_given m a (l ∷ ls) all labels (p ∷ ps) (q ∷ qs) (said, is, fine) (s, says, at, are, given) (t, tells, there, give, also) =
    let first : s ≡ said = one_said (text_of l) s said says is.says in
    let second : t ≡ said = one_said (text_of l) t said tells is.says in
    let bytes =
    same_bytes labels a (text_of l) said p.bytes q.bytes is.place is.says (subst (λ (x : Said). AreBytes labels a (text_of l) x p.bytes) first are)
    (subst (λ (x : Said). AreBytes labels a (text_of l) x q.bytes) second give) in
    let rest =
    one_given (with_name m (name_of l) a) (next_place said a) ls all labels ps qs fine
    (subst (λ (x : Said). AreGiven labels (next_place x a) ls ps) first given)
    (subst (λ (x : Said). AreGiven labels (next_place x a) ls qs) second also) in
    both (same_piece p q (at ∙ sym there) bytes) rest
  where
    both : p ≡ q → ps ≡ qs → p ∷ ps ≡ q ∷ qs
    both e f = cc

-- REFUSALS
missing_number : (labels : Naming) (s : DatumSize) (ds : List Datum) (bs : List ℕ) (n : ℕ) → AreValues labels s ds bs → IsFirstMissing labels s ds n → ⊥
missing_number labels s [] bs n are is = is
missing_number labels s (d ∷ ds) bs zero (k, rest, there, more, e) is = let f = sym is ∙ there in cc
missing_number labels s (d ∷ ds) bs (suc n) (k, rest, there, more, e) (m, also, is) = missing_number labels s ds rest n more is

one_missing : (labels : Naming) (s : DatumSize) (ds : List Datum) (n m : ℕ) → IsFirstMissing labels s ds n → IsFirstMissing labels s ds m → n ≡ m
one_missing labels s [] n m is also = absurd is
one_missing labels s (d ∷ ds) zero zero is also = refl
one_missing labels s (d ∷ ds) zero (suc m) is (k, there, also) = absurd (let f = sym is ∙ there in cc)
one_missing labels s (d ∷ ds) (suc n) zero (k, there, is) also = absurd (let f = sym also ∙ there in cc)
one_missing labels s (d ∷ ds) (suc n) (suc m) (k, there, is) (j, here, also) = ap suc (one_missing labels s ds n m is also)

-- operands begin at one place
one_end : (n : ℕ) (inside : Bool) (ts us : List Spaced) (text here there : List ℕ) → AreTokens text ts here → AreTokens text us there
    → ArePassed n inside (kinds ts) → ArePassed n inside (kinds us) → here ≡ there
one_end zero inside [] [] text here there are also p q = sym are ∙ also
one_end zero inside [] (u ∷ us) text here there are also p q = absurd cc
one_end zero inside (t ∷ ts) us text here there are also p q = absurd cc
one_end (suc n) inside [] us text here there are also p q = absurd p
one_end (suc n) inside (t ∷ ts) [] text here there are also p q = absurd q
one_end (suc n) inside (t ∷ ts) (u ∷ us) text here there (after, is, are) (left, at, also) p q =
    let both = some_is (t, after) (u, left) (sym is ∙ at) in
    let token : t ≡ u = ap (λ (x : Spaced × List ℕ). x.0) both in
    let rest : after ≡ left = ap (λ (x : Spaced × List ℕ). x.1) both in
    one_end (cond (is_between inside t.1) n (suc n)) (is_inside inside t.1) ts us after here there are
    (subst (λ (x : List ℕ). AreTokens x us there) (sym rest) also) p
    (subst (λ (x : Spaced). ArePassed (cond (is_between inside x.1) n (suc n)) (is_inside inside x.1) (kinds us)) (sym token) q)

one_operand : (text : List ℕ) (n : ℕ) (here there : List ℕ) → IsOperand text n here → IsOperand text n there → here ≡ there
one_operand text n here there (t, ts, (after, is, are), p) (u, us, (left, at, also), q) =
    let both = some_is (t, after) (u, left) (sym is ∙ at) in
    let rest : after ≡ left = ap (λ (x : Spaced × List ℕ). x.1) both in
    one_end n false ts us after here there are (subst (λ (x : List ℕ). AreTokens x us there) (sym rest) also) p q

one_column : (text : List ℕ) (n m c d : ℕ) → n ≡ m → IsOperandColumn text n c → IsOperandColumn text m d → c ≡ d
one_column text n m c d e (here, is, at) (there, also, stands) =
    at ∙ ap (λ (x : List ℕ). column text (skip x)) (one_operand text m here there (subst (λ (k : ℕ). IsOperand text k here) e is) also) ∙ sym stands

-- a list is refused as Missing alone
record ListRefused (labels : Naming) (text : List ℕ) (asked : Directed) (kind : AsmKind) (c : ℕ) : Type 0 where
  size : DatumSize
  first : Datum
  others : List Datum
  list : asked ≡ values size first others
  missing : kind ≡ asm_kinds.Missing
  index : ℕ
  none : IsFirstMissing labels size (first ∷ others) index
  at : IsOperandColumn text index c

list_refused : (kind : AsmKind) (labels : Naming) (text : List ℕ) (asked : Directed) (c : ℕ) → IsListRefused kind labels text asked c
    → ListRefused labels text asked kind c
list_refused asm_kinds.Missing labels text (values s d ds) c (n, none, at) =
    record { size = s; first = d; others = ds; list = refl; missing = refl; index = n; none = none; at = at }
list_refused asm_kinds.Missing labels text (org b) c r = absurd r
list_refused asm_kinds.Missing labels text (align n) c r = absurd r
list_refused asm_kinds.Missing labels text (space n) c r = absurd r
list_refused asm_kinds.Syntax labels text asked c r = absurd r
list_refused asm_kinds.Row labels text asked c r = absurd r
list_refused asm_kinds.Double labels text asked c r = absurd r
list_refused asm_kinds.Offset labels text asked c r = absurd r
list_refused asm_kinds.Place labels text asked c r = absurd r

given_not_refused : (labels : Naming) (a : ℕ) (text : List ℕ) (asked : Directed) (bs : List ℕ) (kind : AsmKind) (c : ℕ) → AreAsked labels a asked bs
    → ListRefused labels text asked kind c → ⊥
given_not_refused labels a text asked bs kind c are r =
    missing_number labels r.size (r.first ∷ r.others) bs r.index (subst (λ (x : Directed). AreAsked labels a x bs) r.list are) r.none

bytes_not_refused : (labels : Naming) (a : ℕ) (text : List ℕ) (said : Said) (bs : List ℕ) (kind : AsmKind) (c : ℕ) → AreBytes labels a text said bs
    → IsSaidRefused kind labels a text said c → ⊥
bytes_not_refused labels a text nothing bs kind c are r = r
bytes_not_refused labels a text (instruction n) bs kind c (i, is, e) r = not_refused text a labels i kind c is r
bytes_not_refused labels a text (directive asked) bs kind c are r =
    given_not_refused labels a text asked bs kind c are (list_refused kind labels text asked c r)

one_list_refusal : (labels : Naming) (text : List ℕ) (asked : Directed) (k j : AsmKind) (c d : ℕ) → ListRefused labels text asked k c
    → ListRefused labels text asked j d → (k ≡ j) × (c ≡ d)
one_list_refusal labels text asked k j c d r s = (
  r.missing ∙ sym s.missing,
  one_column text r.index s.index c d (index r.size r.first r.others s.size s.first s.others (sym r.list ∙ s.list) r.none s.none) r.at s.at,
)
  where
    index : (x : DatumSize) (f : Datum) (fs : List Datum) (y : DatumSize) (g : Datum) (gs : List Datum) → values x f fs ≡ values y g gs
        → IsFirstMissing labels x (f ∷ fs) r.index → IsFirstMissing labels y (g ∷ gs) s.index → r.index ≡ s.index
    index x f fs y g gs e a b =
        let size : x ≡ y = cc in
        let list : f ∷ fs ≡ g ∷ gs = cc in
        one_missing labels y (g ∷ gs) r.index s.index
        (subst (λ (z : DatumSize). IsFirstMissing labels z (g ∷ gs) r.index) size (subst (λ (zs : List Datum). IsFirstMissing labels x zs r.index) list a))
        b

one_said_refusal : (labels : Naming) (a : ℕ) (text : List ℕ) (said : Said) (k j : AsmKind) (c d : ℕ) → IsSaidRefused k labels a text said c
    → IsSaidRefused j labels a text said d → (k ≡ j) × (c ≡ d)
one_said_refusal labels a text nothing k j c d r s = absurd r
one_said_refusal labels a text (instruction n) k j c d r s = one_refusal text a labels k j c d r s
one_said_refusal labels a text (directive asked) k j c d r s =
    one_list_refusal labels text asked k j c d (list_refused k labels text asked c r) (list_refused j labels text asked d s)

-- lines that give pieces are not refused
pub given_refused : (labels : Naming) (a : ℕ) (ls : List (List ℕ)) (ps : List Segment) (kind : AsmKind) (n c : ℕ) → AreGiven labels a ls ps
    → IsNextRefused kind labels a ls n c → ⊥
given_refused labels a [] ps kind n c given r = r
given_refused labels a (l ∷ ls) [] kind n c given r = given
given_refused labels a (l ∷ ls) (p ∷ ps) kind zero c (said, says, at, are, given) (s, k, tells, r, e) =
    let same : said ≡ s = one_said (text_of l) said s says tells in
    bytes_not_refused labels a (text_of l) s p.bytes kind k (subst (λ (x : Said). AreBytes labels a (text_of l) x p.bytes) same are) r
given_refused labels a (l ∷ ls) (p ∷ ps) kind (suc n) c (said, says, at, are, given) (s, bs, tells, give, r) =
    let same : said ≡ s = one_said (text_of l) said s says tells in
    given_refused labels (next_place s a) ls ps kind n c (subst (λ (x : Said). AreGiven labels (next_place x a) ls ps) same given) r

-- and they are refused once
pub one_next : (labels : Naming) (a : ℕ) (ls : List (List ℕ)) (k j : AsmKind) (n m c d : ℕ) → IsNextRefused k labels a ls n c → IsNextRefused j labels a ls m d
    → (k ≡ j) × (n ≡ m) × (c ≡ d)
one_next labels a [] k j n m c d r s = absurd r
one_next labels a (l ∷ ls) k j zero zero c d (said, x, says, r, e) (told, y, tells, s, f) =
    let same : said ≡ told = one_said (text_of l) said told says tells in
    let one = one_said_refusal labels a (text_of l) told k j x y (subst (λ (z : Said). IsSaidRefused k labels a (text_of l) z x) same r) s in
    (one.0, refl, e ∙ ap (λ (z : ℕ). shifted (text_column l) z) one.1 ∙ sym f)
one_next labels a (l ∷ ls) k j zero (suc m) c d (said, x, says, r, e) (told, bs, tells, are, s) =
    let same : told ≡ said = one_said (text_of l) told said tells says in
    absurd (bytes_not_refused labels a (text_of l) said bs k x (subst (λ (z : Said). AreBytes labels a (text_of l) z bs) same are) r)
one_next labels a (l ∷ ls) k j (suc n) zero c d (said, bs, says, are, r) (told, x, tells, s, e) =
    let same : said ≡ told = one_said (text_of l) said told says tells in
    absurd (bytes_not_refused labels a (text_of l) told bs j x (subst (λ (z : Said). AreBytes labels a (text_of l) z bs) same are) s)
one_next labels a (l ∷ ls) k j (suc n) (suc m) c d (said, bs, says, are, r) (told, cs, tells, give, s) =
    let same : told ≡ said = one_said (text_of l) told said tells says in
    let one = one_next labels (next_place said a) ls k j n m c d r (subst (λ (z : Said). IsNextRefused j labels (next_place z a) ls m d) same s) in
    (one.0, ap suc one.1, one.2)

-- as Missing or as Offset
late_said : (labels : Naming) (a : ℕ) (text : List ℕ) (said : Said) (kind : AsmKind) (c : ℕ) → Says text said → IsSaidRefused kind labels a text said c
    → (kind ≡ asm_kinds.Missing) ⊎ (kind ≡ asm_kinds.Offset)
late_said labels a text nothing kind c says r = absurd r
late_said labels a text (instruction n) kind c says r = late_refusal text a labels n kind c (says_width text n says) r
late_said labels a text (directive asked) kind c says r = inl (list_refused kind labels text asked c r).missing

pub late_next : (labels : Naming) (a : ℕ) (ls : List (List ℕ)) (kind : AsmKind) (n c : ℕ) → IsNextRefused kind labels a ls n c
    → (kind ≡ asm_kinds.Missing) ⊎ (kind ≡ asm_kinds.Offset)
late_next labels a [] kind n c r = absurd r
late_next labels a (l ∷ ls) kind zero c (said, k, says, r, e) = late_said labels a (text_of l) said kind k says r
late_next labels a (l ∷ ls) kind (suc n) c (said, bs, says, are, r) = late_next labels (next_place said a) ls kind n c r
