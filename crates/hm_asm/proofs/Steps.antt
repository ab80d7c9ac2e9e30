-- What a line adds to what is known of the lines behind it.
use Rattle.std.proofs.Common.{◌≡◌, ℕ, suc, ◌+◌, ◌-◌, ◌<◌, ◌≤◌, List, [], ◌∷◌, ◌++◌, eqb, length, replicate, false, Result, Ok, Err, refl, sym, ap, subst}
use Rattle.std.proofs.Common.{append_assoc, ◌∙◌, inl, inr, arith}
use Rattle.std.specs.Prelude.{OnOk, is_err}
use Rattle.std.specs.FinMap.{get, empty}
use Rattle.std.specs.List.{AllByRecursion}
use Rattle.std.proofs.lemmas.Bool.{cases_Bool, false≢true, eqb-true, eqb-false}
use Rattle.std.proofs.lemmas.List.{length-append}
use Rattle.hm_base.specs.Image.{Segment, segment}
use Rattle.hm_line.specs.Labels.{LabelMap}
use Rattle.hm_line.specs.declared.errors.AsmKind.{AsmKind}
use Rattle.hm_line.specs.declared.errors.AsmKind.TheVariants as kinds
use Rattle.hm_line.specs.declared.errors.TextErr.{TextErr}
use Rattle.hm_text_base.specs.Spans.{lines_of}
use Rattle.hm_source.specs.declared.directives.Directive.{Directive}
use Rattle.hm_source.specs.declared.statements.Statement.TheVariants as statements
use Rattle.hm_source.specs.Directives.{Directed, org, align, space}
use Rattle.hm_source.specs.Lines.{name_of, shifted, source_lines, text_column, text_of}
use Rattle.hm_source.specs.Places.{HasPlace, HasRoom, next_place, padding, size_of}
use Rattle.hm_source.specs.Shown.{ShowsSaid, ShowsDirected}
use Rattle.hm_source.specs.Statements.{Said, nothing, instruction, directive, Says}
use Rattle.hm_source.specs.Unread.{IsUnread}
use Rattle.hm_asm.specs.declared.errors.AsmErr.{AsmErr}
use Rattle.hm_asm.specs.declared.errors.AsmErr.TheVariants as refusals
use Rattle.hm_asm.specs.FirstPass.{AreFine, IsFine, IsFirstRefused, with_name}
use Rattle.hm_asm.specs.Making.{Made, after_line, moved, place_of, with_bytes}
use Rattle.hm_asm.specs.Refusals.{IsFirstErr, IsLineErr, IsSaidErr, IsSecondErr}
use Rattle.hm_asm.specs.SecondPass.{AreAsked, AreBytes, AreGiven, IsNextRefused, IsSaidRefused, Naming}
use Rattle.hm_asm.specs.Segments.{joined, with_piece}
use Rattle.hm_asm.proofs.Given.{bytes_length, given_rising}
use Rattle.hm_asm.proofs.Joined.{AreRising, joined_both, joined_from, with_piece-apart}
use Rattle.hm_asm.proofs.Outcomes.{line_not_both}
use Rattle.hm_asm.proofs.Said.{one_said, says_width}
use Rattle.hm_text_tables.proofs.Once.{one_width}
use Rattle.hm_text_tables.specs.Texts.{HasWidth}

-- no line is left
pub no_lines : (rest : List ℕ) → length rest ≡ 0 → source_lines rest ≡ []
unfolding lines_of
no_lines [] e = refl
no_lines (b ∷ rest) e = absurd (omega (arith, e))

-- THE FIRST PASS
pub fine_step : (m n : LabelMap) (a b : ℕ) (l : List ℕ) (ls lines : List (List ℕ)) (said : Said) (all : LabelMap) → lines ≡ l ∷ ls → IsFine m a l said
    → b ≡ next_place said a → n ≡ with_name m (name_of l) a → AreFine n b ls all
    → AreFine m a lines all
fine_step m n a b l ls lines said all e is next named more =
    subst (λ (x : List (List ℕ)). AreFine m a x all) (sym e)
    (said, is, subst (λ (c : ℕ). AreFine (with_name m (name_of l) a) c ls all) next (subst (λ (x : LabelMap). AreFine x b ls all) named more))

pub refused_step : (kind : AsmKind) (m n : LabelMap) (a b : ℕ) (l : List ℕ) (ls lines : List (List ℕ)) (said : Said) (i c : ℕ) → lines ≡ l ∷ ls
    → IsFine m a l said → b ≡ next_place said a → n ≡ with_name m (name_of l) a
    → IsFirstRefused kind n b ls i c → IsFirstRefused kind m a lines (suc i) c
refused_step kind m n a b l ls lines said i c e is next named more =
    subst (λ (x : List (List ℕ)). IsFirstRefused kind m a x (suc i) c) (sym e) (
      said,
      is,
      subst (λ (p : ℕ). IsFirstRefused kind (with_name m (name_of l) a) p ls i c) next
          (subst (λ (x : LabelMap). IsFirstRefused kind x b ls i c) named more),
    )

-- lines that are left begin with a line that is refused
pub first_err : (source : List ℕ) (m : LabelMap) (a number : ℕ) (l : List ℕ) (ls lines : List (List ℕ)) (e : AsmErr) → 1 ≤ number → lines ≡ l ∷ ls
    → ((kind : AsmKind) (n c : ℕ) → IsFirstRefused kind m a lines n c → IsFirstRefused kind empty 0 (source_lines source) (number - 1 + n) c)
    → IsLineErr m a l number e → IsFirstErr source e
first_err source m a number l ls lines (refusals.Line k c kind) counted at whole (same, r) = (
  number - 1 + 0,
  same ∙ (let f : number ≡ number - 1 + 0 + 1 = omega (arith, counted) in f),
  whole kind 0 c (subst (λ (x : List (List ℕ)). IsFirstRefused kind m a x 0 c) (sym at) r),
)
first_err source m a number l ls lines refusals.OutOfMemory counted at whole r = tt

-- THE SECOND PASS
-- a refusal of a text, with its number
pub said_err : (labels : Naming) (a : ℕ) (text : List ℕ) (begin number : ℕ) (said : Said) (r : AsmErr) (x y : TextErr)
    → r ≡ refusals.Line number y.column y.kind → y.kind ≡ x.kind → y.column ≡ shifted begin x.column
    → IsSaidRefused x.kind labels a text said x.column → IsSaidErr labels a text begin number said r
said_err labels a text begin number said r x y told kind column is =
    subst (λ (e : AsmErr). IsSaidErr labels a text begin number said e) (sym told)
    (refl, x.column, subst (λ (k : AsmKind). IsSaidRefused k labels a text said x.column) (sym kind) is, column)

pub given_align : (labels : Naming) (old new : Made) (n count : ℕ) (a : Directed) → a ≡ align n → count ≡ padding n (place_of old)
    → new ≡ with_bytes old (replicate count 0)
    → (bs : List ℕ) × AreAsked labels (place_of old) a bs × (new ≡ after_line old (directive a) bs)
given_align labels old new n count a e many added =
    subst (λ (x : Directed). (bs : List ℕ) × AreAsked labels (place_of old) x bs × (new ≡ after_line old (directive x) bs)) (sym e)
    (replicate count 0, ap (λ (k : ℕ). replicate k 0) many, added)

pub given_space : (labels : Naming) (old new : Made) (n : ℕ) (a : Directed) → a ≡ space n → new ≡ with_bytes old (replicate n 0)
    → (bs : List ℕ) × AreAsked labels (place_of old) a bs × (new ≡ after_line old (directive a) bs)
given_space labels old new n a e added =
    subst (λ (x : Directed). (bs : List ℕ) × AreAsked labels (place_of old) x bs × (new ≡ after_line old (directive x) bs)) (sym e)
    (replicate n 0, refl, added)

-- a result that is no error
pub no_error : {A E : Type 0} (r : Result A E) (P : Type 0) → is_err r ≡ false → OnOk r P → P
no_error (Ok x) P e p = p
no_error (Err x) P e p = absurd (false≢true (sym e))

-- what holds of what a directive asks for holds of what its text says
pub of_directive : (text : List ℕ) (d : Directive) (said told : Said) (P : Said → Type 0) → Says text said → Says text told
    → ShowsSaid text (statements.Directive d) told → ((a : Directed) → ShowsDirected text d a → P (directive a)) → P said
of_directive text d said told P says tells shows each =
    subst (λ (s : Said). P s) (one_said text told said tells says) (go told shows)
  where
    go : (s : Said) → ShowsSaid text (statements.Directive d) s → P s
    go nothing sh = absurd sh
    go (instruction n) sh = absurd sh
    go (directive a) sh = each a sh

-- the same of an instruction, for which there is room
pub of_instruction : (text : List ℕ) (w : ℕ) (said told : Said) (P : Said → Type 0) → Says text said → Says text told
    → ShowsSaid text (statements.Instruction w) told → P (instruction w) → P said
of_instruction text w said told P says tells shows here = subst (λ (s : Said). P s) (sym shows ∙ one_said text told said tells says) here

pub room_here : (text : List ℕ) (a w n : ℕ) (told : Said) → Says text told → ShowsSaid text (statements.Instruction w) told → HasPlace told a → HasWidth text n
    → HasRoom a n
room_here text a w n told tells shows place width =
    let read : HasWidth text w = says_width text w (subst (λ (s : Said). Says text s) shows tells) in
    let room : HasPlace (instruction w) a = subst (λ (s : Said). HasPlace s a) shows place in
    subst (λ (k : ℕ). HasRoom a k) (one_width text w n read width) room.1

-- a line that is fine is read
pub read_fine : (m : LabelMap) (a : ℕ) (l : List ℕ) (said : Said) (kind : AsmKind) (c : ℕ) → IsFine m a l said → IsUnread kind l c → ⊥
read_fine m a l said kinds.Syntax c is r = line_not_both l c is.form r
read_fine m a l said kinds.Row c is r = r.none said is.says
read_fine m a l said kind c is r = r

-- lines that are fine, the first of them and the others
pub record First (m : LabelMap) (a : ℕ) (l : List ℕ) (ls : List (List ℕ)) (all : LabelMap) : Type 0 where
  pub said : Said
  pub fine : IsFine m a l said
  pub others : AreFine (with_name m (name_of l) a) (next_place said a) ls all

pub first_of : (m : LabelMap) (a : ℕ) (l : List ℕ) (ls lines : List (List ℕ)) (all : LabelMap) → lines ≡ l ∷ ls → AreFine m a lines all → First m a l ls all
first_of m a l ls lines all e are =
    let parts : AreFine m a (l ∷ ls) all = subst (λ (x : List (List ℕ)). AreFine m a x all) e are in
    record { said = parts.0; fine = parts.1; others = parts.2 }

-- a place at which bytes go on
moved_place : (m : Made) (b : ℕ) → place_of (moved m b) ≡ b
moved_place m b = elim (cases_Bool (eqb (place_of m) b)) [ inl e ↦ rw e (eqb-true _ _ e) | inr e ↦ rw e (let f : b + 0 ≡ b = omega arith in f) ]

after_place : (m : Made) (said : Said) (bs : List ℕ) → length bs ≡ size_of said (place_of m) → place_of (after_line m said bs) ≡ next_place said (place_of m)
after_place m (directive (org b)) bs e = moved_place m b
after_place m said bs e = let sum = length-append m.bytes bs in omega (arith, sum, e)

-- all segments that are made, with pieces behind them
abbrev pub whole_with : Made → List Segment → List Segment
whole_with m ps = m.whole ++ joined (segment m.start m.bytes ∷ ps)

bytes_joined : (m : Made) (bs : List ℕ) (ps : List Segment) → whole_with (with_bytes m bs) ps ≡ whole_with m (segment (place_of m) bs ∷ ps)
bytes_joined m bs ps = ap (λ (x : List Segment). m.whole ++ x) (sym (joined_both m.start m.bytes bs ps))

higher : (a b : ℕ) (ss : List Segment) → a < b → AllByRecursion (λ s. b ≤ s.addr) ss → AllByRecursion (λ s. a < s.addr) ss
higher a b [] l all = tt
higher a b (s ∷ ss) l all = (omega (arith, l, all.0), higher a b ss l all.1)

moved_joined : (m : Made) (b : ℕ) (ps : List Segment) → place_of m ≤ b → AreRising b ps
    → whole_with (moved m b) ps ≡ whole_with m (segment (place_of m) [] ∷ ps)
moved_joined m b ps l rising = elim (cases_Bool (eqb (place_of m) b)) [
  | inl e ↦ rw e refl
  | inr e ↦
      (let apart = eqb-false _ _ e in
      let behind = higher (place_of m) b (joined ps) (omega (arith, l, apart)) (joined_from b ps rising) in
      rw e (append_assoc m.whole (with_piece m.start m.bytes []) (joined ps)
      ∙ ap (λ (x : List Segment). m.whole ++ x) (sym (with_piece-apart m.start m.bytes (joined ps) behind))))
]

-- what a line makes, with the pieces behind it
after_joined : (labels : Naming) (m : Made) (text : List ℕ) (said : Said) (bs : List ℕ) (ps : List Segment) → AreBytes labels (place_of m) text said bs
    → HasPlace said (place_of m) → AreRising (next_place said (place_of m)) ps
    → whole_with (after_line m said bs) ps ≡ whole_with m (segment (place_of m) bs ∷ ps)
after_joined labels m text nothing bs ps are place rising = bytes_joined m bs ps
after_joined labels m text (instruction n) bs ps are place rising = bytes_joined m bs ps
after_joined labels m text (directive (org b)) bs ps are place rising =
    moved_joined m b ps place rising ∙ ap (λ (x : List ℕ). whole_with m (segment (place_of m) x ∷ ps)) (sym are)
after_joined labels m text (directive (align n)) bs ps are place rising = bytes_joined m bs ps
after_joined labels m text said bs ps are place rising = bytes_joined m bs ps

-- A LINE of the second pass, in front of others
module _ (labels : LabelMap) (m : LabelMap) (old new : Made) (l : List ℕ) (ls lines : List (List ℕ)) (said : Said) (bs : List ℕ) (at : lines ≡ l ∷ ls)
    (fine : IsFine m (place_of old) l said)
    (others : AreFine (with_name m (name_of l) (place_of old)) (next_place said (place_of old)) ls labels)
    (are : AreBytes (get labels) (place_of old) (text_of l) said bs) (made : new ≡ after_line old said bs) where
  place_is : place_of new ≡ next_place said (place_of old)
  place_is = ap place_of made ∙ after_place old said bs (bytes_length (get labels) (place_of old) (text_of l) said bs fine.says are)

  pub fine_behind : (n : LabelMap) × AreFine n (place_of new) ls labels
  fine_behind = (with_name m (name_of l) (place_of old), subst (λ (a : ℕ). AreFine (with_name m (name_of l) (place_of old)) a ls labels) (sym place_is) others)

  pub given_step : (ps : List Segment) → AreGiven (get labels) (place_of new) ls ps
      → AreGiven (get labels) (place_of old) lines (segment (place_of old) bs ∷ ps) × (whole_with new ps ≡ whole_with old (segment (place_of old) bs ∷ ps))
  given_step ps given =
      let there : AreGiven (get labels) (next_place said (place_of old)) ls ps = subst (λ (a : ℕ). AreGiven (get labels) a ls ps) place_is given in
      let rising = given_rising (with_name m (name_of l) (place_of old)) (next_place said (place_of old)) ls labels (get labels) ps others there in (
        subst (λ (x : List (List ℕ)). AreGiven (get labels) (place_of old) x (segment (place_of old) bs ∷ ps)) (sym at) (said, fine.says, refl, are, there),
        ap (λ (x : Made). whole_with x ps) made ∙ after_joined (get labels) old (text_of l) said bs ps are fine.place rising,
      )

  pub next_step : (kind : AsmKind) (n c : ℕ) → IsNextRefused kind (get labels) (place_of new) ls n c
      → IsNextRefused kind (get labels) (place_of old) lines (suc n) c
  next_step kind n c r =
      subst (λ (x : List (List ℕ)). IsNextRefused kind (get labels) (place_of old) x (suc n) c) (sym at)
      (said, bs, fine.says, are, subst (λ (a : ℕ). IsNextRefused kind (get labels) a ls n c) place_is r)

-- lines that are left begin with a line that is refused
pub second_err : (labels : Naming) (source : List (List ℕ)) (a number : ℕ) (l : List ℕ) (ls lines : List (List ℕ)) (said : Said) (e : AsmErr) → 1 ≤ number
    → lines ≡ l ∷ ls → Says (text_of l) said
    → ((kind : AsmKind) (n c : ℕ) → IsNextRefused kind labels a lines n c → IsNextRefused kind labels 0 source (number - 1 + n) c)
    → IsSaidErr labels a (text_of l) (text_column l) number said e → IsSecondErr labels source e
second_err labels source a number l ls lines said (refusals.Line k c kind) counted at says whole (same, t, is, column) = (
  number - 1 + 0,
  same ∙ (let f : number ≡ number - 1 + 0 + 1 = omega (arith, counted) in f),
  whole kind 0 c (subst (λ (x : List (List ℕ)). IsNextRefused kind labels a x 0 c) (sym at) (said, t, says, is, column)),
)
second_err labels source a number l ls lines said refusals.OutOfMemory counted at says whole r = tt

-- nothing is made at first
pub begun_place : (m : Made) → m ≡ record { whole = []; start = 0; bytes = [] } → place_of m ≡ 0
begun_place m e = ap place_of e

pub begun_whole : (m : Made) (ps : List Segment) → m ≡ record { whole = []; start = 0; bytes = [] } → whole_with m ps ≡ joined ps
begun_whole m ps e = ap (λ (x : Made). whole_with x ps) e
