-- A source has one outcome.
use Rattle.std.proofs.Common.{◌≡◌, ℕ, zero, suc, ◌+◌, Bool, true, false, List, [], ◌∷◌, Result, Ok, Err, refl, sym, ap, subst, ◌∙◌, inl, inr}
use Rattle.std.specs.FinMap.{get, empty}
use Rattle.std.proofs.lemmas.Bool.{false≢true}
use Rattle.hm_base.specs.Image.{Segment}
use Rattle.hm_line.specs.Labels.{LabelMap}
use Rattle.hm_line.specs.Sources.{IsLine, IsLineRefused, before_comment, has_bad_label}
use Rattle.hm_line.specs.declared.errors.AsmKind.{AsmKind}
use Rattle.hm_line.specs.declared.errors.AsmKind.TheVariants as kinds
use Rattle.hm_line.specs.declared.form.Form.TheVariants as forms
use Rattle.hm_line.proofs.Fronts.{not_both, one_column}
use Rattle.hm_source.specs.Lines.{name_of, source_lines, text_of}
use Rattle.hm_source.specs.Places.{HasPlace, next_place}
use Rattle.hm_source.specs.Statements.{Said}
use Rattle.hm_asm.specs.declared.errors.AsmErr.{AsmErr}
use Rattle.hm_asm.specs.declared.errors.AsmErr.TheVariants as refusals
use Rattle.hm_asm.specs.FirstPass.{AreFine, IsFine, IsFirstRefused, IsRefusedAs, with_name}
use Rattle.hm_asm.specs.Segments.{joined}
use Rattle.hm_asm.specs.SecondPass.{AreGiven, IsNextRefused}
use Rattle.hm_asm.specs.Sources.{IsAssembled, IsOutcome, IsRefusal, IsSourceRefused}
use Rattle.hm_asm.proofs.Given.{given_refused, one_given, one_next}
use Rattle.hm_asm.proofs.Said.{one_said}

-- LINES
pub line_not_both : (l : List ℕ) (c : ℕ) → IsLine l → IsLineRefused l c → ⊥
line_not_both l c is r = not_both forms.Line (before_comment l) c is.1 (r.1 is.0)

one_bad : (b : Bool) (l : List ℕ) (c d : ℕ) → has_bad_label (before_comment l) ≡ b → IsLineRefused l c → IsLineRefused l d → c ≡ d
one_bad true l c d e r s = r.0 e ∙ sym (s.0 e)
one_bad false l c d e r s = one_column forms.Line (before_comment l) c d (r.1 e) (s.1 e)

one_line_column : (l : List ℕ) (c d : ℕ) → IsLineRefused l c → IsLineRefused l d → c ≡ d
one_line_column l c d r s = one_bad (has_bad_label (before_comment l)) l c d refl r s

-- THE FIRST PASS
fine_not_refused : (m : LabelMap) (a : ℕ) (l : List ℕ) (said : Said) (k : AsmKind) (c : ℕ) → IsFine m a l said → IsRefusedAs k m a l c → ⊥
fine_not_refused m a l said kinds.Syntax c is r = line_not_both l c is.form r
fine_not_refused m a l said kinds.Row c is r = r.none said is.says
fine_not_refused m a l said kinds.Missing c is r = r
fine_not_refused m a l said kinds.Double c is r = false≢true (sym r.there ∙ is.new)
fine_not_refused m a l said kinds.Offset c is r = r
fine_not_refused m a l said kinds.Place c is r = r.none (subst (λ (s : Said). HasPlace s a) (one_said (text_of l) said r.said is.says r.says) is.place)

one_line_refusal : (m : LabelMap) (a : ℕ) (l : List ℕ) (k j : AsmKind) (c d : ℕ) → IsRefusedAs k m a l c → IsRefusedAs j m a l d → (k ≡ j) × (c ≡ d)
one_line_refusal m a l kinds.Syntax kinds.Syntax c d r s = (refl, one_line_column l c d r s)
one_line_refusal m a l kinds.Syntax kinds.Row c d r s = absurd (line_not_both l c s.form r)
one_line_refusal m a l kinds.Syntax kinds.Double c d r s = absurd (line_not_both l c s.form r)
one_line_refusal m a l kinds.Syntax kinds.Place c d r s = absurd (line_not_both l c s.form r)
one_line_refusal m a l kinds.Row kinds.Syntax c d r s = absurd (line_not_both l d r.form s)
one_line_refusal m a l kinds.Row kinds.Row c d r s = (refl, r.column ∙ sym s.column)
one_line_refusal m a l kinds.Row kinds.Double c d r s = absurd (r.none s.said s.says)
one_line_refusal m a l kinds.Row kinds.Place c d r s = absurd (r.none s.said s.says)
one_line_refusal m a l kinds.Double kinds.Syntax c d r s = absurd (line_not_both l d r.form s)
one_line_refusal m a l kinds.Double kinds.Row c d r s = absurd (s.none r.said r.says)
one_line_refusal m a l kinds.Double kinds.Double c d r s = (refl, r.column ∙ sym s.column)
one_line_refusal m a l kinds.Double kinds.Place c d r s = absurd (false≢true (sym r.there ∙ s.new))
one_line_refusal m a l kinds.Place kinds.Syntax c d r s = absurd (line_not_both l d r.form s)
one_line_refusal m a l kinds.Place kinds.Row c d r s = absurd (s.none r.said r.says)
one_line_refusal m a l kinds.Place kinds.Double c d r s = absurd (false≢true (sym s.there ∙ r.new))
one_line_refusal m a l kinds.Place kinds.Place c d r s = (refl, r.column ∙ sym s.column)
one_line_refusal m a l kinds.Missing j c d r s = absurd r
one_line_refusal m a l kinds.Offset j c d r s = absurd r
one_line_refusal m a l k kinds.Missing c d r s = absurd s
one_line_refusal m a l k kinds.Offset c d r s = absurd s

one_fine : (m : LabelMap) (a : ℕ) (ls : List (List ℕ)) (x y : LabelMap) → AreFine m a ls x → AreFine m a ls y → x ≡ y
one_fine m a [] x y e f = sym e ∙ f
one_fine m a (l ∷ ls) x y (said, is, more) (told, also, others) =
    let same : told ≡ said = one_said (text_of l) told said also.says is.says in
    one_fine (with_name m (name_of l) a) (next_place said a) ls x y more
    (subst (λ (s : Said). AreFine (with_name m (name_of l) a) (next_place s a) ls y) same others)

fine_refused : (m : LabelMap) (a : ℕ) (ls : List (List ℕ)) (all : LabelMap) (k : AsmKind) (n c : ℕ) → AreFine m a ls all → IsFirstRefused k m a ls n c → ⊥
fine_refused m a [] all k n c fine r = r
fine_refused m a (l ∷ ls) all k zero c (said, is, more) r = fine_not_refused m a l said k c is r
fine_refused m a (l ∷ ls) all k (suc n) c (said, is, more) (told, also, r) =
    let same : told ≡ said = one_said (text_of l) told said also.says is.says in
    fine_refused (with_name m (name_of l) a) (next_place said a) ls all k n c more
    (subst (λ (s : Said). IsFirstRefused k (with_name m (name_of l) a) (next_place s a) ls n c) same r)

one_first : (m : LabelMap) (a : ℕ) (ls : List (List ℕ)) (k j : AsmKind) (n i c d : ℕ) → IsFirstRefused k m a ls n c → IsFirstRefused j m a ls i d
    → (k ≡ j) × (n ≡ i) × (c ≡ d)
one_first m a [] k j n i c d r s = absurd r
one_first m a (l ∷ ls) k j zero zero c d r s = let one = one_line_refusal m a l k j c d r s in (one.0, refl, one.1)
one_first m a (l ∷ ls) k j zero (suc i) c d r (told, also, s) = absurd (fine_not_refused m a l told k c also r)
one_first m a (l ∷ ls) k j (suc n) zero c d (said, is, r) s = absurd (fine_not_refused m a l said j d is s)
one_first m a (l ∷ ls) k j (suc n) (suc i) c d (said, is, r) (told, also, s) =
    let same : told ≡ said = one_said (text_of l) told said also.says is.says in
    let one = one_first (with_name m (name_of l) a) (next_place said a) ls k j n i c d r
    (subst (λ (t : Said). IsFirstRefused j (with_name m (name_of l) a) (next_place t a) ls i d) same s) in
    (one.0, ap suc one.1, one.2)

-- SOURCES
abbrev pub Outcome : Type 0
Outcome = Result (List Segment) AsmErr

one_image : (source : List ℕ) (x y : List Segment) → IsAssembled source x → IsAssembled source y → x ≡ y
one_image source x y a b =
    let labels : b.labels ≡ a.labels = one_fine empty 0 (source_lines source) b.labels a.labels b.fine a.fine in
    let pieces =
    one_given empty 0 (source_lines source) a.labels (get a.labels) a.pieces b.pieces a.fine a.given
    (subst (λ (m : LabelMap). AreGiven (get m) 0 (source_lines source) b.pieces) labels b.given) in
    a.image_is ∙ ap joined pieces ∙ sym b.image_is

image_not_refused : (source : List ℕ) (x : List Segment) (k : AsmKind) (n c : ℕ) → IsAssembled source x → IsSourceRefused k source n c → ⊥
image_not_refused source x k n c a (inl r) = fine_refused empty 0 (source_lines source) a.labels k n c a.fine r
image_not_refused source x k n c a (inr (labels, fine, r)) =
    let same : labels ≡ a.labels = one_fine empty 0 (source_lines source) labels a.labels fine a.fine in
    given_refused (get a.labels) 0 (source_lines source) a.pieces k n c a.given
    (subst (λ (m : LabelMap). IsNextRefused k (get m) 0 (source_lines source) n c) same r)

one_refusal : (source : List ℕ) (k j : AsmKind) (n i c d : ℕ) → IsSourceRefused k source n c → IsSourceRefused j source i d → (k ≡ j) × (n ≡ i) × (c ≡ d)
one_refusal source k j n i c d (inl r) (inl s) = one_first empty 0 (source_lines source) k j n i c d r s
one_refusal source k j n i c d (inl r) (inr (labels, fine, s)) = absurd (fine_refused empty 0 (source_lines source) labels k n c fine r)
one_refusal source k j n i c d (inr (labels, fine, r)) (inl s) = absurd (fine_refused empty 0 (source_lines source) labels j i d fine s)
one_refusal source k j n i c d (inr (labels, fine, r)) (inr (names, also, s)) =
    let same : names ≡ labels = one_fine empty 0 (source_lines source) names labels also fine in
    one_next (get labels) 0 (source_lines source) k j n i c d r (subst (λ (m : LabelMap). IsNextRefused j (get m) 0 (source_lines source) i d) same s)

one_err : (source : List ℕ) (e f : AsmErr) → IsRefusal source e → IsRefusal source f → e ≡ f
one_err source (refusals.Line k c kind) (refusals.Line j d other) (n, at, r) (i, there, s) =
    let one = one_refusal source kind other n i c d r s in
    same (at ∙ ap (λ (x : ℕ). x + 1) one.1 ∙ sym there) one.2 one.0
  where
    same : k ≡ j → c ≡ d → kind ≡ other → refusals.Line k c kind ≡ refusals.Line j d other
    same p q o = cc
one_err source (refusals.Line k c kind) refusals.OutOfMemory r s = absurd s
one_err source refusals.OutOfMemory f r s = absurd r

image_and_err : (source : List ℕ) (x : List Segment) (e : AsmErr) → IsAssembled source x → IsRefusal source e → ⊥
image_and_err source x (refusals.Line k c kind) a (n, at, r) = image_not_refused source x kind n c a r
image_and_err source x refusals.OutOfMemory a r = r

pub one_outcome : (source : List ℕ) (r s : Outcome) → IsOutcome source r → IsOutcome source s → r ≡ s
one_outcome source (Ok x) (Ok y) a b = ap (λ (i : List Segment). Ok i) (one_image source x y a b)
one_outcome source (Ok x) (Err f) a b = absurd (image_and_err source x f a b)
one_outcome source (Err e) (Ok y) a b = absurd (image_and_err source y e b a)
one_outcome source (Err e) (Err f) a b = ap (λ (i : AsmErr). Err i) (one_err source e f a b)
