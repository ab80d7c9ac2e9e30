-- Texts as lines, each ended by LF or CR LF, the last maybe by nothing.
use Rattle.std.proofs.Common.{◌≡◌, ℕ, ◌+◌, ◌-◌, ◌/◌, ◌%◌, ◌<◌, ◌≤◌, eqb, List, [], ◌∷◌, ◌++◌, get_or, length, length-append, map, take, append_assoc}
use Rattle.std.proofs.Common.{append-nil, refl, sym, ap, subst, ◌∙◌, inl, inr, arith}
use Rattle.std.specs.List.{AllByRecursion, flat_map}
use Rattle.std.proofs.Math.Seq.{get_or-append_seam, take-append_seam}
use Rattle.std.proofs.lemmas.Bool.{cases_Bool, eqb-true, eq-eqb, ne_eqb}
use Rattle.hm_text_base.specs.Spans.{Lacks, line, lines_of}
use Rattle.hm_text_base.proofs.LineLaws.{front_line, lines_whole}
use Rattle.hm_ihex.specs.Files.{all_lines, without_return}
use Rattle.hm_ihex.specs.HexFile.{AreDigits, AreLines, AreRecordLines, IsDigit, IsLineEnd, IsRecordLine}
use Rattle.hm_ihex.specs.Records.{Record}
use Rattle.hm_ihex.proofs.Again.{Shown, shown_lacks, shown_whole}
use Rattle.hm_ihex.proofs.RecordForms.{last_is}
use Rattle.hm_ihex.proofs.Lines.{more_lines, no_lines, one_line}

-- ---- what lines a text has

-- a line is what stands before its CR, and that CR, if it has one
record Return (l : List ℕ) : Type 0 where
  mark : List ℕ
  is_end : IsLineEnd mark
  whole : l ++ 10 ∷ [] ≡ without_return l ++ mark

some_if : (l : List ℕ) → get_or l (length l - 1) 0 ≡ 13 → length l ≡ length l - 1 + 1
some_if [] e = absurd (omega arith)
some_if (b ∷ bs) e = omega arith

return_of : (l : List ℕ) → Return l
return_of l = elim (cases_Bool (eqb (get_or l (length l - 1) 0) 13)) [
  | inr e ↦ record { mark = 10 ∷ []; is_end = inl refl; whole = rw e refl }
  | inl e ↦
      let last = eqb-true (get_or l (length l - 1) 0) 13 e in
      let front = take (length l - 1) l in
      let whole : l ≡ take (length l - 1) l ++ 13 ∷ [] = last_is (length l - 1) l (some_if l last) ∙ ap (λ (b : ℕ). take (length l - 1) l ++ b ∷ []) last in
      let stripped : without_return l ≡ take (length l - 1) l = rw e refl in
      record {
        mark = 13 ∷ 10 ∷ [];
        is_end = inr refl;
        whole = ap (λ (x : List ℕ). x ++ 10 ∷ []) whole ∙ append_assoc front (13 ∷ []) (10 ∷ [])
            ∙ ap (λ (x : List ℕ). x ++ 13 ∷ 10 ∷ []) (sym stripped);
      }
]

-- the last line, where it has no end
abbrev last_line : List ℕ → List (List ℕ)
last_line [] = []
last_line (c ∷ cs) = (c ∷ cs) ∷ []

all_are : (ended : List (List ℕ)) (last : List ℕ) → all_lines (ended, last) ≡ map without_return ended ++ last_line last
all_are ended [] = sym (append-nil (map without_return ended))
all_are ended (c ∷ cs) = refl

told : (ended : List (List ℕ)) (last : List ℕ) → AreLines (map without_return ended ++ last_line last) (flat_map line ended ++ last)
told [] [] = refl
told [] (c ∷ cs) = inl (refl, refl)
told (l ∷ ls) last =
    let r = return_of l in
    let rest = flat_map line ls ++ last in
    inr (
      r.mark,
      rest,
      r.is_end,
      append_assoc (line l) (flat_map line ls) last ∙ ap (λ (x : List ℕ). x ++ rest) r.whole ∙ append_assoc (without_return l) r.mark rest,
      told ls last,
    )

pub lines_told : (text : List ℕ) → AreLines (all_lines (lines_of text)) text
lines_told text =
    let ls = lines_of text in
    subst (λ (t : List ℕ). AreLines (all_lines ls) t) (lines_whole text)
    (subst (λ (x : List (List ℕ)). AreLines x (flat_map line ls.0 ++ ls.1)) (sym (all_are ls.0 ls.1)) (told ls.0 ls.1))

-- ---- and what text they are read from

no_end : (text : List ℕ) → Lacks 10 text → lines_of text ≡ ([], text)
unfolding lines_of
no_end [] lacks = refl
no_end (b ∷ text) lacks = rw (ne_eqb b 10 lacks.0, no_end text lacks.1) refl

lacks_return : (text : List ℕ) → Lacks 10 text → Lacks 10 (text ++ 13 ∷ [])
lacks_return [] h = ((λ e. absurd (omega arith)), tt)
lacks_return (b ∷ text) h = (h.0, lacks_return text h.1)

return_off : (text : List ℕ) → without_return (text ++ 13 ∷ []) ≡ text
return_off text =
    let count : length (text ++ 13 ∷ []) - 1 ≡ length text = omega (arith, length-append text (13 ∷ [])) in
    let last : get_or (text ++ 13 ∷ []) (length (text ++ 13 ∷ []) - 1) 0 ≡ 13 = ap (λ (k : ℕ). get_or (text ++ 13 ∷ []) k 0) count
    ∙ get_or-append_seam text 13 [] 0 in
    rw (eq-eqb (get_or (text ++ 13 ∷ []) (length (text ++ 13 ∷ []) - 1) 0) 13 last)
    (ap (λ (k : ℕ). take k (text ++ 13 ∷ [])) count ∙ take-append_seam text (13 ∷ []))

-- a line of nothing below a digit, that is some
abbrev pub IsShown : List ℕ → Type 0
IsShown l = (0 < length l) × Shown l

ended_line : (l mark rest : List ℕ) → IsShown l → IsLineEnd mark → all_lines (lines_of (l ++ (mark ++ rest))) ≡ l ∷ all_lines (lines_of rest)
ended_line l mark rest h (inl is) =
    ap (λ (m : List ℕ). all_lines (lines_of (l ++ (m ++ rest)))) is
    ∙ ap all_lines (front_line l rest (shown_lacks l h.1)) ∙ more_lines l (lines_of rest)
    ∙ ap (λ (x : List ℕ). x ∷ all_lines (lines_of rest)) (shown_whole l h.1)
ended_line l mark rest h (inr is) =
    ap (λ (m : List ℕ). all_lines (lines_of (l ++ (m ++ rest)))) is
    ∙ ap (λ (t : List ℕ). all_lines (lines_of t)) (sym (append_assoc l (13 ∷ []) (10 ∷ rest)))
    ∙ ap all_lines (front_line (l ++ 13 ∷ []) rest (lacks_return l (shown_lacks l h.1))) ∙ more_lines (l ++ 13 ∷ []) (lines_of rest)
    ∙ ap (λ (x : List ℕ). x ∷ all_lines (lines_of rest)) (return_off l)

pub lines_read : (ls : List (List ℕ)) (text : List ℕ) → AllByRecursion IsShown ls → AreLines ls text → all_lines (lines_of text) ≡ ls
lines_read [] text all h = ap (λ (t : List ℕ). all_lines (lines_of t)) h ∙ no_lines
lines_read (l ∷ ls) text all (inl h) =
    ap (λ (t : List ℕ). all_lines (lines_of t)) h.1 ∙ ap all_lines (no_end l (shown_lacks l all.0.1)) ∙ one_line l all.0.0
    ∙ ap (λ (x : List (List ℕ)). l ∷ x) (sym h.0)
lines_read (l ∷ ls) text all (inr h) =
    ap (λ (t : List ℕ). all_lines (lines_of t)) h.3 ∙ ended_line l h.0 h.1 all.0 h.2 ∙ ap (λ (x : List (List ℕ)). l ∷ x) (lines_read ls h.1 all.1 h.4)

-- ---- lines of records

digit_low : (c d : ℕ) → IsDigit c d → 48 ≤ c
digit_low c d h = grind arith

digits_low : (digits bytes : List ℕ) → AreDigits digits bytes → Shown digits
digits_low [] [] h = tt
digits_low [] (b ∷ bytes) h = absurd h
digits_low (c ∷ []) [] h = absurd h
digits_low (c ∷ []) (b ∷ bytes) h = absurd h
digits_low (c ∷ d ∷ digits) [] h = absurd h
digits_low (c ∷ d ∷ digits) (b ∷ bytes) h = (digit_low c (b / 16) h.0, (digit_low d (b % 16) h.1, digits_low digits bytes h.2))

record_low : (l : List ℕ) (r : Record) → IsRecordLine l r → IsShown l
record_low l r h = subst IsShown (sym h.2) (omega arith, (omega arith, digits_low h.0 h.1 h.3))

pub records_low : (ls : List (List ℕ)) (rs : List Record) → AreRecordLines ls rs → AllByRecursion IsShown ls
records_low [] [] h = tt
records_low [] (r ∷ rs) h = absurd h
records_low (l ∷ ls) [] h = absurd h
records_low (l ∷ ls) (r ∷ rs) h = (record_low l r h.0, records_low ls rs h.1)
