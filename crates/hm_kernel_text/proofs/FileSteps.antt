-- Taking lines of a text one after another, as a loop does.
use Rattle.std.proofs.Common.{◌≡◌, ℕ, suc, ◌+◌, ◌-◌, ◌<◌, ◌≤◌, List, [], ◌∷◌, take, drop, length, map, Result, Ok, Err, refl, sym, ap, subst}
use Rattle.std.proofs.Common.{◌∙◌, arith}
use Rattle.std.proofs.Common.{◌≢◌, inl, inr}
use Rattle.std.proofs.lemmas.Bool.{eq-eqb, ne_eqb}
use Rattle.std.proofs.lemmas.List.{take_all, length_push}
use Rattle.hm_text_base.specs.Spans.{span, Lines, lines_of}
use Rattle.hm_text_base.proofs.LineLaws.{lines_span}
use Rattle.hm_text_base.proofs.Steps.{ok_is, err_is}
use Rattle.hm_kernel_lang.specs.declared.text.Array.{Array}
use Rattle.hm_kernel_lang.specs.declared.text.Line.{Line}
use Rattle.hm_kernel_text.specs.declared.errors.KernelKind.{KernelKind}
use Rattle.hm_kernel_text.specs.declared.errors.KernelKind.TheVariants.{Syntax}
use Rattle.hm_kernel_text.specs.declared.errors.KernelErr.{KernelErr}
use Rattle.hm_kernel_text.specs.declared.errors.KernelErr.TheVariants as refusals
use Rattle.hm_kernel_text.specs.Written.{Written}
use Rattle.hm_kernel_text.specs.Held.{array_written, set_written}
use Rattle.hm_kernel_text.specs.ReadLine.{line_in}
use Rattle.hm_kernel_text.proofs.FoundLines.{SaysArray, SaysSet, line_found}
use Rattle.hm_kernel_text.specs.ReadFile.{Fails, ended, line_at, lines_in, on_line}

pub next_some : (text front rest : List ℕ) (k : ℕ) → (front, rest) ≡ span 10 text → 1 ≤ length rest
    → line_at k (lines_of text) ≡ Ok (front, lines_of (take (length rest - 1) (drop 1 rest)))
next_some text front [] k e some = absurd (omega arith)
next_some text front (b ∷ rest) k e some = rw (lines_span text, ← e, take_all (length (b ∷ rest) - 1) rest (omega arith)) refl

-- the lines from here on
abbrev pub all_lines : ℕ → Written → Lines → Result Written KernelErr
all_lines line k ls = lines_in line k ls.0 ls.1

-- the next line is none
pub ends_line : (e : KernelErr) (line : ℕ) (k : Written) (ls : Lines) (whole : Result Written KernelErr) → line_at line ls ≡ Err e
    → 0 < length ls.0 + length ls.1 → all_lines line k ls ≡ whole → whole ≡ Err e
unfolding lines_in
ends_line e line k ([], []) whole at some so_far = absurd (omega arith)
ends_line e line k ([], b ∷ rest) whole at some so_far = sym so_far
    ∙ ap (λ (x : KernelErr). let r : Result Written KernelErr = Err x in r) (err_is {A = List ℕ × Lines} (refusals.Line line Syntax) e at)
ends_line e line k (l ∷ ls, rest) whole at some so_far = absurd cc

-- the line is bad
pub ends_bad : (e : KernelErr) (line : ℕ) (k : Written) (ls : Lines) (text : List ℕ) (after : Lines) (whole : Result Written KernelErr)
    → line_at line ls ≡ Ok (text, after) → on_line line (line_in k text) ≡ Err e → all_lines line k ls ≡ whole → whole ≡ Err e
unfolding lines_in
ends_bad e line k ([], rest) text after whole at bad so_far = absurd cc
ends_bad e line k (l ∷ ls, rest) text after whole at bad so_far =
    let text-is : l ≡ text = ap (λ (p : List ℕ × Lines). p.0) (ok_is (l, (ls, rest)) (text, after) at) in
    let one : all_lines line k (l ∷ ls, rest) ≡ Err e = rw (text-is, bad) refl in
    sym so_far ∙ one

pub goes_on : (line : ℕ) (k next : Written) (ls : Lines) (text : List ℕ) (after : Lines) (whole : Result Written KernelErr)
    → line_at line ls ≡ Ok (text, after) → on_line line (line_in k text) ≡ Ok next → all_lines line k ls ≡ whole
    → all_lines (line + 1) next after ≡ whole
unfolding lines_in
goes_on line k next ([], rest) text after whole at good so_far = absurd cc
goes_on line k next (l ∷ ls, rest) text after whole at good so_far =
    let both = ok_is (l, (ls, rest)) (text, after) at in
    let text-is : l ≡ text = ap (λ (p : List ℕ × Lines). p.0) both in
    let after-is : (ls, rest) ≡ after = ap (λ (p : List ℕ × Lines). p.1) both in
    let one : all_lines line k (l ∷ ls, rest) ≡ all_lines (line + 1) next (ls, rest) = rw (text-is, good) refl in
    ap (λ (a : Lines). all_lines (line + 1) next a) (sym after-is) ∙ sym one ∙ so_far

-- no line is left
pub is_done : (line : ℕ) (k : Written) (text : List ℕ) (whole : Result Written KernelErr) → length text ≡ 0
    → all_lines line k (lines_of text) ≡ whole → whole ≡ ended line k
unfolding lines_in lines_of
is_done line k [] whole none so_far = sym so_far
is_done line k (b ∷ text) whole none so_far = absurd (omega arith)

-- a refusal that the code passes on
pub fails : (e : KernelErr) (line : ℕ) (k : Written) (ls : Lines) (text : List ℕ) (after : Lines) (whole : Result Written KernelErr)
    → line_at line ls ≡ Ok (text, after) → Fails e (on_line line (line_in k text)) → all_lines line k ls ≡ whole → Fails e whole
fails refusals.OutOfMemory line k ls text after whole at bad so_far = tt
fails (refusals.Line n kind) line k ls text after whole at bad so_far = ends_bad (refusals.Line n kind) line k ls text after whole at bad so_far

pub fails_line : (e : KernelErr) (whole : Result Written KernelErr) → whole ≡ Err e → Fails e whole
fails_line refusals.OutOfMemory whole is = tt
fails_line (refusals.Line n kind) whole is = is

-- ---- how many arrays and lines there are

-- behind a line there is one more
pub record Grows (k next : Written) : Type 0 where
  pub one : length next.arrays + length next.sets ≡ length k.arrays + length k.sets + 1
  pub few_arrays : length next.arrays ≤ 16
  pub few_sets : length next.sets ≤ 16

grows_array : (k next : Written) (text : List ℕ) → length k.sets ≤ 16 → SaysArray k text next → Grows k next
grows_array k next text few says =
    subst (Grows k) says.next_is (let pushed = length_push k.arrays says.array in
    record { one = omega (arith, pushed); few_arrays = omega (arith, pushed, says.room); few_sets = few })

grows_set : (k next : Written) (text : List ℕ) → length k.arrays ≤ 16 → SaysSet k text next → Grows k next
grows_set k next text few says =
    subst (Grows k) says.next_is (let pushed = length_push k.sets says.set in
    record { one = omega (arith, pushed); few_arrays = few; few_sets = omega (arith, pushed, says.room) })

pub on_line_found : {A : Type 0} (line : ℕ) (r : Result A KernelKind) (x : A) → on_line line r ≡ Ok x → r ≡ Ok x
on_line_found line (Ok y) x e = cc
on_line_found line (Err kind) x e = absurd cc

pub grows : (line : ℕ) (k next : Written) (text : List ℕ) → length k.arrays ≤ 16 → length k.sets ≤ 16 → on_line line (line_in k text) ≡ Ok next
    → Grows k next
grows line k next text few_arrays few_sets e = elim (line_found k text next (on_line_found line (line_in k text) next e)) [
  | inl says ↦ grows_array k next text few_sets says
  | inr says ↦ grows_set k next text few_arrays says
]

pub length-arrays : (arrays : List Array) → length (map array_written arrays) ≡ length arrays
length-arrays [] = refl
length-arrays (a ∷ more) = ap suc (length-arrays more)

pub length-sets : (arrays : List Array) (lines : List Line) → length (map (set_written arrays) lines) ≡ length lines
length-sets arrays [] = refl
length-sets arrays (l ∷ more) = ap suc (length-sets arrays more)

-- the lines end before any sets an array, or not
pub ended_none : (line n : ℕ) (k : Written) → length k.sets ≡ n → n ≡ 0 → ended line k ≡ Err (refusals.Line line Syntax)
ended_none line n k is none = rw (is, eq-eqb n 0 none) refl

pub ended_some : (line n : ℕ) (k : Written) → length k.sets ≡ n → n ≢ 0 → ended line k ≡ Ok k
ended_some line n k is some = rw (is, ne_eqb n 0 some) refl
