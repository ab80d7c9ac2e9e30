-- A text that is read is written so.
use Rattle.std.proofs.Common.{◌≡◌, ℕ, ◌+◌, ◌≤◌, Bool, true, false, cond, eqb, List, [], ◌∷◌, ◌++◌, length, drop, map, Option}
use Rattle.std.proofs.Common.{Some, None, Result, Ok, Err, refl, sym, ap, subst, ◌∙◌, arith, inl, inr, append_assoc}
use Rattle.std.specs.Prelude.{◌⊎◌, codes, bytes_eq, nat_eq, ok_or}
use Rattle.std.specs.List.{AllByRecursion, flat_map, starts_with}
use Rattle.std.proofs.lemmas.Bool.{eqb-false}
use Rattle.std.proofs.lemmas.Bool.Decides.{Decides-eqb}
use Rattle.std.proofs.lemmas.List.{append-nil, length_push}
use Rattle.std.proofs.lemmas.Slice.Eq.{bytes_eq-Decides, starts_is}
use Rattle.hm_text_base.specs.Spans.{line, Lines, lines_of}
use Rattle.hm_text_base.proofs.LineLaws.{whole, lines_whole}
use Rattle.hm_text_base.proofs.Steps.{bind_ok, ok_or_found, ok_is, some_is, guard_ok}
use Rattle.hm_kernel_lang.specs.declared.text.ElementType.{ElementType}
use Rattle.hm_kernel_lang.specs.declared.text.ElementType.TheVariants.{U8, S8, U16, S16, U32, S32}
use Rattle.hm_kernel_text.specs.declared.errors.KernelKind.{KernelKind}
use Rattle.hm_kernel_text.specs.declared.errors.KernelKind.TheVariants.{Syntax, Range}
use Rattle.hm_kernel_text.specs.declared.errors.KernelErr.TheVariants as refusals
use Rattle.hm_kernel_text.specs.Words.{is_numeral, number_below}
use Rattle.hm_kernel_text.specs.Written.{WrittenArray, WrittenSet, Written, AreArrays, IsWrittenSet, IsKernel, array_text, set_text}
use Rattle.hm_kernel_text.specs.Written.{header_text, type_text, length_text, kernel_text}
use Rattle.hm_kernel_text.specs.ReadLine.{line_in, with_written_array, with_written_set}
use Rattle.hm_kernel_text.specs.ReadFile.{count_in, first_written, kernel_in, length_in, line_at, lines_in, on_line, type_in}
use Rattle.hm_kernel_text.proofs.NameSteps.{number_found}
use Rattle.hm_kernel_text.proofs.FoundLines.{SaysArray, SaysSet, line_found, some_length}
use Rattle.hm_kernel_text.proofs.FileSteps.{on_line_found}

-- ---- the head

type_made : (text t : List ℕ) (o p : ElementType) (more : Option ElementType) (same : Bool) → (same ≡ true → text ≡ t) → type_text o ≡ t
    → (more ≡ Some p → text ≡ type_text p) → cond same (Some o) more ≡ Some p → text ≡ type_text p
type_made text t o p more true is is-text others e = is refl ∙ sym is-text ∙ ap type_text (some_is o p e)
type_made text t o p more false is is-text others e = others e

no_type : (text : List ℕ) (p : ElementType) → None ≡ Some p → text ≡ type_text p
no_type text p e = absurd cc

type_found : (text : List ℕ) (p : ElementType) → type_in text ≡ Some p → text ≡ type_text p
unfolding type_in
type_found w p e =
    type_made w (codes "type u8") U8 p _ (bytes_eq w (codes "type u8")) (bytes_eq-Decides w (codes "type u8")).0 refl
    (type_made w (codes "type s8") S8 p _ (bytes_eq w (codes "type s8")) (bytes_eq-Decides w (codes "type s8")).0 refl
    (type_made w (codes "type u16") U16 p _ (bytes_eq w (codes "type u16")) (bytes_eq-Decides w (codes "type u16")).0 refl
    (type_made w (codes "type s16") S16 p _ (bytes_eq w (codes "type s16")) (bytes_eq-Decides w (codes "type s16")).0 refl
    (type_made w (codes "type u32") U32 p _ (bytes_eq w (codes "type u32")) (bytes_eq-Decides w (codes "type u32")).0 refl
    (type_made w (codes "type s32") S32 p None (bytes_eq w (codes "type s32")) (bytes_eq-Decides w (codes "type s32")).0 refl (no_type w p)))))) e

pass_ok : {A : Type 0} (b : Bool) (r : Result A KernelKind) (kind : KernelKind) (x : A) → cond b r (Err kind) ≡ Ok x → (b ≡ true) × (r ≡ Ok x)
pass_ok true r kind x e = (refl, e)
pass_ok false r kind x e = absurd cc

length_found : (text : List ℕ) (n : ℕ) → length_in text ≡ Ok n → (text ≡ length_text n) × (n ≤ 65536)
unfolding length_in
length_found text n e =
    let p = pass_ok (starts_with nat_eq text (codes "length ")) (count_in (drop 7 text)) Syntax n e in
    let q = pass_ok (is_numeral (drop 7 text)) (ok_or (number_below 65537 (drop 7 text)) Range) Syntax n p.1 in
    let found = number_found 65537 (drop 7 text) n (ok_or_found (number_below 65537 (drop 7 text)) Range n q.1) in
    let front : text ≡ codes "length " ++ drop 7 text = (starts_is Decides-eqb text (codes "length ") (starts_with nat_eq text (codes "length ")) refl).0 p.0 in
    (front ∙ ap (λ (x : List ℕ). codes "length " ++ x) found.0, omega (arith, found.1))

-- ---- the lines

record LinesFound (ls : List (List ℕ)) (rest : List ℕ) (k w : Written) : Type 0 where
  ended : rest ≡ []
  arrays : List WrittenArray
  sets : List WrittenSet
  is : record k { arrays = k.arrays ++ arrays; sets = k.sets ++ sets } ≡ w
  texts : ls ≡ map array_text arrays ++ map set_text sets
  new : AreArrays k.element k.count k.arrays arrays
  good : AllByRecursion (IsWrittenSet k.element (k.arrays ++ arrays)) sets
  late : 1 ≤ length k.sets → arrays ≡ []
  some_arrays : 1 ≤ length w.arrays
  few_arrays : length w.arrays ≤ 16
  some_sets : 1 ≤ length w.sets
  few_sets : length w.sets ≤ 16

-- what holds of what is read so far
record Sound (k : Written) : Type 0 where
  few_arrays : length k.arrays ≤ 16
  few_sets : length k.sets ≤ 16
  some : 1 ≤ length k.sets → 1 ≤ length k.arrays

ended_found : (k w : Written) (rest : List ℕ) → rest ≡ [] → Sound k → 1 ≤ length k.sets → k ≡ w → LinesFound [] rest k w
ended_found k w rest none s some is = subst (LinesFound [] rest k) is (record {
  ended = none;
  arrays = [];
  sets = [];
  is = ap (λ (x : List WrittenArray). record k { arrays = x; sets = k.sets ++ [] }) (append-nil k.arrays)
      ∙ ap (λ (x : List WrittenSet). record k { sets = x }) (append-nil k.sets);
  texts = refl;
  new = tt;
  good = tt;
  late = λ _. refl;
  some_arrays = s.some some;
  few_arrays = s.few_arrays;
  some_sets = some;
  few_sets = s.few_sets;
})

array_behind : (k w : Written) (l : List ℕ) (ls : List (List ℕ)) (rest : List ℕ) (next : Written) (says : SaysArray k l next)
    → LinesFound ls rest (with_written_array k says.array) w → LinesFound (l ∷ ls) rest k w
array_behind k w l ls rest next says more = record {
  ended = more.ended;
  arrays = says.array ∷ more.arrays;
  sets = more.sets;
  is = ap (λ (x : List WrittenArray). record k { arrays = x; sets = k.sets ++ more.sets }) (sym (append_assoc k.arrays (says.array ∷ []) more.arrays))
      ∙ more.is;
  texts = rw (says.text_is, more.texts) refl;
  new = (says.is, more.new);
  good = subst (λ (x : List WrittenArray). AllByRecursion (IsWrittenSet k.element x) more.sets) (append_assoc k.arrays (says.array ∷ []) more.arrays) more.good;
  late = λ (some : 1 ≤ length k.sets). absurd (omega (arith, says.first, some));
  some_arrays = more.some_arrays;
  few_arrays = more.few_arrays;
  some_sets = more.some_sets;
  few_sets = more.few_sets;
}

set_behind : (k w : Written) (l : List ℕ) (ls : List (List ℕ)) (rest : List ℕ) (next : Written) (says : SaysSet k l next)
    (more : LinesFound ls rest (with_written_set k says.set) w) → more.arrays ≡ [] → LinesFound (l ∷ ls) rest k w
set_behind k w l ls rest next says more none =
    let same : k.arrays ++ more.arrays ≡ k.arrays ++ [] = ap (λ (x : List WrittenArray). k.arrays ++ x) none in
    record {
      ended = more.ended;
      arrays = [];
      sets = says.set ∷ more.sets;
      is = ap (λ (x : List WrittenArray). record k { arrays = x; sets = k.sets ++ (says.set ∷ more.sets) }) (sym same)
          ∙ ap (λ (x : List WrittenSet). record k { arrays = k.arrays ++ more.arrays; sets = x }) (sym (append_assoc k.sets (says.set ∷ []) more.sets))
          ∙ more.is;
      texts = ap (λ (x : List ℕ). x ∷ ls) says.text_is
          ∙ ap (λ (x : List (List ℕ)). set_text says.set ∷ x) (more.texts ∙ ap (λ (x : List WrittenArray). map array_text x ++ map set_text more.sets) none);
      new = tt;
      good = (
        subst (λ (x : List WrittenArray). IsWrittenSet k.element x says.set) (sym (append-nil k.arrays)) says.is,
        subst (λ (x : List WrittenArray). AllByRecursion (IsWrittenSet k.element x) more.sets) same more.good,
      );
      late = λ _. refl;
      some_arrays = more.some_arrays;
      few_arrays = more.few_arrays;
      some_sets = more.some_sets;
      few_sets = more.few_sets;
    }

sound_array : (k : Written) (l : List ℕ) (next : Written) (says : SaysArray k l next) → Sound k → Sound (with_written_array k says.array)
sound_array k l next says s =
    let pushed = length_push k.arrays says.array in
    record {
      few_arrays = omega (arith, pushed, says.room);
      few_sets = s.few_sets;
      some = λ (some : 1 ≤ length k.sets). absurd (omega (arith, says.first, some));
    }

sound_set : (k : Written) (l : List ℕ) (next : Written) (says : SaysSet k l next) → Sound k → Sound (with_written_set k says.set)
sound_set k l next says s =
    let pushed = length_push k.sets says.set in
    record { few_arrays = s.few_arrays; few_sets = omega (arith, pushed, says.room); some = λ _. says.some }

-- a line, and what is known of those behind it
behind : (k w : Written) (l : List ℕ) (ls : List (List ℕ)) (rest : List ℕ) (next : Written) → Sound k → (SaysArray k l next ⊎ SaysSet k l next)
    → (Sound next → LinesFound ls rest next w) → LinesFound (l ∷ ls) rest k w
behind k w l ls rest next s (inl says) more =
    let P : Written → Type 0 = λ x. Sound x → LinesFound ls rest x w in
    array_behind k w l ls rest next says (subst P (sym says.next_is) more (sound_array k l next says s))
behind k w l ls rest next s (inr says) more =
    let P : Written → Type 0 = λ x. Sound x → LinesFound ls rest x w in
    let found = subst P (sym says.next_is) more (sound_set k l next says s) in
    set_behind k w l ls rest next says found (found.late (omega (arith, length_push k.sets says.set)))

lines_found : (ls : List (List ℕ)) (rest : List ℕ) (n : ℕ) (k w : Written) → Sound k → lines_in n k ls rest ≡ Ok w → LinesFound ls rest k w
unfolding lines_in
lines_found [] [] n k w s e =
    let g = guard_ok (eqb (length k.sets) 0) (refusals.Line n Syntax) k w e in
    ended_found k w [] refl s (some_length (length k.sets) (eqb-false _ _ g.0)) g.1
lines_found [] (b ∷ rest) n k w s e = absurd cc
lines_found (l ∷ ls) rest n k w s e =
    let next = bind_ok (on_line n (line_in k l)) (λ next. lines_in (n + 1) next ls rest) w e in
    behind k w l ls rest next.0 s (line_found k l next.0 (on_line_found n (line_in k l) next.0 next.1))
    (λ sound. lines_found ls rest (n + 1) next.0 w sound next.2)

-- ---- all of a text

line_at_found : (k : ℕ) (ls : Lines) (x : List ℕ × Lines) → line_at k ls ≡ Ok x → ls ≡ (x.0 ∷ x.1.0, x.1.1)
line_at_found k ([], rest) x e = absurd cc
line_at_found k (l ∷ ls, rest) x e = ap (λ (y : List ℕ × Lines). (y.0 ∷ y.1.0, y.1.1)) (ok_is (l, (ls, rest)) x e)

header_go : (same : Bool) (text : List ℕ) (ls x : Lines) → (same ≡ true → text ≡ header_text)
    → cond same (Ok ls) (Err (refusals.Line 1 Syntax)) ≡ Ok x → (text ≡ header_text) × (ls ≡ x)
header_go true text ls x is e = (is refl, ok_is ls x e)
header_go false text ls x is e = absurd cc

joined_lines : (text : List ℕ) (x1 x2 x3 : List ℕ × Lines) (h : Lines) → lines_of text ≡ (x1.0 ∷ x1.1.0, x1.1.1) → x1.1 ≡ h
    → h ≡ (x2.0 ∷ x2.1.0, x2.1.1) → x2.1 ≡ (x3.0 ∷ x3.1.0, x3.1.1) → lines_of text ≡ (x1.0 ∷ x2.0 ∷ x3.0 ∷ x3.1.0, x3.1.1)
joined_lines text x1 x2 x3 h e1 eh e2 e3 = e1 ∙ ap (λ (y : Lines). (x1.0 ∷ y.0, y.1)) (eh ∙ e2 ∙ ap (λ (y : Lines). (x2.0 ∷ y.0, y.1)) e3)

kernel_made : (text l1 l2 l3 : List ℕ) (ls : List (List ℕ)) (rest : List ℕ) (t : ElementType) (n : ℕ) (w : Written)
    → lines_of text ≡ (l1 ∷ l2 ∷ l3 ∷ ls, rest) → l1 ≡ header_text → l2 ≡ type_text t → l3 ≡ length_text n → n ≤ 65536
    → LinesFound ls rest (first_written t n) w → IsKernel text w
kernel_made text l1 l2 l3 ls rest t n w cut is1 is2 is3 le found =
    let made : Written = record { element = t; count = n; arrays = found.arrays; sets = found.sets } in
    let all : text ≡ flat_map line (l1 ∷ l2 ∷ l3 ∷ ls) ++ rest = sym (lines_whole text) ∙ ap whole cut in
    let texts : flat_map line (l1 ∷ l2 ∷ l3 ∷ ls) ++ rest ≡ kernel_text made = rw (is1, is2, is3, found.texts, found.ended) (append-nil (kernel_text made)) in
    let P : Written → Type 0 = λ x. (1 ≤ length x.arrays) × (length x.arrays ≤ 16) × (1 ≤ length x.sets) × (length x.sets ≤ 16) in
    let bounds = subst P (sym found.is) (found.some_arrays, found.few_arrays, found.some_sets, found.few_sets) in
    subst (IsKernel text) found.is (record {
      fits = record {
        count = le;
        some_arrays = bounds.0;
        few_arrays = bounds.1;
        some_sets = bounds.2;
        few_sets = bounds.3;
        arrays = found.new;
        sets = found.good;
      };
      bytes_are = all ∙ texts;
    })

first_sound : (t : ElementType) (n : ℕ) → Sound (first_written t n)
first_sound t n = record { few_arrays = omega arith; few_sets = omega arith; some = λ (some : 1 ≤ 0). absurd (omega arith) }

pub kernel_found : (text : List ℕ) (w : Written) → kernel_in text ≡ Ok w → IsKernel text w
unfolding kernel_in
kernel_found text w e =
    let a = bind_ok (line_at 1 (lines_of text)) _ w e in
    let h = bind_ok (cond (bytes_eq a.0.0 header_text) (Ok a.0.1) (Err (refusals.Line 1 Syntax))) _ w a.2 in
    let b = bind_ok (line_at 2 h.0) _ w h.2 in
    let t = bind_ok (ok_or (type_in b.0.0) (refusals.Line 2 Syntax)) _ w b.2 in
    let d = bind_ok (line_at 3 b.0.1) _ w t.2 in
    let n = bind_ok (on_line 3 (length_in d.0.0)) _ w d.2 in
    let header = header_go (bytes_eq a.0.0 header_text) a.0.0 a.0.1 h.0 (bytes_eq-Decides a.0.0 header_text).0 h.1 in
    let count = length_found d.0.0 n.0 (on_line_found 3 (length_in d.0.0) n.0 n.1) in
    kernel_made text a.0.0 b.0.0 d.0.0 d.0.1.0 d.0.1.1 t.0 n.0 w
    (joined_lines text a.0 b.0 d.0 h.0 (line_at_found 1 (lines_of text) a.0 a.1) header.1 (line_at_found 2 h.0 b.0 b.1) (line_at_found 3 b.0.1 d.0 d.1))
    header.0 (type_found b.0.0 t.0 (ok_or_found (type_in b.0.0) (refusals.Line 2 Syntax) t.0 t.1)) count.0 count.1
    (lines_found d.0.1.0 d.0.1.1 4 (first_written t.0 n.0) w (first_sound t.0 n.0) n.2)
