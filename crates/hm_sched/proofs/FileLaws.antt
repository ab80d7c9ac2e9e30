-- A schedule file that is read is written so, and what is written so is read.
use Rattle.std.proofs.Common.{◌≡◌, ℕ, ◌+◌, ◌≤◌, Bool, true, false, cond, eqb, ltb, List, [], ◌∷◌, ◌++◌, map, drop, length, Option, Some, None, Result, Ok, Err}
use Rattle.std.proofs.Common.{refl, sym, ap, subst, ◌∙◌, arith, inl, inr}
use Rattle.std.specs.Prelude.{option_and_then, ok_or, codes, ◌||◌, bytes_eq, nat_eq}
use Rattle.std.proofs.lemmas.List.Elements.{All-nil, All-cons}
use Rattle.std.specs.List.{All, AllByRecursion, starts_with, flat_map}
use Rattle.std.proofs.lemmas.Bool.{ltb-false, le-ltb, or_parts}
use Rattle.std.proofs.lemmas.Bool.Decides.{Decides-eqb}
use Rattle.std.proofs.lemmas.Slice.Eq.{bytes_eq-Decides, starts_is}
use Rattle.std.proofs.lemmas.List.{append-nil}
use Rattle.hm_sched.specs.declared.errors.LineKind.{LineKind}
use Rattle.hm_sched.specs.declared.errors.LineKind.TheVariants.{Header, Entries, Region, Floor, Process}
use Rattle.hm_sched.specs.declared.errors.SchedErr.{SchedErr}
use Rattle.hm_sched.specs.declared.errors.SchedErr.TheVariants as refusals
use Rattle.hm_text_base.specs.Reading.{◌>>=◌}
use Rattle.std.specs.Prelude.{IfOk}
use Rattle.hm_text_base.specs.Spans.{span, Lacks, line, Lines, lines_of}
use Rattle.hm_text_base.specs.Texts.{hex8}
use Rattle.hm_text_base.specs.Numbers.{hex8_in}
use Rattle.hm_base.specs.Image.{sram_start, sram_size}
use Rattle.hm_sched.specs.Schedule.{TickLine, Sched, IsFormat, IsLine, IsSched, most_irq, first_line, most_ticks, total}
use Rattle.hm_sched.specs.Written.{Written, IsWritten, ticks_text, meaning, header_text, entries_text, region_text, floor_text, process_text, process_lines}
use Rattle.hm_sched.specs.Written.{head_lines, IsFile}
use Rattle.hm_sched.specs.ReadLine.{ticks_in}
use Rattle.hm_sched.specs.ReadFile.{line_at, header_in, entries_in, bounded_region, addresses_in, region_in, bounded_floor, floor_in, process_in, process_from}
use Rattle.hm_sched.specs.ReadFile.{on_line, lines_in, file_in, Gives}
use Rattle.hm_text_base.proofs.Steps.{bind_ok, ok_or_found, ok_is, some_is, and_then_some, guard_some, test_some, guard_ok}
use Rattle.hm_text_base.proofs.NumberLaws.{hex8_found, hex8_again, hex8_lacks}
use Rattle.hm_text_base.proofs.LineLaws.{whole, lines_whole, lines_again}
use Rattle.hm_text_base.proofs.SpanLaws.{BeginsWith, span_parts, span_first, span_at, Lacks_append, Lacks_from_test}
use Rattle.hm_sched.proofs.Ticks.{total-cons, most_irq_few}
use Rattle.hm_sched.proofs.TickLaws.{IsTicks, ticks_found, ticks_again, ticks_lack, IsLine-meaning, MayAdd, MayAdd-ticks}

-- ---- the head

prefix_found : (text p : List ℕ) → starts_with nat_eq text p ≡ true → text ≡ p ++ drop (length p) text
prefix_found text p e = (starts_is Decides-eqb text p (starts_with nat_eq text p) refl).0 e

with_header : (text : List ℕ) (f : ℕ) (there : Bool) → (there ≡ true → text ≡ header_text 2) → cond there (Some 2) None ≡ Some f
    → (text ≡ header_text f) × IsFormat f
with_header text f true is e = subst (λ (x : ℕ). (text ≡ header_text x) × IsFormat x) (some_is 2 f e) (is refl, inr refl)
with_header text f false is e = absurd cc

one_header : (text : List ℕ) (f : ℕ) (there : Bool) (rest : Option ℕ) → (there ≡ true → text ≡ header_text 1)
    → (rest ≡ Some f → (text ≡ header_text f) × IsFormat f) → cond there (Some 1) rest ≡ Some f
    → (text ≡ header_text f) × IsFormat f
one_header text f true rest is more e = subst (λ (x : ℕ). (text ≡ header_text x) × IsFormat x) (some_is 1 f e) (is refl, inl refl)
one_header text f false rest is more e = more e

pub header_found : (text : List ℕ) (f : ℕ) → header_in text ≡ Some f → (text ≡ header_text f) × IsFormat f
unfolding header_in
header_found text f e =
    one_header text f (bytes_eq text (header_text 1)) _ (bytes_eq-Decides text (header_text 1)).0
    (with_header text f (bytes_eq text (header_text 2)) (bytes_eq-Decides text (header_text 2)).0) e

header_again : (f : ℕ) → IsFormat f → header_in (header_text f) ≡ Some f
unfolding header_in
header_again f (inl one) = rw one refl
header_again f (inr two) = rw two refl

with_entries : (text : List ℕ) (b there : Bool) → (there ≡ true → text ≡ codes "entries yes") → cond there (Some true) None ≡ Some b → text ≡ entries_text b
with_entries text b true is e = subst (λ (x : Bool). text ≡ entries_text x) (some_is true b e) (is refl)
with_entries text b false is e = absurd cc

without_entries : (text : List ℕ) (b there : Bool) (rest : Option Bool) → (there ≡ true → text ≡ codes "entries no") → (rest ≡ Some b → text ≡ entries_text b)
    → cond there (Some false) rest ≡ Some b
    → text ≡ entries_text b
without_entries text b true rest is more e = subst (λ (x : Bool). text ≡ entries_text x) (some_is false b e) (is refl)
without_entries text b false rest is more e = more e

pub entries_found : (text : List ℕ) (b : Bool) → entries_in text ≡ Some b → text ≡ entries_text b
unfolding entries_in
entries_found text b e =
    without_entries text b (bytes_eq text (codes "entries no")) _ (bytes_eq-Decides text (codes "entries no")).0
    (with_entries text b (bytes_eq text (codes "entries yes")) (bytes_eq-Decides text (codes "entries yes")).0) e

entries_again : (b : Bool) → entries_in (entries_text b) ≡ Some b
unfolding entries_in
entries_again true = refl
entries_again false = refl

region_made : (text low from : List ℕ) (lo hi : ℕ) → text ≡ codes "region " ++ (low ++ from) → BeginsWith 32 from → eqb (length from) 0 ≡ false → low ≡ hex8 lo
    → drop 1 from ≡ hex8 hi → text ≡ region_text lo hi
region_made text low [] lo hi parts first some is-low is-high = absurd cc
region_made text low (b ∷ from) lo hi parts first some is-low is-high = parts ∙ rw (is-low, first, is-high) refl

pub record Within (lo hi : ℕ) : Type 0 where
  pub low : sram_start ≤ lo
  pub order : lo ≤ hi
  pub high : hi ≤ (sram_start + sram_size)

bounded_found : (lo hi : ℕ) (x : ℕ × ℕ) → bounded_region lo hi ≡ Some x → Within lo hi × ((lo, hi) ≡ x)
bounded_found lo hi x e =
    let g = guard_some (ltb lo sram_start || (ltb hi lo || ltb (sram_start + sram_size) hi)) (Some (lo, hi)) x e in
    let t = or_parts (ltb lo sram_start) (ltb hi lo || ltb (sram_start + sram_size) hi) g.0 in
    let u = or_parts (ltb hi lo) (ltb (sram_start + sram_size) hi) t.1 in
    (record { low = ltb-false _ _ t.0; order = ltb-false _ _ u.0; high = ltb-false _ _ u.1 }, some_is (lo, hi) x g.1)

pub region_found : (text : List ℕ) (x : ℕ × ℕ) → region_in text ≡ Some x → (text ≡ region_text x.0 x.1) × Within x.0 x.1
unfolding region_in
region_found text x e =
    let s = span 32 (drop 7 text) in
    let a = test_some (starts_with nat_eq text (codes "region "))
    (cond (eqb (length (span 32 (drop 7 text)).1) 0) None (addresses_in (span 32 (drop 7 text)).0 (drop 1 (span 32 (drop 7 text)).1))) x e in
    let g = guard_some (eqb (length (span 32 (drop 7 text)).1) 0) (addresses_in (span 32 (drop 7 text)).0 (drop 1 (span 32 (drop 7 text)).1)) x a.1 in
    let lo = and_then_some (hex8_in (span 32 (drop 7 text)).0) (λ lo. option_and_then (λ hi. bounded_region lo hi) (hex8_in (drop 1 (span 32 (drop 7 text)).1)))
    x g.1 in
    let hi = and_then_some (hex8_in (drop 1 (span 32 (drop 7 text)).1)) (λ hi. bounded_region lo.0 hi) x lo.2 in
    let b = bounded_found lo.0 hi.0 x hi.2 in
    let made = region_made text (span 32 (drop 7 text)).0 (span 32 (drop 7 text)).1 lo.0 hi.0
    (prefix_found text (codes "region ") a.0 ∙ ap (λ (r : List ℕ). codes "region " ++ r) (sym (span_parts 32 (drop 7 text)))) (span_first 32 (drop 7 text))
    g.0 (hex8_found (span 32 (drop 7 text)).0 lo.0 lo.1) (hex8_found (drop 1 (span 32 (drop 7 text)).1) hi.0 hi.1) in
    subst (λ (y : ℕ × ℕ). (text ≡ region_text y.0 y.1) × Within y.0 y.1) b.1 (made, b.0)

region_again : (lo hi : ℕ) → Within lo hi → region_in (region_text lo hi) ≡ Some (lo, hi)
unfolding region_in
region_again lo hi w =
    let cut = span_at 32 (hex8 lo) (hex8 hi) (hex8_lacks 32 lo (omega arith)) in
    let a : ltb lo sram_start ≡ false = le-ltb _ _ w.low in
    let b : ltb hi lo ≡ false = le-ltb _ _ w.order in
    let c : ltb (sram_start + sram_size) hi ≡ false = le-ltb _ _ w.high in
    rw (cut, hex8_again lo (omega (arith, w.low, w.order, w.high)), hex8_again hi (omega (arith, w.high)), a, b, c) refl

-- an address that is that of a floor
pub record IsFloor (a : ℕ) : Type 0 where
  pub low : sram_start ≤ a
  pub high : a ≤ (sram_start + sram_size)

floor_bounded : (x a : ℕ) → bounded_floor x ≡ Some a → IsFloor a × (x ≡ a)
floor_bounded x a e =
    let g = guard_some (ltb x sram_start || ltb (sram_start + sram_size) x) (Some x) a e in
    let t = or_parts (ltb x sram_start) (ltb (sram_start + sram_size) x) g.0 in
    let same = some_is x a g.1 in
    (subst IsFloor same record { low = ltb-false _ _ t.0; high = ltb-false _ _ t.1 }, same)

bounded_again : (a : ℕ) → IsFloor a → bounded_floor a ≡ Some a
bounded_again a fits =
    let l : ltb a sram_start ≡ false = le-ltb _ _ fits.low in
    let h : ltb (sram_start + sram_size) a ≡ false = le-ltb _ _ fits.high in
    rw (l, h) refl

pub floor_found : (text : List ℕ) (a : ℕ) → floor_in text ≡ Some a → (text ≡ floor_text a) × IsFloor a
unfolding floor_in
floor_found text a e =
    let p = test_some (starts_with nat_eq text (codes "floor ")) (option_and_then bounded_floor (hex8_in (drop 6 text))) a e in
    let x = and_then_some (hex8_in (drop 6 text)) bounded_floor a p.1 in
    let b = floor_bounded x.0 a x.2 in
    (prefix_found text (codes "floor ") p.0 ∙ ap (λ (r : List ℕ). codes "floor " ++ r) (hex8_found (drop 6 text) x.0 x.1 ∙ ap hex8 b.1), b.0)

floor_again : (a : ℕ) → IsFloor a → floor_in (floor_text a) ≡ Some a
unfolding floor_in
floor_again a fits =
    let high : a ≤ (sram_start + sram_size) = fits.high in
    rw (hex8_again a (omega (arith, high))) (bounded_again a fits)

pub process_found : (text : List ℕ) (a : ℕ) → process_in text ≡ Some a → (text ≡ process_text a) × IsFloor a
unfolding process_in
process_found text a e =
    let p = test_some (starts_with nat_eq text (codes "process ")) (option_and_then bounded_floor (hex8_in (drop 8 text))) a e in
    let x = and_then_some (hex8_in (drop 8 text)) bounded_floor a p.1 in
    let b = floor_bounded x.0 a x.2 in
    (prefix_found text (codes "process ") p.0 ∙ ap (λ (r : List ℕ). codes "process " ++ r) (hex8_found (drop 8 text) x.0 x.1 ∙ ap hex8 b.1), b.0)

process_again : (a : ℕ) → IsFloor a → process_in (process_text a) ≡ Some a
unfolding process_in
process_again a fits =
    let high : a ≤ (sram_start + sram_size) = fits.high in
    rw (hex8_again a (omega (arith, high))) (bounded_again a fits)

-- ---- the lines of ticks

pub record LinesFound (most : ℕ) (ls : List (List ℕ)) (rest : List ℕ) (before : ℕ) (ts : List TickLine) : Type 0 where
  pub ended : rest ≡ []
  pub written : List Written
  pub fits : AllByRecursion (IsWritten most) written
  pub texts : ls ≡ map ticks_text written
  pub meanings : ts ≡ map meaning written
  pub each_line : All (IsLine most) ts
  pub within : before + total ts ≤ most_ticks

on_line_found : {A : Type 0} (k : ℕ) (r : Result A LineKind) (x : A) → on_line k r ≡ Ok x → r ≡ Ok x
on_line_found k (Ok y) x e = cc
on_line_found k (Err kind) x e = absurd cc

-- what the k-th line says may be added to a schedule
pub MayAdd-line : (most k : ℕ) (text : List ℕ) (t : TickLine) → most ≤ 256 → on_line k (ticks_in most text) ≡ Ok t → MayAdd most t
MayAdd-line most k text t few e = MayAdd-ticks most text t few (on_line_found k (ticks_in most text) t e)

lines_made : (most : ℕ) (l : List ℕ) (ls : List (List ℕ)) (rest : List ℕ) (before : ℕ) (t : TickLine) (more ts : List TickLine) → most ≤ 256 → IsTicks most l t
    → LinesFound most ls rest (before + t.count) more → t ∷ more ≡ ts → LinesFound most (l ∷ ls) rest before ts
lines_made most l ls rest before t more ts few one others made =
    subst (λ (x : List TickLine). LinesFound most (l ∷ ls) rest before x) made record {
      ended = others.ended;
      written = one.0 ∷ others.written;
      fits = (one.1, others.fits);
      texts = rw (one.2, others.texts) refl;
      meanings = rw (one.3, others.meanings) refl;
      each_line = All-cons (IsLine most) t more (subst (IsLine most) (sym one.3) (IsLine-meaning most one.0 few one.1)) others.each_line;
      within = omega (arith, others.within, total-cons t more);
    }

pub lines_found : (most : ℕ) (ls : List (List ℕ)) (rest : List ℕ) (k before : ℕ) (ts : List TickLine) → most ≤ 256 → before ≤ most_ticks
    → lines_in most k before ls rest ≡ Ok ts → LinesFound most ls rest before ts
unfolding lines_in
lines_found most [] [] k before ts few le e =
    subst (λ (x : List TickLine). LinesFound most [] [] before x) (ok_is [] ts e) record
    { ended = refl; written = []; fits = tt; texts = refl; meanings = refl; each_line = All-nil (IsLine most); within = omega arith }
lines_found most [] (b ∷ rest) k before ts few le e = absurd cc
lines_found most (l ∷ ls) rest k before ts few le e =
    let a = bind_ok (on_line k (ticks_in most l)) _ ts e in
    let b = bind_ok (cond (ltb most_ticks (before + a.0.count)) (Err (refusals.TooManyTicks k)) (Ok (before + a.0.count))) _ ts a.2 in
    let g = guard_ok (ltb most_ticks (before + a.0.count)) (refusals.TooManyTicks k) (before + a.0.count) b.0 b.1 in
    let d = bind_ok (lines_in most (k + 1) b.0 ls rest) _ ts b.2 in
    let le2 : before + a.0.count ≤ most_ticks = ltb-false _ _ g.0 in
    let more = lines_found most ls rest (k + 1) (before + a.0.count) d.0 few le2 (ap (λ (x : ℕ). lines_in most (k + 1) x ls rest) g.1 ∙ d.1) in
    lines_made most l ls rest before a.0 d.0 ts few (ticks_found most l a.0 (on_line_found k (ticks_in most l) a.0 a.1)) more (ok_is (a.0 ∷ d.0) ts d.2)

written_again : (most : ℕ) (ws : List Written) (k before : ℕ) → most ≤ 256 → AllByRecursion (IsWritten most) ws → before + total (map meaning ws) ≤ most_ticks
    → lines_in most k before (map ticks_text ws) [] ≡ Ok (map meaning ws)
unfolding lines_in
written_again most [] k before few fits le = refl
written_again most (w ∷ ws) k before few fits le =
    let sum = total-cons (meaning w) (map meaning ws) in
    let room : ltb most_ticks (before + (meaning w).count) ≡ false = le-ltb _ _ (omega arith) in
    rw (ticks_again most w few fits.0, room, written_again most ws (k + 1) (before + (meaning w).count) few fits.1 (omega arith)) refl

-- ---- the file

line_found : (k : ℕ) (kind : LineKind) (ls : Lines) (x : List ℕ × Lines) → line_at k kind ls ≡ Ok x → ls ≡ (x.0 ∷ x.1.0, x.1.1)
line_found k kind ([], []) x e = absurd cc
line_found k kind ([], b ∷ rest) x e = absurd cc
line_found k kind (l ∷ ls, rest) x e = ap (λ (y : List ℕ × Lines). (y.0 ∷ y.1.0, y.1.1)) (ok_is (l, (ls, rest)) x e)

-- the floor of the process stack, and the lines from which it was read
pub record ProcessFound (format floor : ℕ) (ls : Lines) (x : ℕ × Lines) : Type 0 where
  pub lines : ls ≡ (process_lines format x.0 ++ x.1.0, x.1.1)
  pub fits : IsFloor x.0
  pub one_floor : format ≡ 1 → x.0 ≡ floor

own_process : (floor : ℕ) (ls : Lines) (x : ℕ × Lines) (l : List ℕ × Lines) (a : ℕ) → ls ≡ (l.0 ∷ l.1.0, l.1.1) → (l.0 ≡ process_text a) × IsFloor a
    → (a, l.1) ≡ x → ProcessFound 2 floor ls x
own_process floor ls x l a cut is made =
    subst (λ (y : ℕ × Lines). ProcessFound 2 floor ls y) made record {
      lines = cut ∙ ap (λ (t : List ℕ). (t ∷ l.1.0, l.1.1)) is.0;
      fits = is.1;
      one_floor = λ e. absurd cc;
    }

pub process_from_found : (format floor : ℕ) (ls : Lines) (x : ℕ × Lines) → IsFormat format → IsFloor floor → process_from format floor ls ≡ Ok x
    → ProcessFound format floor ls x
unfolding process_from
process_from_found format floor ls x (inl one) fits e =
    let same : (floor, ls) ≡ x = ok_is (floor, ls) x (rw one at e) in
    subst (λ (y : ℕ × Lines). ProcessFound format floor ls y) same record { lines = rw one refl; fits = fits; one_floor = λ _. refl }
process_from_found format floor ls x (inr two) fits e =
    let a = bind_ok (line_at 5 Process ls) (λ fifth. ok_or (process_in fifth.0) (refusals.Line 5 Process) >>= λ process. Ok (process, fifth.1)) x
    (rw two at e) in
    let b = bind_ok (ok_or (process_in a.0.0) (refusals.Line 5 Process)) (λ process. Ok (process, a.0.1)) x a.2 in
    let found = process_found a.0.0 b.0 (ok_or_found (process_in a.0.0) (refusals.Line 5 Process) b.0 b.1) in
    rw two (own_process floor ls x a.0 b.0 (line_found 5 Process ls a.0 a.1) found (ok_is (b.0, a.0.1) x b.2))

process_from_again : (format floor process : ℕ) (ls : List (List ℕ)) → IsFormat format → IsFloor process → (format ≡ 1 → process ≡ floor)
    → process_from format floor (process_lines format process ++ ls, []) ≡ Ok (process, (ls, []))
unfolding process_from
process_from_again format floor process ls (inl one) fits same = rw (one, same one) refl
process_from_again format floor process ls (inr two) fits same = rw (two, process_again process fits) refl

-- the parts of a head that was read
pub record HeadFound (bytes : List ℕ) (format : ℕ) (entries : Bool) (lo hi floor : ℕ) (x : ℕ × Lines) : Type 0 where
  pub cut : lines_of bytes ≡ (header_text format ∷ entries_text entries ∷ region_text lo hi ∷ floor_text floor ∷ process_lines format x.0 ++ x.1.0, x.1.1)
  pub known : IsFormat format
  pub region : Within lo hi
  pub floor_fits : IsFloor floor
  pub process_fits : IsFloor x.0
  pub one_floor : format ≡ 1 → x.0 ≡ floor

file_made : (bytes : List ℕ) (format : ℕ) (entries : Bool) (lo hi floor : ℕ) (x : ℕ × Lines) (lines : List TickLine) (s : Sched)
    → HeadFound bytes format entries lo hi floor x → LinesFound (most_irq format) x.1.0 x.1.1 0 lines
    → record { format = format; entries = entries; lo = lo; hi = hi; floor = floor; process = x.0; lines = lines } ≡ s → IsFile bytes s
file_made bytes format entries lo hi floor x lines s head found made =
    let front = header_text format ∷ entries_text entries ∷ region_text lo hi ∷ floor_text floor ∷ process_lines format x.0 in
    let all : bytes ≡ flat_map line (header_text format ∷ entries_text entries ∷ region_text lo hi ∷ floor_text floor ∷ process_lines format x.0 ++ x.1.0)
    ++ x.1.1 = sym (lines_whole bytes) ∙ ap whole head.cut in
    let text : flat_map line (header_text format ∷ entries_text entries ∷ region_text lo hi ∷ floor_text floor ∷ process_lines format x.0 ++ x.1.0) ++ x.1.1
    ≡ flat_map line (header_text format ∷ entries_text entries ∷ region_text lo hi ∷ floor_text floor ∷ process_lines format x.0
    ++ map ticks_text found.written)
    = rw (found.texts, found.ended)
    (append-nil (flat_map line (header_text format ∷ entries_text entries ∷ region_text lo hi ∷ floor_text floor ∷ process_lines format x.0
    ++ map ticks_text found.written))) in
    let sound : IsSched (record { format = format; entries = entries; lo = lo; hi = hi; floor = floor; process = x.0; lines = lines }) = record {
      known = head.known;
      region_start = head.region.low;
      region_order = head.region.order;
      region_end = head.region.high;
      floor_start = head.floor_fits.low;
      floor_end = head.floor_fits.high;
      process_start = head.process_fits.low;
      process_end = head.process_fits.high;
      one_floor = head.one_floor;
      each_line = found.each_line;
      not_too_many = omega (arith, found.within);
    } in
    subst (λ (y : Sched). IsFile bytes y) made
    (found.written, record { bytes_are = all ∙ text; each_fits = found.fits; lines_are = found.meanings; sound = sound })

none_yet : 0 ≤ most_ticks
none_yet = omega arith

-- four lines, of which each is what is left of the one before
joined : (bytes t1 t2 t3 t4 : List ℕ) (x1 x2 x3 x4 : List ℕ × Lines) (ls : Lines) → lines_of bytes ≡ (x1.0 ∷ x1.1.0, x1.1.1) → x1.1 ≡ (x2.0 ∷ x2.1.0, x2.1.1)
    → x2.1 ≡ (x3.0 ∷ x3.1.0, x3.1.1) → x3.1 ≡ (x4.0 ∷ x4.1.0, x4.1.1) → x4.1 ≡ ls
    → x1.0 ≡ t1 → x2.0 ≡ t2 → x3.0 ≡ t3 → x4.0 ≡ t4 → lines_of bytes ≡ (t1 ∷ t2 ∷ t3 ∷ t4 ∷ ls.0, ls.1)
joined bytes t1 t2 t3 t4 x1 x2 x3 x4 ls e1 e2 e3 e4 e5 is1 is2 is3 is4 =
    e1 ∙ ap (λ (y : Lines). (x1.0 ∷ y.0, y.1))
    (e2 ∙ ap (λ (y : Lines). (x2.0 ∷ y.0, y.1)) (e3 ∙ ap (λ (y : Lines). (x3.0 ∷ y.0, y.1)) (e4 ∙ ap (λ (y : Lines). (x4.0 ∷ y.0, y.1)) e5)))
    ∙ rw (is1, is2, is3, is4) refl

-- the floor of the process stack and the lines of ticks, behind the fourth line
pub record TailFound (format : ℕ) (entries : Bool) (lo hi floor : ℕ) (ls : Lines) (s : Sched) : Type 0 where
  pub process : ℕ × Lines
  pub lines : List TickLine
  pub process_is : ProcessFound format floor ls process
  pub lines_are : LinesFound (most_irq format) process.1.0 process.1.1 0 lines
  pub made : record { format = format; entries = entries; lo = lo; hi = hi; floor = floor; process = process.0; lines = lines } ≡ s

tail_found : (format : ℕ) (entries : Bool) (lo hi floor : ℕ) (ls : Lines) (s : Sched) → IsFormat format → IsFloor floor
    → (process_from format floor ls >>= λ process. lines_in (most_irq format) (first_line format) 0 process.1.0 process.1.1 >>= λ lines. Ok
    (record { format = format; entries = entries; lo = lo; hi = hi; floor = floor; process = process.0; lines = lines })) ≡ Ok s
    → TailFound format entries lo hi floor ls s
tail_found format entries lo hi floor ls s known fits e =
    let p = bind_ok (process_from format floor ls)
    (λ process. lines_in (most_irq format) (first_line format) 0 process.1.0 process.1.1 >>= λ lines. Ok
    (record { format = format; entries = entries; lo = lo; hi = hi; floor = floor; process = process.0; lines = lines })) s e in
    let t = bind_ok (lines_in (most_irq format) (first_line format) 0 p.0.1.0 p.0.1.1)
    (λ lines. Ok (record { format = format; entries = entries; lo = lo; hi = hi; floor = floor; process = p.0.0; lines = lines })) s p.2 in
    record {
      process = p.0;
      lines = t.0;
      process_is = process_from_found format floor ls p.0 known fits p.1;
      lines_are = lines_found (most_irq format) p.0.1.0 p.0.1.1 (first_line format) 0 t.0 (most_irq_few format) none_yet t.1;
      made = ok_is (record { format = format; entries = entries; lo = lo; hi = hi; floor = floor; process = p.0.0; lines = t.0 }) s t.2;
    }

pub file_found : (bytes : List ℕ) (s : Sched) → file_in bytes ≡ Ok s → IsFile bytes s
unfolding file_in
file_found bytes s e =
    let a = bind_ok (line_at 1 Header (lines_of bytes)) _ s e in
    let format = bind_ok (ok_or (header_in a.0.0) (refusals.Line 1 Header)) _ s a.2 in
    let b = bind_ok (line_at 2 Entries a.0.1) _ s format.2 in
    let entries = bind_ok (ok_or (entries_in b.0.0) (refusals.Line 2 Entries)) _ s b.2 in
    let c = bind_ok (line_at 3 Region b.0.1) _ s entries.2 in
    let region = bind_ok (ok_or (region_in c.0.0) (refusals.Line 3 Region)) _ s c.2 in
    let d = bind_ok (line_at 4 Floor c.0.1) _ s region.2 in
    let floor = bind_ok (ok_or (floor_in d.0.0) (refusals.Line 4 Floor)) _ s d.2 in
    let is1 = header_found a.0.0 format.0 (ok_or_found (header_in a.0.0) (refusals.Line 1 Header) format.0 format.1) in
    let is2 = entries_found b.0.0 entries.0 (ok_or_found (entries_in b.0.0) (refusals.Line 2 Entries) entries.0 entries.1) in
    let is3 = region_found c.0.0 region.0 (ok_or_found (region_in c.0.0) (refusals.Line 3 Region) region.0 region.1) in
    let is4 = floor_found d.0.0 floor.0 (ok_or_found (floor_in d.0.0) (refusals.Line 4 Floor) floor.0 floor.1) in
    let tail = tail_found format.0 entries.0 region.0.0 region.0.1 floor.0 d.0.1 s is1.1 is4.1 floor.2 in
    let cut = joined bytes (header_text format.0) (entries_text entries.0) (region_text region.0.0 region.0.1) (floor_text floor.0) a.0 b.0 c.0 d.0
    (process_lines format.0 tail.process.0 ++ tail.process.1.0, tail.process.1.1)
    (line_found 1 Header (lines_of bytes) a.0 a.1) (line_found 2 Entries a.0.1 b.0 b.1) (line_found 3 Region b.0.1 c.0 c.1) (line_found 4 Floor c.0.1 d.0 d.1)
    tail.process_is.lines is1.0 is2 is3.0 is4.0 in
    file_made bytes format.0 entries.0 region.0.0 region.0.1 floor.0 tail.process tail.lines s
    record { cut = cut; known = is1.1; region = is3.1; floor_fits = is4.1; process_fits = tail.process_is.fits; one_floor = tail.process_is.one_floor }
    tail.lines_are
    tail.made

entries_lack : (b : Bool) → Lacks 10 (entries_text b)
entries_lack true = Lacks_from_test 10 (entries_text true) refl
entries_lack false = Lacks_from_test 10 (entries_text false) refl

written_lack : (most : ℕ) (ws : List Written) → most ≤ 256 → AllByRecursion (IsWritten most) ws → AllByRecursion (Lacks 10) (map ticks_text ws)
written_lack most [] few fits = tt
written_lack most (w ∷ ws) few fits = (ticks_lack most w few fits.0, written_lack most ws few fits.1)

header_lacks : (format : ℕ) → IsFormat format → Lacks 10 (header_text format)
header_lacks format (inl one) = rw one (Lacks_from_test 10 (header_text 1) refl)
header_lacks format (inr two) = rw two (Lacks_from_test 10 (header_text 2) refl)

process_lacks : (format process : ℕ) (ls : List (List ℕ)) → IsFormat format → AllByRecursion (Lacks 10) ls
    → AllByRecursion (Lacks 10) (process_lines format process ++ ls)
process_lacks format process ls (inl one) all = rw one all
process_lacks format process ls (inr two) all =
    rw two (Lacks_append 10 (codes "process ") (hex8 process) (Lacks_from_test 10 (codes "process ") refl) (hex8_lacks 10 process (omega arith)), all)

head_lacks : (s : Sched) (ls : List (List ℕ)) → IsFormat s.format → AllByRecursion (Lacks 10) ls → AllByRecursion (Lacks 10) (head_lines s ++ ls)
head_lacks s ls known all = (
  header_lacks s.format known,
  (
    entries_lack s.entries,
    (
      Lacks_append 10 (codes "region ") (hex8 s.lo ++ 32 ∷ hex8 s.hi) (Lacks_from_test 10 (codes "region ") refl)
          (Lacks_append 10 (hex8 s.lo) (32 ∷ hex8 s.hi) (hex8_lacks 10 s.lo (omega arith)) ((λ is. omega arith), hex8_lacks 10 s.hi (omega arith))),
      (
        Lacks_append 10 (codes "floor ") (hex8 s.floor) (Lacks_from_test 10 (codes "floor ") refl) (hex8_lacks 10 s.floor (omega arith)),
        process_lacks s.format s.process ls known all,
      ),
    ),
  ),
)

made_again : (s : Sched) (lines : List TickLine) → s.lines ≡ lines
    → record { format = s.format; entries = s.entries; lo = s.lo; hi = s.hi; floor = s.floor; process = s.process; lines = lines } ≡ s
made_again s lines e = rw (← e) refl

pub file_again : (bytes : List ℕ) (s : Sched) → IsFile bytes s → file_in bytes ≡ Ok s
unfolding file_in
file_again bytes s f =
    let h = f.1 in
    let sound = h.sound in
    let few = most_irq_few s.format in
    let w : Within s.lo s.hi = record { low = sound.region_start; order = sound.region_order; high = sound.region_end } in
    let floor : IsFloor s.floor = record { low = sound.floor_start; high = sound.floor_end } in
    let process : IsFloor s.process = record { low = sound.process_start; high = sound.process_end } in
    let cut : lines_of bytes ≡ (head_lines s ++ map ticks_text f.0, []) = ap lines_of h.bytes_are
    ∙ lines_again (head_lines s ++ map ticks_text f.0)
    (head_lacks s (map ticks_text f.0) sound.known (written_lack (most_irq s.format) f.0 few h.each_fits)) in
    let most : 0 + total (map meaning f.0) ≤ most_ticks =
    subst (λ (x : List TickLine). 0 + total x ≤ most_ticks) h.lines_are (omega (arith, sound.not_too_many)) in
    let last = process_from_again s.format s.floor s.process (map ticks_text f.0) sound.known process sound.one_floor in
    rw (
      cut,
      header_again s.format sound.known,
      entries_again s.entries,
      region_again s.lo s.hi w,
      floor_again s.floor floor,
      last,
      written_again (most_irq s.format) f.0 (first_line s.format) 0 few h.each_fits most,
    )
    (ap (λ (x : Sched). Ok x) (made_again s (map meaning f.0) h.lines_are))

pub is_found : (bytes : List ℕ) (r : Result Sched SchedErr) → Gives (λ s. s) r (file_in bytes) → IfOk r (λ s. IsFile bytes s)
is_found bytes (Ok s) given = file_found bytes s given
is_found bytes (Err e) given = tt
