-- Taking lines of a file one after another, as a loop does.
use Rattle.std.proofs.Common.{◌≡◌, ℕ, ◌+◌, ◌-◌, ◌<◌, ◌≤◌, true, false, ltb, inl, inr, List, [], ◌∷◌, ◌++◌, take, drop, length, Result, Ok, Err, refl, sym, ap}
use Rattle.std.proofs.Common.{subst, ◌∙◌, append_assoc, arith}
use Rattle.std.proofs.lemmas.Bool.{le-ltb, lt-ltb, cases_lt}
use Rattle.std.proofs.lemmas.List.{append-nil, take_all}
use Rattle.hm_text_base.specs.Reading.{◌>>=◌}
use Rattle.hm_text_base.specs.Spans.{span, Lines, lines_of}
use Rattle.hm_text_base.proofs.LineLaws.{lines_span}
use Rattle.hm_text_base.proofs.SpanLaws.{span_parts}
use Rattle.hm_text_base.proofs.Steps.{ok_is, refused, err_is}
use Rattle.hm_sched.specs.declared.errors.LineKind.{LineKind}
use Rattle.hm_sched.specs.declared.errors.LineKind.TheVariants.{Newline}
use Rattle.hm_sched.specs.declared.errors.SchedErr.{SchedErr}
use Rattle.hm_sched.specs.declared.errors.SchedErr.TheVariants as refusals
use Rattle.hm_sched.specs.Schedule.{TickLine, Sched, most_ticks}
use Rattle.hm_sched.specs.ReadLine.{ticks_in}
use Rattle.hm_sched.specs.ReadFile.{line_at, on_line, lines_in, with_lines, Fails}

pub next_none : (bytes : List ℕ) (k : ℕ) (kind : LineKind) → length bytes ≡ 0 → line_at k kind (lines_of bytes) ≡ Err (refusals.Line k kind)
unfolding lines_of
next_none [] k kind e = refl
next_none (b ∷ bytes) k kind e = absurd (omega arith)

pub next_unended : (bytes front rest : List ℕ) (k : ℕ) (kind : LineKind) → (front, rest) ≡ span 10 bytes → length rest ≡ 0 → 0 < length bytes
    → line_at k kind (lines_of bytes) ≡ Err (refusals.Line k Newline)
next_unended bytes [] [] k kind e none some = absurd (omega (arith, ap length (ap (λ (p : List ℕ × List ℕ). p.0 ++ p.1) e ∙ span_parts 10 bytes)))
next_unended bytes (b ∷ front) [] k kind e none some = rw (lines_span bytes, ← e) refl
next_unended bytes front (b ∷ rest) k kind e none some = absurd (omega arith)

pub next_some : (bytes front rest : List ℕ) (k : ℕ) (kind : LineKind) → (front, rest) ≡ span 10 bytes → 1 ≤ length rest
    → line_at k kind (lines_of bytes) ≡ Ok (front, lines_of (take (length rest - 1) (drop 1 rest)))
next_some bytes front [] k kind e some = absurd (omega arith)
next_some bytes front (b ∷ rest) k kind e some = rw (lines_span bytes, ← e, take_all (length (b ∷ rest) - 1) rest (omega arith)) refl

-- what was read before, and what is still read
abbrev pub with_front : List TickLine → Result (List TickLine) SchedErr → Result (List TickLine) SchedErr
with_front front read = read >>= λ ts. Ok (front ++ ts)

regroup : (front : List TickLine) (t : TickLine) (read : Result (List TickLine) SchedErr)
    → with_front front (read >>= λ ts. Ok (t ∷ ts)) ≡ with_front (front ++ t ∷ []) read
regroup front t (Ok ts) = ap (λ (x : List TickLine). Ok x) (simp append_assoc)
regroup front t (Err e) = refl

-- the lines of ticks that are still read
abbrev pub all_lines : ℕ → ℕ → ℕ → Lines → Result (List TickLine) SchedErr
all_lines most k total ls = lines_in most k total ls.0 ls.1

pub goes_on : (most : ℕ) (front : List TickLine) (k total : ℕ) (ls : Lines) (text : List ℕ) (after : Lines) (t : TickLine)
    (whole : Result (List TickLine) SchedErr)
    → line_at k Newline ls ≡ Ok (text, after) → on_line k (ticks_in most text) ≡ Ok t → total + t.count ≤ most_ticks
    → with_front front (all_lines most k total ls) ≡ whole → with_front (front ++ t ∷ []) (all_lines most (k + 1) (total + t.count) after) ≡ whole
unfolding lines_in
goes_on most front k total ([], []) text after t whole line tick room so_far = absurd cc
goes_on most front k total ([], b ∷ rest) text after t whole line tick room so_far = absurd cc
goes_on most front k total (l ∷ ls, rest) text after t whole line tick room so_far =
    let both : (l, (ls, rest)) ≡ (text, after) = ok_is (l, (ls, rest)) (text, after) line in
    let text-is : l ≡ text = ap (λ (p : List ℕ × Lines). p.0) both in
    let after-is : (ls, rest) ≡ after = ap (λ (p : List ℕ × Lines). p.1) both in
    let room-is : ltb most_ticks (total + t.count) ≡ false = le-ltb _ _ room in
    let one : with_front front (all_lines most k total (l ∷ ls, rest)) ≡ with_front (front ++ t ∷ []) (all_lines most (k + 1) (total + t.count) (ls, rest)) =
    rw (text-is, tick, room-is) (regroup front t (all_lines most (k + 1) (total + t.count) (ls, rest))) in
    ap (λ (a : Lines). with_front (front ++ t ∷ []) (all_lines most (k + 1) (total + t.count) a)) (sym after-is) ∙ sym one ∙ so_far

-- the next line is none
pub ends_line : (most : ℕ) (e : SchedErr) (front : List TickLine) (k total : ℕ) (ls : Lines) (whole : Result (List TickLine) SchedErr)
    → line_at k Newline ls ≡ Err e → 0 < length ls.0 + length ls.1 → with_front front (all_lines most k total ls) ≡ whole → whole ≡ Err e
unfolding lines_in
ends_line most e front k total ([], []) whole line some so_far = absurd (omega arith)
ends_line most e front k total ([], b ∷ rest) whole line some so_far = sym so_far
    ∙ ap (λ (x : SchedErr). Err x) (err_is {A = List ℕ × Lines} (refusals.Line k Newline) e line)
ends_line most e front k total (l ∷ ls, rest) whole line some so_far = absurd cc

-- the line is no line of ticks
pub ends_tick : (most : ℕ) (e : SchedErr) (front : List TickLine) (k total : ℕ) (ls : Lines) (text : List ℕ) (after : Lines)
    (whole : Result (List TickLine) SchedErr)
    → line_at k Newline ls ≡ Ok (text, after) → on_line k (ticks_in most text) ≡ Err e → with_front front (all_lines most k total ls) ≡ whole → whole ≡ Err e
unfolding lines_in
ends_tick most e front k total ([], []) text after whole line tick so_far = absurd cc
ends_tick most e front k total ([], b ∷ rest) text after whole line tick so_far = absurd cc
ends_tick most e front k total (l ∷ ls, rest) text after whole line tick so_far =
    let text-is : l ≡ text = ap (λ (p : List ℕ × Lines). p.0) (ok_is (l, (ls, rest)) (text, after) line) in
    let one : with_front front (all_lines most k total (l ∷ ls, rest)) ≡ Err e = rw (text-is, tick) refl in
    sym so_far ∙ one

pub ends_total : (most : ℕ) (front : List TickLine) (k total : ℕ) (ls : Lines) (text : List ℕ) (after : Lines) (t : TickLine)
    (whole : Result (List TickLine) SchedErr)
    → line_at k Newline ls ≡ Ok (text, after) → on_line k (ticks_in most text) ≡ Ok t → most_ticks < total + t.count
    → with_front front (all_lines most k total ls) ≡ whole → whole ≡ Err (refusals.TooManyTicks k)
unfolding lines_in
ends_total most front k total ([], []) text after t whole line tick past so_far = absurd cc
ends_total most front k total ([], b ∷ rest) text after t whole line tick past so_far = absurd cc
ends_total most front k total (l ∷ ls, rest) text after t whole line tick past so_far =
    let text-is : l ≡ text = ap (λ (p : List ℕ × Lines). p.0) (ok_is (l, (ls, rest)) (text, after) line) in
    let past-is : ltb most_ticks (total + t.count) ≡ true = lt-ltb _ _ past in
    let one : with_front front (all_lines most k total (l ∷ ls, rest)) ≡ Err (refusals.TooManyTicks k) = rw (text-is, tick, past-is) refl in
    sym so_far ∙ one

pub is_done : (most : ℕ) (front : List TickLine) (k total : ℕ) (bytes : List ℕ) (whole : Result (List TickLine) SchedErr) → length bytes ≡ 0
    → with_front front (all_lines most k total (lines_of bytes)) ≡ whole → whole ≡ Ok front
unfolding lines_in lines_of
is_done most front k total [] whole none so_far = sym so_far ∙ ap (λ (x : List TickLine). Ok x) (append-nil front)
is_done most front k total (b ∷ bytes) whole none so_far = absurd (omega arith)

-- a refusal that the code passes on
pub fails : {A : Type 0} (e : SchedErr) (read : Result A SchedErr) → read ≡ Err e → Fails e read
fails (refusals.Line k kind) read given = given
fails (refusals.TooManyTicks k) read given = given
fails refusals.OutOfMemory read given = tt

-- the same of a schedule with the lines that were read
pub fails_with : (e : SchedErr) (s : Sched) (read : Result (List TickLine) SchedErr) → read ≡ Err e → Fails e (with_lines s read)
fails_with e s read given = fails e (with_lines s read) (ap (with_lines s) given)

-- a line is not added where there would be too many ticks, or for want of memory
pub ends_add : {A : Type 0} (e : SchedErr) (k sum : ℕ) (s : Sched) (read : Result (List TickLine) SchedErr)
    → (most_ticks < sum → refused {A = A} e ≡ refused (refusals.TooManyTicks k)) → (sum ≤ most_ticks → e ≡ refusals.OutOfMemory)
    → (most_ticks < sum → read ≡ Err (refusals.TooManyTicks k)) → Fails e (with_lines s read)
ends_add {A} e k sum s read many memory is = elim (cases_lt most_ticks sum) [
  | inl past ↦ fails_with e s read (is past ∙ ap (λ (x : SchedErr). Err x) (sym (err_is {A = A} e (refusals.TooManyTicks k) (many past))))
  | inr room ↦ subst (λ (x : SchedErr). Fails x (with_lines s read)) (sym (memory room)) tt
]
