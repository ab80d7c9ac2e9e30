-- A run under the ticks that it began, and no more, ends as it did; and it begins no more than there are.
use Rattle.std.proofs.Common.{◌≡◌, ℕ, zero, suc, ◌+◌, ◌-◌, ◌≤◌, Bool, true, false, cond, List, [], ◌∷◌, ◌++◌, length, take, map, arith, refl, sym, ap, ◌∙◌}
use Rattle.std.proofs.Common.{Option, Some, None, Result, nat_le}
use Rattle.std.proofs.lemmas.Bool.{leb-false, leb-true}
use Rattle.std.proofs.Math.Seq.{drop-length, take-length}
use Rattle.hm_base.specs.Image.{Segment}
use Rattle.hm_codes.specs.Listing.{Listing}
use Rattle.hm_run_laws.specs.Nested.{Nested, TickEnd, letters}
use Rattle.hm_run_laws.specs.Runs.{Run, begin, closed, ended, run_out, tick_of}
use Rattle.hm_run_laws.proofs.Prefixes.{one_tick, run_taken, ticks_bare}
use Rattle.hm_run_laws.specs.Next.{after_ticks}
use Rattle.hm_run.specs.declared.Outcome.{Outcome}
use Rattle.hm_sched.proofs.Ticks.{length-ticks_of}
use Rattle.hm_sched.specs.Schedule.{Sched, TickLine, repeat, ticks_of, total}
use Rattle.hm_shake_runs.specs.Heads.{bare}
use Rattle.hm_shake_runs.specs.Stretches.{cut, first_of, stretch_line, with_stretches}
use Rattle.hm_shake_runs.specs.declared.head.Head.{Head}
use Rattle.hm_shake_runs.specs.declared.stretches.Stretch.{Stretch}

-- a tick without the count of its line, of which it takes nothing
abbrev one : TickLine → TickLine
one line = record line { count = 0 }

-- ---- the ticks of stretches that are cut off

counted_less : (c n d : ℕ) (l : TickLine) (rest : List TickLine) → n ≡ c + d → take n (repeat c l rest) ≡ repeat c l (take d rest)
counted_less zero n d l rest e = ap (λ (j : ℕ). take j rest) (omega arith)
counted_less (suc c) zero d l rest e = absurd (omega arith)
counted_less (suc c) (suc n) d l rest e = ap (λ (xs : List TickLine). l ∷ xs) (counted_less c n d l rest (omega arith))

counted_more : (n c : ℕ) (l : TickLine) (rest : List TickLine) → n ≤ c → take n (repeat c l rest) ≡ repeat n l []
counted_more zero c l rest h = refl
counted_more (suc n) zero l rest h = absurd (omega arith)
counted_more (suc n) (suc c) l rest h = ap (λ (xs : List TickLine). l ∷ xs) (counted_more n c l rest (omega arith))

repeated : (b : Bool) (c n : ℕ) (l : TickLine) (rest : List TickLine) → (b ≡ true → c ≤ n) → (b ≡ false → n ≤ c)
    → repeat (cond b c n) l (take (n - c) rest) ≡ take n (repeat c l rest)
repeated true c n l rest f g = let few : c ≤ n = f refl in sym (counted_less c n (n - c) l rest (omega arith))
repeated false c n l rest f g =
    let many : n ≤ c = g refl in
    let none : n - c ≡ 0 = omega arith in
    ap (λ (j : ℕ). repeat n l (take j rest)) none ∙ sym (counted_more n c l rest many)

map_repeat : (n : ℕ) (l : TickLine) (rest : List TickLine) → map one (repeat n l rest) ≡ repeat n (one l) (map one rest)
map_repeat zero l rest = refl
map_repeat (suc n) l rest = ap (λ (xs : List TickLine). one l ∷ xs) (map_repeat n l rest)

abbrev ticks : List Stretch → List TickLine
ticks xs = map one (ticks_of (map stretch_line xs))

cut_first : (n : ℕ) (x : Stretch) (ys : List Stretch) (rest : List TickLine) → ticks ys ≡ take (n - x.count) rest
    → ticks (first_of n x ++ ys) ≡ take n (repeat x.count (one (stretch_line x)) rest)
cut_first zero x ys rest e =
    let none : 0 - x.count ≡ 0 = omega arith in
    e ∙ ap (λ (j : ℕ). take j rest) none
cut_first (suc n) x ys rest e =
    let l = one (stretch_line x) in
    let k = cond (nat_le x.count (suc n)) x.count (suc n) in
    map_repeat k (stretch_line (record x { count = k })) (ticks_of (map stretch_line ys)) ∙ ap (repeat k l) e
    ∙ repeated (nat_le x.count (suc n)) x.count (suc n) l rest (λ h. leb-true x.count (suc n) h) (λ h. omega (arith, leb-false x.count (suc n) h))

cut_ticks : (n : ℕ) (xs : List Stretch) → ticks (cut n xs) ≡ take n (ticks xs)
cut_ticks zero [] = refl
cut_ticks (suc n) [] = refl
cut_ticks n (x ∷ xs) =
    cut_first n x (cut (n - x.count) xs) (ticks xs) (cut_ticks (n - x.count) xs)
    ∙ ap (take n) (sym (map_repeat x.count (stretch_line x) (ticks_of (map stretch_line xs))))

-- ---- runs

module _ (listing : Listing) (s : Sched) where
  ended_one : (line : TickLine) (x : Run) (r : Result Nested TickEnd) → ended s line x r ≡ ended s (one line) x r
  ended_one line x r = grind arith

  tick_one : (line : TickLine) (x : Run) (o : Option Outcome) → tick_of listing s line x o ≡ tick_of listing s (one line) x o
  tick_one line x (Some o) = refl
  tick_one line x None = ended_one line x (letters listing s 0 line.letters x.machine)

  after_one : (lines : List TickLine) (x : Run) → after_ticks listing s lines x ≡ after_ticks listing s (map one lines) x
  after_one [] x = refl
  after_one (line ∷ lines) x = ap (after_ticks listing s lines) (tick_one line x x.outcome) ∙ after_one lines (tick_of listing s (one line) x x.outcome)

  -- a run that has ended stays
  stays : (lines : List TickLine) (x : Run) (o : Outcome) → x.outcome ≡ Some o → after_ticks listing s lines x ≡ x
  stays [] x o e = refl
  stays (line ∷ lines) x o e =
      let same : tick_of listing s line x x.outcome ≡ x = ap (tick_of listing s line x) e in
      ap (after_ticks listing s lines) same ∙ stays lines x o e

  -- WHAT SO MANY TICKS LEAVE is what those leave that it began
  record Begun (lines : List TickLine) (x : Run) : Type 0 where
    more : ℕ
    few : more ≤ length lines
    ticks : (after_ticks listing s lines x).ticks ≡ x.ticks + more
    same : after_ticks listing s (take more lines) x ≡ after_ticks listing s lines x

  begun_by : (lines : List TickLine) (x : Run) (o : Option Outcome) → x.outcome ≡ o → Begun lines x
  begun_by [] x o e = record { more = 0; few = omega arith; ticks = omega arith; same = refl }
  begun_by (line ∷ lines) x (Some o) e =
      let is = stays (line ∷ lines) x o e in
      record { more = 0; few = omega arith; ticks = ap (λ (y : Run). y.ticks) is ∙ omega arith; same = sym is }
  begun_by (line ∷ lines) x None e =
      let y = tick_of listing s line x x.outcome in
      let one_more : y.ticks ≡ x.ticks + 1 = one_tick listing s line x e in
      let rest = begun_by lines y y.outcome refl in
      record { more = suc rest.more; few = omega (arith, rest.few); ticks = rest.ticks ∙ omega arith; same = rest.same }

  -- after all ticks
  out_of : (image : List Segment) → run_out listing image s ≡ closed [] (after_ticks listing s (ticks_of s.lines) (begin image s))
  out_of image =
      run_taken listing s image (length (ticks_of s.lines))
      ∙ (λ j. closed (drop-length (ticks_of s.lines) j) (after_ticks listing s (take-length (ticks_of s.lines) j) (begin image s)))

take_one : (n : ℕ) (lines : List TickLine) → map one (take n lines) ≡ take n (map one lines)
take_one zero lines = refl
take_one (suc n) [] = refl
take_one (suc n) (line ∷ lines) = ap (λ (xs : List TickLine). one line ∷ xs) (take_one n lines)

module _ (listing : Listing) (image : List Segment) (h : Head) (xs : List Stretch) where
  abbrev all : Sched
  all = with_stretches xs (bare h)

  abbrev first : ℕ → Sched
  first n = with_stretches (cut n xs) (bare h)

  -- the ticks of those that are cut off leave what the first ticks of all do
  first_leave : (n : ℕ) → after_ticks listing (first n) (ticks_of (first n).lines) (begin image (first n))
      ≡ after_ticks listing all (take n (ticks_of all.lines)) (begin image all)
  first_leave n =
      after_one listing (first n) (ticks_of (first n).lines) (begin image all)
      ∙ ap (λ (lines : List TickLine). after_ticks listing (first n) lines (begin image all)) (cut_ticks n xs ∙ sym (take_one n (ticks_of all.lines)))
      ∙ sym (after_one listing (first n) (take n (ticks_of all.lines)) (begin image all))
      ∙ ticks_bare listing (first n) (take n (ticks_of all.lines)) (begin image all)
      ∙ sym (ticks_bare listing all (take n (ticks_of all.lines)) (begin image all))

  abbrev left : Run
  left = after_ticks listing all (ticks_of all.lines) (begin image all)

  begun : Begun listing all (ticks_of all.lines) (begin image all)
  begun = begun_by listing all (ticks_of all.lines) (begin image all) None refl

  all_out : run_out listing image all ≡ closed [] left
  all_out = out_of listing all image

  count : (run_out listing image all).ticks ≡ begun.more
  count = ap (λ (x : Run). x.ticks) all_out ∙ begun.ticks ∙ omega arith

  first_out : run_out listing image (first begun.more) ≡ closed [] left
  first_out = out_of listing (first begun.more) image ∙ ap (closed []) (first_leave begun.more ∙ begun.same)

  pub cut_same : run_out listing image (first (run_out listing image all).ticks) ≡ run_out listing image all
  cut_same = ap (λ (n : ℕ). run_out listing image (first n)) count ∙ first_out ∙ sym all_out

  -- and it begins no more than there are
  pub out_few : (run_out listing image all).ticks ≤ total (map stretch_line xs)
  out_few =
      let are = length-ticks_of (map stretch_line xs) in
      let few = begun.few in
      let is = count in
      omega arith
