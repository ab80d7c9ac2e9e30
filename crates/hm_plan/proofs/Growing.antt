-- What one tick more does to where the loop stands.
use Rattle.std.proofs.Common.{◌≡◌, ℕ, ◌+◌, ◌*◌, ◌<◌, ◌≤◌, arith, true, false, List, [], ◌∷◌, ◌++◌, Result, Ok, Err, sym, ◌∙◌, ap, subst}
use Rattle.std.specs.Prelude.{IfOk}
use Rattle.hm_base.specs.Image.{Segment, flash_byte}
use Rattle.hm_codes.proofs.Exists.{exists}
use Rattle.hm_codes.specs.Listing.{Listing, IsListing}
use Rattle.hm_machine.specs.Bares.{IsBare, ShowsGiven}
use Rattle.hm_machine.specs.Shown.{Shown, run_of}
use Rattle.hm_machine.specs.declared.load.LoadErr.{LoadErr}
use Rattle.hm_mem.specs.Memory.{flash_at}
use Rattle.hm_plan.specs.Follows.{Follow}
use Rattle.hm_plan.specs.declared.lines.Lines.{Lines}
use Rattle.hm_plan_laws.proofs.Loops.{Stands, few, none_first, runs_on, stands_first, stands_next, stands_over}
use Rattle.hm_plan_laws.proofs.Plans.{is_below, not_below}
use Rattle.hm_plan_laws.specs.Greedy.{greedy_at}
use Rattle.hm_run_laws.proofs.Prefixes.{one_tick}
use Rattle.hm_plan_laws.specs.Planned.{grown, is_over, lines_from, plan_line, planned}
use Rattle.hm_plan_laws.specs.declared.Greedy.{Greedy}
use Rattle.hm_run.specs.Bare.{bare, bare_program}
use Rattle.hm_run.specs.Program.{Program}
use Rattle.hm_run_laws.specs.Runs.{Run, begin}
use Rattle.hm_sched.specs.Schedule.{TickLine, Sched, total}

pub if_ok : {T E : Type 0} (P Q : T → Type 0) (r : Result T E) → ((x : T) → P x → Q x) → IfOk r P → IfOk r Q
if_ok P Q (Ok x) f h = f x h
if_ok P Q (Err e) f h = tt

module _ (listing : Listing) (image : List Segment) (n : ℕ) where
  abbrev M : Program
  M = bare_program listing

  pub first_stands : (lines : List TickLine) (g : Greedy) (x y : Run) → x ≡ begin image (bare []) → is_over n x ≡ false → lines ≡ []
      → g ≡ greedy_at M n x.machine.config → y ≡ grown listing n x → Stands listing image n lines 1 g y
  first_stands lines g x y first on none kind next =
      let z : Run = begin image (bare []) in
      let same : g ≡ greedy_at M n z.machine.config = kind ∙ ap (λ (w : Run). greedy_at M n w.machine.config) first in
      let there : y ≡ grown listing n z = next ∙ ap (grown listing n) first in
      subst (λ (l : List TickLine). Stands listing image n l 1 g y) (sym none)
      (subst (λ (k : Greedy). Stands listing image n [] 1 k y) (sym same)
      (subst (λ (w : Run). Stands listing image n [] 1 (greedy_at M n z.machine.config) w) (sym there)
      (stands_first listing image n (ap (is_over n) (sym first) ∙ on))))

  pub next_stands : (lines : List TickLine) (k : ℕ) (g : Greedy) (x y : Run) (after : List TickLine) (j : ℕ) (f kind : Greedy)
      → Stands listing image n lines k g x → is_over n x ≡ false
      → kind ≡ greedy_at M n x.machine.config → ((rest : List Greedy) → after ++ lines_from j f rest ≡ lines ++ lines_from k g (kind ∷ rest))
      → y ≡ grown listing n x → Stands listing image n after j f y
  next_stands lines k g x y after j f kind h on is lined next =
      subst (λ (w : Run). Stands listing image n after j f w) (sym next)
      (stands_next listing image n lines k g x h on after j f (λ rest. lined rest ∙ ap (λ (q : Greedy). lines ++ lines_from k g (q ∷ rest)) is))

  pub next_ticks : (x y : Run) → is_over n x ≡ false → y ≡ grown listing n x → y.ticks ≡ x.ticks + 1
  next_ticks x y on next =
      ap (λ (w : Run). w.ticks) next ∙ one_tick listing (bare []) (plan_line 1 (greedy_at M n x.machine.config)) x (runs_on n x on)

  pub all_lined : (s t : Sched) (k : ℕ) (g : Greedy) (x : Run) → Stands listing image n s.lines k g x → is_over n x ≡ true → s ≡ bare s.lines
      → t ≡ record s { lines = s.lines ++ lines_from k g [] } → t ≡ planned listing image n
  all_lined s t k g x h over head is =
      is ∙ ap (λ (u : Sched). record u { lines = s.lines ++ lines_from k g [] }) head ∙ sym (stands_over listing image n s.lines k g x h over)

  pub nothing_lined : (s : Sched) (x : Run) → x ≡ begin image (bare []) → is_over n x ≡ true → s ≡ bare [] → s ≡ planned listing image n
  nothing_lined s x first over is =
      let none : 0 ≡ n = not_below listing image n 0 n (omega arith) (ap (is_over n) (sym first) ∙ over) in
      is ∙ sym (none_first listing image n (sym none))

-- while a plan is not over fewer ticks were done than it may have
pub fewer : (image : List Segment) (n : ℕ) (lines : Lines) (m : Shown) → Follow image n lines m → is_over n (run_of m []) ≡ false → m.ticks < 4 * n
fewer image n lines m held on =
    let there = exists (flash_byte image) in
    few there.0 image n lines.schedule.lines lines.count lines.kind (run_of m []) (held.stands there.0 there.1) on

-- one tick more is done where a machine goes on
pub one_more : (image : List Segment) (n : ℕ) (m w : Shown) → flash_at m.memory ≡ flash_byte image → is_over n (run_of m []) ≡ false
    → ((listing : Listing) → IsListing (flash_at m.memory) listing → run_of w [] ≡ grown listing n (run_of m [])) → w.ticks ≡ m.ticks + 1
one_more image n m w flash on next =
    let there = exists (flash_byte image) in
    next_ticks there.0 image n (run_of m []) (run_of w []) on (next there.0 (subst (λ (f : ℕ → ℕ). IsListing f there.0) (sym flash) there.1))

-- LINES FOLLOW behind the first tick
pub first_follow : (image : List Segment) (n : ℕ) (s : Sched) (kind : Greedy) (m w : Shown) → ShowsGiven image [] m → is_over n (run_of m []) ≡ false
    → s ≡ bare []
    → ((listing : Listing) → IsListing (flash_at m.memory) listing → kind ≡ greedy_at (bare_program listing) n (run_of m []).machine.config)
    → ((listing : Listing) → IsListing (flash_at m.memory) listing → run_of w [] ≡ grown listing n (run_of m []))
    → flash_at w.memory ≡ flash_at m.memory → IsBare w → Follow image n (record { schedule = s; kind = kind; count = 1 }) w
first_follow image n s kind m w shows on is value next flash made =
    let there = exists (flash_byte image) in
    let first : run_of m [] ≡ begin image (bare []) = shows.now there.0 there.1 in
    let at = λ (listing : Listing) (l : IsListing (flash_byte image) listing). subst (λ (f : ℕ → ℕ). IsListing f listing) (sym shows.bytes) l in
    let ticks : w.ticks ≡ 1 = one_more image n m w shows.bytes on next ∙ ap (λ (x : Run). x.ticks + 1) first in
    let some : 0 < n = is_below there.0 image n 0 n (ap (is_over n) (sym first) ∙ on) in
    record {
      stands = λ listing l.
          first_stands listing image n s.lines kind (run_of m []) (run_of w []) (shows.now listing l) on (ap (λ (q : Sched). q.lines) is)
          (value listing (at listing l)) (next listing (at listing l));
      flash = flash ∙ shows.bytes;
      made = made;
      head = is ∙ ap (λ (q : Sched). bare q.lines) (sym is);
      count = (λ j. total (is j).lines + 1) ∙ sym ticks;
      most = omega (arith, ticks, some);
      some = omega arith;
    }

-- and behind each other one
pub next_follow : (image : List Segment) (n : ℕ) (lines after : Lines) (kind : Greedy) (m w : Shown) → Follow image n lines m → is_over n (run_of m []) ≡ false
    → ((listing : Listing) → IsListing (flash_at m.memory) listing → kind ≡ greedy_at (bare_program listing) n (run_of m []).machine.config)
    → ((listing : Listing) → IsListing (flash_at m.memory) listing → run_of w [] ≡ grown listing n (run_of m []))
    → flash_at w.memory ≡ flash_at m.memory → IsBare w
    → ((rest : List Greedy)
    → after.schedule.lines ++ lines_from after.count after.kind rest ≡ lines.schedule.lines ++ lines_from lines.count lines.kind (kind ∷ rest))
    → total after.schedule.lines + after.count ≡ total lines.schedule.lines + lines.count + 1 → 1 ≤ after.count
    → after.schedule ≡ record lines.schedule { lines = after.schedule.lines } → Follow image n after w
next_follow image n lines after kind m w held on value next flash made lined more some kept =
    let ticks = one_more image n m w held.flash on next in
    let less = fewer image n lines m held on in
    let at = λ (listing : Listing) (l : IsListing (flash_byte image) listing). subst (λ (f : ℕ → ℕ). IsListing f listing) (sym held.flash) l in
    record {
      stands = λ listing l.
          next_stands listing image n lines.schedule.lines lines.count lines.kind (run_of m []) (run_of w []) after.schedule.lines after.count after.kind kind
          (held.stands listing l) on (value listing (at listing l)) lined (next listing (at listing l));
      flash = flash ∙ held.flash;
      made = made;
      head = kept ∙ ap (λ (s : Sched). record s { lines = after.schedule.lines }) held.head;
      count = more ∙ ap (λ (k : ℕ). k + 1) held.count ∙ sym ticks;
      most = omega (arith, ticks, less);
      some = some;
    }

-- WHAT HOLDS OF THE PLAN holds of what is planned
pub of_planned : (image : List Segment) (n : ℕ) (P : Listing → Sched → Type 0) → ((listing : Listing) → P listing (planned listing image n))
    → (r : Result Sched LoadErr)
    → IfOk r (λ s. (listing : Listing) → IsListing (flash_byte image) listing → s ≡ planned listing image n)
    → IfOk r (λ s. (listing : Listing) → IsListing (flash_byte image) listing → P listing s)
of_planned image n P h (Ok s) is = λ listing listed. subst (P listing) (sym (is listing listed)) (h listing)
of_planned image n P h (Err e) is = tt
