-- The headline and its riders, of what is shown of a run in which whole instructions in order agree with its position.
use Rattle.std.proofs.Common.{◌≡◌, ℕ, zero, suc, ◌+◌, ◌-◌, ◌*◌, ◌/◌, ◌%◌, ◌^◌, ◌<◌, ◌≤◌, arith, ap, sym, ◌∙◌, subst, ⊎_elim, Bool, false}
use Rattle.std.proofs.Common.{List, [], ◌++◌, length, slice_index, Option, Some}
use Rattle.std.proofs.lemmas.List.{get_or_append_left, get_or-append_right}
use Rattle.hm_base.specs.Image.{Segment, sram_size, sram_start}
use Rattle.hm_base.specs.declared.Fault.{Fault}
use Rattle.hm_codes.specs.Listing.{Listing}
use Rattle.hm_mem.specs.Memory.{Around, thread_under}
use Rattle.hm_order.specs.Machine.{Config}
use Rattle.hm_order.specs.Position.{Holds}
use Rattle.hm_order.proofs.Headline.{few_steps, stops_at}
use Rattle.hm_run.specs.declared.Outcome.{Outcome}
use Rattle.hm_run.specs.declared.Outcome.TheVariants as outcome
use Rattle.hm_run.specs.declared.Reason.{Reason}
use Rattle.hm_run.specs.declared.Who.TheVariants.{Thread}
use Rattle.hm_run.specs.Headline.{HasBytesOf, HaltsInOrder, Riders, taint_bit_in}
use Rattle.hm_run.specs.InOrder.{Halted, Full, Faulted, in_order, report_between}
use Rattle.hm_run.specs.Program.{Program}
use Rattle.hm_run.specs.Report.{report_of, report_text, memory_text}
use Rattle.hm_run.specs.Stops as why
use Rattle.hm_run.specs.Timed.{Timed, thread_program, bounds_of}
use Rattle.hm_sched.specs.Schedule.{Sched}
use Rattle.hm_state.specs.Start.{start}
use Rattle.hm_state.specs.State.{State, Byte, bit, byte_of_bits, listed, sram_bytes, taint_bytes}
use Rattle.hm_state.proofs.Lists.{length-listed, get_or-listed}
use Rattle.hm_run_laws.specs.Overlap.{HaltsAfter, AgreesAfter, StaysInOrder, StopsBetween}
use Rattle.hm_run_laws.specs.Readings.{ShownAlike, ShownInOrder}
use Rattle.hm_run_laws.specs.Sequence.{FaultsAt, StopsFrom}
use Rattle.hm_run_laws.proofs.Readings.{shown_alike}
use Rattle.hm_run_laws.proofs.Sequence as sequence

-- THE MEMORY FILE
-- two lists, one after the other
bytes_first : (n m : ℕ) (f g : ℕ → ℕ) (j : ℕ) → j < n → slice_index (listed n f ++ listed m g) j ≡ f j
bytes_first n m f g j lt =
    let size = length-listed n f in
    let inside : j < length (listed n f) = omega arith in
    get_or_append_left (listed n f) (listed m g) 0 j inside ∙ get_or-listed n f j 0 lt

bytes_then : (n m : ℕ) (f g : ℕ → ℕ) (k : ℕ) → k < m → slice_index (listed n f ++ listed m g) (n + k) ≡ g k
bytes_then n m f g k lt =
    let past : n ≤ n + k = omega arith in
    let back : (n + k) - n ≡ k = omega arith in
    get_or-append_right (listed n f) (listed m g) n (n + k) 0 (length-listed n f) past ∙ ap (slice_index (listed m g)) back ∙ get_or-listed m g k 0 lt

-- bit r of the byte of eight bits
bit_below : (b : Bool) → bit b < 2
bit_below b = grind arith

bit_in : (f : ℕ → Bool) (k r : ℕ) → r < 8 → byte_of_bits f k / 2 ^ r % 2 ≡ bit (f (8 * k + r))
bit_in f k r lt = at r lt
  where
    low : (i : ℕ) → bit (f (8 * k + i)) < 2
    low i = bit_below (f (8 * k + i))

    first : bit (f (8 * k)) < 2
    first = bit_below (f (8 * k))

    here : bit (f (8 * k)) ≡ bit (f (8 * k + 0))
    here = let e : 8 * k ≡ 8 * k + 0 = omega arith in ap (λ (i : ℕ). bit (f i)) e

    at : (r : ℕ) → r < 8 → byte_of_bits f k / 2 ^ r % 2 ≡ bit (f (8 * k + r))
    at zero l =
        let a = first in
        let b = low 1 in let c = low 2 in let d = low 3 in let e = low 4 in let g = low 5 in let h = low 6 in let i = low 7 in let same = here in omega arith
    at (suc zero) l =
        let a = first in let b = low 1 in let c = low 2 in let d = low 3 in let e = low 4 in let g = low 5 in let h = low 6 in let i = low 7 in omega arith
    at (suc (suc zero)) l =
        let a = first in let b = low 1 in let c = low 2 in let d = low 3 in let e = low 4 in let g = low 5 in let h = low 6 in let i = low 7 in omega arith
    at (suc (suc (suc zero))) l =
        let a = first in let b = low 1 in let c = low 2 in let d = low 3 in let e = low 4 in let g = low 5 in let h = low 6 in let i = low 7 in omega arith
    at (suc (suc (suc (suc zero)))) l =
        let a = first in let b = low 1 in let c = low 2 in let d = low 3 in let e = low 4 in let g = low 5 in let h = low 6 in let i = low 7 in omega arith
    at (suc (suc (suc (suc (suc zero))))) l =
        let a = first in let b = low 1 in let c = low 2 in let d = low 3 in let e = low 4 in let g = low 5 in let h = low 6 in let i = low 7 in omega arith
    at (suc (suc (suc (suc (suc (suc zero)))))) l =
        let a = first in let b = low 1 in let c = low 2 in let d = low 3 in let e = low 4 in let g = low 5 in let h = low 6 in let i = low 7 in omega arith
    at (suc (suc (suc (suc (suc (suc (suc zero))))))) l =
        let a = first in let b = low 1 in let c = low 2 in let d = low 3 in let e = low 4 in let g = low 5 in let h = low 6 in let i = low 7 in omega arith
    at (suc (suc (suc (suc (suc (suc (suc (suc r)))))))) l = absurd (omega arith)

-- the taint bit of byte j
taint_told : (n m : ℕ) (f : ℕ → ℕ) (t : ℕ → Bool) (j : ℕ) → j < 8 * m
    → slice_index (listed n f ++ listed m (byte_of_bits t)) (n + j / 8) / 2 ^ (j % 8) % 2 ≡ bit (t j)
taint_told n m f t j lt =
    let row : j / 8 < m = omega arith in
    let eighth : j % 8 < 8 = omega arith in
    let whole : 8 * (j / 8) + j % 8 ≡ j = omega arith in
    ap (λ (x : ℕ). x / 2 ^ (j % 8) % 2) (bytes_then n m f (byte_of_bits t) (j / 8) row) ∙ bit_in t (j / 8) (j % 8) eighth ∙ ap (λ (i : ℕ). bit (t i)) whole

clean_bit : (b : Bool) → bit b ≡ 0 → b ≡ false
clean_bit b e = grind arith

bytes_alike : (s t : State) (file : List ℕ) → ShownAlike s t → file ≡ sram_bytes s ++ taint_bytes s → HasBytesOf t file
bytes_alike s t file h e = λ j lt clear.
    let small : j < 8 * 0x8000 = omega arith in
    let told = taint_told sram_size 0x8000 (λ k. (s.cell (Byte (sram_start + k))).n) (λ k. (s.cell (Byte (sram_start + k))).taint) j small in
    let here : taint_bit_in (sram_bytes s ++ taint_bytes s) j ≡ 0 = ap (λ (l : List ℕ). taint_bit_in l j) (sym e) ∙ clear in
    let clean = clean_bit (s.cell (Byte (sram_start + j))).taint (sym told ∙ here) in
    ap (λ (l : List ℕ). slice_index l j) e ∙ bytes_first sram_size 0x8000 _ _ j lt ∙ h.bytes (sram_start + j) clean

module _ (listing : Listing) (image : List Segment) (s : Sched) where
  abbrev around : Around
  around = thread_under (bounds_of s)

  abbrev machine : Program
  machine = thread_program listing s

  -- what is kept, by the outcome
  pub kept : (x : Timed) (o : Option Outcome) → StaysInOrder listing image s x → x.outcome ≡ o → AgreesAfter machine (start image) o x.config
  kept x o h e = subst (λ (q : Option Outcome). AgreesAfter machine (start image) q x.config) e h

  -- between two instructions what is shown is in order
  pub shown_between : (c : Config State) → Holds machine (start image) c → c.a ≡ 0 → ShownInOrder listing image c.n c.state
  shown_between c h none =
      let io = stops_at machine (start image) c h none in
      record {
        order = io.state;
        runs = sequence.runs_to listing image around c.n io.state io.runs;
        alike = shown_alike c.state io.state io.live io.pc;
      }

  b_between : (c : Config State) → Holds machine (start image) c → c.a ≡ 0 → c.b ≡ 0
  b_between c h none = ⊎_elim (λ p. p.b) (λ p. let more = p.begun in absurd (omega arith)) h.place

  -- THE REPORT
  -- a run that ends between two instructions reports what a state that is shown alike does
  report_is : (x : Timed) (o : Outcome) (t : State) → x.outcome ≡ Some o → x.acts ≡ [] → x.config.a ≡ 0 → x.config.b ≡ 0 → ShownAlike x.config.state t
      → report_text x ≡ report_between o t
  report_is x o t e none a b h = λ i. report_of (e i) (length (none i)) (h.registers i) (a i) (b i) (h.output i)

  pub reports_stop : (x : Timed) (o : Outcome) (n : ℕ) (w : why.WholeStop) → x.outcome ≡ Some o → x.acts ≡ []
      → (h : StopsBetween machine (start image) n w x.config)
      → report_text x ≡ report_between o h.order
  reports_stop x o n w e none h = report_is x o h.order e none h.a h.b (shown_alike x.config.state h.order h.live h.pc)

  pub reports_going : (x : Timed) → x.outcome ≡ Some outcome.OutOfTicks → x.acts ≡ [] → (h : Holds machine (start image) x.config) (none : x.config.a ≡ 0)
      → report_text x ≡ report_between outcome.OutOfTicks (shown_between x.config h none).order
  reports_going x e thread h none = report_is x outcome.OutOfTicks _ e thread none (b_between x.config h none) (shown_between x.config h none).alike

  -- THE STOPS
  pub halted_as : (reason : Reason) (n : ℕ) (c : Config State) (h : HaltsAfter machine (start image) reason n c)
      → in_order listing image n ≡ Halted reason n h.between.order
  halted_as reason n c h = subst (λ (k : ℕ). in_order listing image k ≡ Halted reason k h.between.order) (sym h.number)
      ((sequence.halted listing image around h.before reason h.between.order).0 h.between.stops)

  pub full_as : (c : Config State) (h : StopsBetween machine (start image) c.n why.Full c) → in_order listing image (c.n + 1) ≡ Full (c.n + 1) h.order
  full_as c h = (sequence.full listing image around c.n h.order).0 h.stops

  pub fault_as : (f : Fault) (pc n : ℕ) → FaultsAt machine (start image) n f pc → in_order listing image (n + 1) ≡ Faulted f.kind pc f.addr n
  fault_as f pc n h = (sequence.faulted listing image around n f pc).0 h

  -- THE HEADLINE
  pub halts : (x : Timed) (report file : List ℕ) → StaysInOrder listing image s x → x.acts ≡ [] → report ≡ report_text x → file ≡ memory_text x
      → (reason : Reason) (n : ℕ) → x.outcome ≡ Some (outcome.Halted reason n) → HaltsInOrder listing image report file reason n
  halts x report file keeps none r f reason n e =
      let h : HaltsAfter machine (start image) reason n x.config = kept x (Some (outcome.Halted reason n)) keeps e in
      record {
        state = h.between.order;
        halts = halted_as reason n x.config h;
        report_is = r ∙ reports_stop x (outcome.Halted reason n) h.before (why.Halt reason) e none h.between;
        bytes = bytes_alike x.config.state h.between.order file (shown_alike x.config.state h.between.order h.between.live h.between.pc) f;
      }

  -- THE RIDERS
  few : (x : Timed) → StaysInOrder listing image s x → (reason : Reason) (n : ℕ) (u : State) → in_order listing image n ≡ Halted reason n u
      → x.outcome ≡ Some outcome.OutOfTicks → x.config.steps < 4 * n
  few x keeps reason zero u h e = absurd cc
  few x keeps reason (suc n) u h e =
      let one : n + 1 ≡ suc n = omega arith in
      let stops : StopsFrom machine (start image) n u (why.Halt reason)
      = (sequence.halted listing image around n reason u).1 (subst (λ (k : ℕ). in_order listing image k ≡ Halted reason k u) (sym one) h) in
      few_steps machine (start image) x.config n (why.Halt reason) (kept x (Some outcome.OutOfTicks) keeps e)
      (record { state = u; runs = stops.runs; stop = stops.stop })

  pub riders_of : (x : Timed) → StaysInOrder listing image s x → Riders listing image x
  riders_of x keeps = record {
    fault = λ f pc n e. fault_as f pc n (kept x (Some (outcome.Fault Thread f pc n)) keeps e);
    full = λ t e. let h : StopsBetween machine (start image) x.config.n why.Full x.config = kept x (Some (outcome.OutputFull t)) keeps e in
        (h.order, full_as x.config h);
    few = few x keeps;
  }
