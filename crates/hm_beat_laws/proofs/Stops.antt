-- The first stop of a beat that loads or stores: its checks, element by element.
use Rattle.std.proofs.Common.{◌≡◌, ℕ, zero, suc, ◌+◌, Bool, true, false, not, cond, ◌||◌, ◌&&◌, List, [], ◌∷◌, ◌++◌, get_or, if◌then◌else◌, Option, Some, None}
use Rattle.std.proofs.Common.{refl, ◌∙◌, ap, arith, append_assoc}
use Rattle.std.specs.Option.{option_or}
use Rattle.hm_base.specs.declared.Fault.{Fault}
use Rattle.hm_base.specs.declared.Stop.{Stop}
use Rattle.hm_base.specs.declared.Stop.TheVariants as stop
use Rattle.hm_base.specs.declared.FaultKind.{FaultKind}
use Rattle.hm_lane.specs.declared.lanes.Size.{Size}
use Rattle.hm_lane.specs.declared.lanes.Size.TheVariants as size
use Rattle.hm_mem.specs.declared.Access.TheVariants.{Vector}
use Rattle.hm_mem.specs.declared.Actor.{Actor}
use Rattle.hm_mem.specs.declared.Actor.TheVariants.{Thread, Handler, Entry}
use Rattle.hm_mem.specs.Devices.{has_width, in_devices, tells_time, device_word}
use Rattle.hm_moves.proofs.Accesses.{in_memory, within}
use Rattle.hm_moves.proofs.Checked.{four_bytes, one_byte, two_bytes}
use Rattle.hm_mem.proofs.Stops.{fault_free, neither_stops, no_word}
use Rattle.hm_whole.specs.Whole.{seen_in}
use Rattle.hm_mem.specs.Memory.{Around}
use Rattle.hm_mem.specs.Seen.{fault_kind, is_barred, is_denied, is_thread, is_unaligned, lies_in_flash, lies_in_memory, some_byte, stop_after}
use Rattle.hm_state.specs.State.{Byte, Cell, State, cells}
use Rattle.hm_beat.specs.Trees.{Check, checked}
use Rattle.hm_beat.specs.Touches.{span_bytes}
use Rattle.hm_moves.specs.declared.elements.Element.{Element}
use Rattle.hm_moves.specs.Moves.{active_ones, asks, checks_of, fails, fault_after, is_closed, sure_stop, byte_count}
use Rattle.hm_moves.specs.Ways.{each_from}
use Rattle.hm_moves.specs.Wholes.{fault_of}
use Rattle.hm_moves.proofs.Trees.{checked_fails}
use Rattle.hm_beat_laws.specs.Exceptions.{element_stop}
use Rattle.hm_beat_laws.specs.MovedParts.{first_among}

-- one of these bytes is tainted
abbrev any_tainted : List ℕ → State → Bool
any_tainted [] s = false
any_tainted (a ∷ addrs) s = (s.cell (Byte a)).taint || any_tainted addrs s

-- the first stop of a list of elements
abbrev pub first_of : (ℕ → Option Stop) → List Element → Option Stop
first_of f [] = None
first_of f (e ∷ es) = option_or (f e.addr) (first_of f es)

pub or_none : {A : Type 0} (o : Option A) → option_or o None ≡ o
or_none o = grind arith

or_twice : (o p q : Option Stop) → option_or o (option_or p q) ≡ option_or (option_or o p) q
or_twice o p q = grind arith

where_true : (y : Bool) (e : Stop) (o : Option Stop) → cond y (Some e) o ≡ option_or (cond y (Some e) None) o
where_true y e o = grind arith

one_tainted : (p q : Bool) (e : Stop) (o : Option Stop) → cond p (Some e) (cond q (Some e) o) ≡ cond (p || q) (Some e) o
one_tainted p q e o = grind arith

-- bytes that are asked for, one after another
checked_asks : (a : ℕ) (bs : List ℕ) (cs : List (Check Cell Stop)) (s : State)
    → checked cells (asks a bs ++ cs) s ≡ cond (any_tainted bs s) (Some (stop.Tainted a)) (checked cells cs s)
checked_asks a [] cs s = refl
checked_asks a (b ∷ bs) cs s = ap (λ o. cond (s.cell (Byte b)).taint (Some (stop.Tainted a)) o) (checked_asks a bs cs s)
    ∙ one_tainted (s.cell (Byte b)).taint (any_tainted bs s) (stop.Tainted a) (checked cells cs s)

checked_where : (y : Bool) (a : ℕ) (bs : List ℕ) (cs : List (Check Cell Stop)) (s : State)
    → checked cells (cond y (asks a bs) [] ++ cs) s ≡ option_or (cond (y && any_tainted bs s) (Some (stop.Tainted a)) None) (checked cells cs s)
checked_where true a bs cs s = checked_asks a bs cs s ∙ where_true (any_tainted bs s) (stop.Tainted a) (checked cells cs s)
checked_where false a bs cs s = refl

-- an element has the stop of its access
module _ (x : Around) (store : Bool) (y : Size) (s : State) (a : ℕ) where
  abbrev taint : ℕ → Bool
  taint = (seen_in s).taint

  any_byte : (z : Size) → lies_in_memory (byte_count z) a ≡ true → any_tainted (span_bytes a (byte_count z)) s ≡ some_byte (byte_count z) taint a
  any_byte size.Byte h = one_byte (taint a)
  any_byte size.Half h = ap (λ b. taint a || (taint b || false)) (within size.Half a 1 h (omega arith)) ∙ two_bytes (taint a) (taint (a + 1))
  any_byte size.Word h =
      (λ j. taint a || (taint (within size.Word a 1 h (omega arith) j)
      || (taint (within size.Word a 2 h (omega arith) j) || (taint (within size.Word a 3 h (omega arith) j) || false))))
      ∙ four_bytes (taint a) (taint (a + 1)) (taint (a + 2)) (taint (a + 3))

  by_actor : (o : Option FaultKind) (who : Actor) → (o ≡ None → lies_in_memory (byte_count y) a ≡ true)
      → option_or (stop_after o (is_closed who x.bounds store (byte_count y) a) store a)
      (cond (is_thread who && not store && any_tainted (span_bytes a (byte_count y)) s) (Some (stop.Tainted a)) None)
      ≡ stop_after o (is_barred who x.bounds store (byte_count y) a (seen_in s)) store a
  by_actor (Some k) who h = refl
  by_actor None Entry h = refl
  by_actor None (Handler f) h = or_none (stop_after None (store && is_denied x.bounds f (byte_count y) a) store a)
  by_actor None Thread h = by_store store
    where
      tainted : (p q : Bool) → p ≡ true → cond q (Some (stop.Tainted a)) None ≡ stop_after None (p && q) false a
      tainted true true e = refl
      tainted true false e = refl
      tainted false q e = cc

      by_store : (w : Bool) → option_or (stop_after None false w a)
          (cond (true && not w && any_tainted (span_bytes a (byte_count y)) s) (Some (stop.Tainted a)) None)
          ≡ stop_after None (not w && lies_in_memory (byte_count y) a && some_byte (byte_count y) taint a) w a
      by_store true = refl
      by_store false = (λ j. cond (any_byte y (h refl) j) (Some (stop.Tainted a)) None)
          ∙ tainted (lies_in_memory (byte_count y) a) (some_byte (byte_count y) taint a) (h refl)

  stop_is : option_or (sure_stop x store (byte_count y) a)
      (cond (is_thread x.actor && not store && any_tainted (span_bytes a (byte_count y)) s) (Some (stop.Tainted a)) None) ≡ element_stop x store y s a
  stop_is = by_actor (fault_kind (is_thread x.actor) Vector store (byte_count y) a) x.actor (λ e. (in_memory (is_thread x.actor) store (byte_count y) a e).0)

pub all_checked : (x : Around) (store : Bool) (y : Size) (es : List Element) (s : State)
    → checked cells (checks_of x store (byte_count y) es) s ≡ first_of (element_stop x store y s) es
all_checked x store y [] s = refl
all_checked x store y (e ∷ es) s =
    let o = sure_stop x store (byte_count y) e.addr in
    let w = is_thread x.actor && not store in
    let bs = span_bytes e.addr (byte_count y) in
    let cs = checks_of x store (byte_count y) es in
    ap (λ ks. checked cells ks s) (append_assoc (fails o) (cond w (asks e.addr bs) []) cs)
    ∙ checked_fails o (cond w (asks e.addr bs) [] ++ cs) s
    ∙ ap (option_or o) (checked_where w e.addr bs cs s)
    ∙ or_twice o (cond (w && any_tainted bs s) (Some (stop.Tainted e.addr)) None) (checked cells cs s)
    ∙ (λ j. option_or (stop_is x store y s e.addr j) (all_checked x store y es s j))

-- of the elements of a word the active ones
one_stop : (f : ℕ → Option Stop) (p : Bool) (e : Element) (es : List Element)
    → first_of f (cond p (e ∷ []) [] ++ es) ≡ option_or (cond p (f e.addr) None) (first_of f es)
one_stop f p e es = grind arith

pub active_stops : (f : ℕ → Option Stop) (q : List Bool) (g : ℕ → Element) (j n : ℕ)
    → first_of f (active_ones q (each_from g j n)) ≡ first_among f (each_from (λ k. get_or q (g k).lane false) j n) (each_from (λ k. (g k).addr) j n)
active_stops f q g j zero = refl
active_stops f q g j (suc n) =
    let p = get_or q (g j).lane false in
    one_stop f p (g j) (active_ones q (each_from g (j + 1) n)) ∙ ap (option_or (cond p (f (g j).addr) None)) (active_stops f q g (j + 1) n)

-- WHERE NO ELEMENT STOPS there is no fault, also for the thread: a vector access reaches no device, so none that tells the time
timed : (p q r w s t y : Bool) (e f g k l : FaultKind) → (q ≡ false → t ≡ false)
    → (if p then Some e else (if q then Some f else (if r then Some g else (if w then Some k else (if y && not s && t then Some l else None))))) ≡ None
    → (if p then Some e else (if q then Some f else (if r then Some g else (if w then Some k else (if true && not s && t then Some l else None))))) ≡ None
timed true q r w s t y e f g k l out h = cc
timed false true r w s t y e f g k l out h = cc
timed false false true w s t y e f g k l out h = cc
timed false false false true s t y e f g k l out h = cc
timed false false false false true t y e f g k l out h = refl
timed false false false false false t y e f g k l out h = ap (λ v. if v then Some l else None) (out refl)

thread_free : (thread store : Bool) (len a : ℕ) → fault_kind thread Vector store len a ≡ None → fault_kind true Vector store len a ≡ None
thread_free thread store len a h =
    timed (is_unaligned Vector len a) (in_devices a) (not (lies_in_memory len a || has_width (device_word a) len)) (store && lies_in_flash len a) store
    (tells_time (device_word a)) thread _ _ _ _ _
    (λ out. ap tells_time (no_word a out)) h

where_none : (p : Bool) (o : Option Stop) (f : Option Fault) → (o ≡ None → f ≡ None) → cond p o None ≡ None → cond p f None ≡ None
where_none true o f g h = g h
where_none false o f g h = refl

pub no_fault : (x : Around) (store : Bool) (y : Size) (s : State) (ps : List Bool) (addrs : List ℕ) → first_among (element_stop x store y s) ps addrs ≡ None
    → fault_of store (byte_count y) ps addrs ≡ None
no_fault x store y s [] addrs h = refl
no_fault x store y s (p ∷ ps) [] h = refl
no_fault x store y s (p ∷ ps) (a ∷ addrs) h =
    let none = neither_stops (cond p (element_stop x store y s a) None) (first_among (element_stop x store y s) ps addrs) h in
    let free : element_stop x store y s a ≡ None → fault_after (fault_kind true Vector store (byte_count y) a) a ≡ None
    = λ e. ap (λ k. fault_after k a) (thread_free (is_thread x.actor) store (byte_count y) a (fault_free x Vector store (byte_count y) a (seen_in s) e)) in
    λ j. option_or (where_none p (element_stop x store y s a) (fault_after (fault_kind true Vector store (byte_count y) a) a) free none.0 j)
    (no_fault x store y s ps addrs none.1 j)
