-- A store to memory is a store to the bytes of the state.
use Rattle.std.proofs.Common.{◌≡◌, ℕ, zero, suc, ◌+◌, ◌-◌, ◌*◌, ◌/◌, ◌%◌, ◌^◌, ◌<◌, ◌≤◌, Bool, true, false, cond, ◌||◌, ◌&&◌, eqb, nat_le, nat_lt, List, []}
use Rattle.std.proofs.Common.{◌∷◌, drop, length, get_or, refl, sym, ◌∙◌, ap, arith, eqb-true}
use Rattle.std.specs.Prelude.{if◌then◌else◌}
use Rattle.std.proofs.lemmas.Bool.Decides.{nat_tests}
use Rattle.std.proofs.Math.Nat.{mod-eq_of_lt}
use Rattle.hm_regs.specs.declared.Regs.{Regs}
use Rattle.hm_lane.specs.declared.lanes.Size.{Size}
use Rattle.hm_mem.specs.declared.Dev.{Dev}
use Rattle.hm_mem.specs.Devices.{byte_of, device_word, write_devices}
use Rattle.hm_mem.specs.Memory.{Memory, byte_at, tainted_at}
use Rattle.hm_mem.specs.Seen.{Seen, after_store, covers, lies_in_sram, seen}
use Rattle.hm_state.specs.Store.{put, put_all}
use Rattle.hm_state.specs.State.{At, Byte, Cell, State, Value, cells, rest_of, state_of}
use Rattle.hm_state.proofs.Cells.{one_state}
use Rattle.hm_beat.specs.Touches.{span_bytes, span_rest}
use Rattle.hm_beat.proofs.Chained.{put_other}
use Rattle.hm_beat.proofs.Whole.{put_all-append}
use Rattle.hm_kinds.proofs.Row.{pc-put_all}
use Rattle.hm_moves.specs.declared.elements.Element.{Element}
use Rattle.hm_moves.specs.Moves.{all_bytes_from, bytes_from, byte_count}
use Rattle.hm_moves.proofs.Accesses.{shifted_byte}
use Rattle.hm_moves.proofs.Loops.{drop_at, none}
use Rattle.hm_moves.proofs.Moves.{off_bytes}

pick : (y z : Bool) (v x w : Value) → (y ≡ true → x ≡ v) → cond z v (cond y x w) ≡ cond (y || z) v w
pick true true v x w h = refl
pick true false v x w h = h refl
pick false true v x w h = refl
pick false false v x w h = refl

-- what byte b gets of an element from address a on
abbrev pub given : Bool → Element → List ℕ → ℕ → ℕ → Value
given t e ws a b = record { n = byte_of (get_or ws e.word 0) (e.lane + (b - a)); taint = t }

one_more : (x n b : ℕ) → (eqb x b || (nat_le (x + 1) b && nat_lt b (x + 1 + n))) ≡ (nat_le x b && nat_lt b (x + suc n))
one_more x n b = grind (arith, nat_tests)

nothing : (x b : ℕ) → (nat_le x b && nat_lt b (x + 0)) ≡ false
nothing x b = grind (arith, nat_tests)

put_rest : (t : Bool) (e : Element) (ws : List ℕ) (a k n b : ℕ) (s : State) → a + k + n ≤ 2 ^ 32
    → (put_all cells (bytes_from t e ws k (span_rest a k n)) s).cell (Byte b)
    ≡ cond (nat_le (a + k) b && nat_lt b (a + k + n)) (given t e ws a b) (s.cell (Byte b))
put_rest t e ws a k zero b s h = sym (ap (λ y. cond y (given t e ws a b) (s.cell (Byte b))) (nothing (a + k) b))
put_rest t e ws a k (suc n) b s h =
    let here : (a + k) % 2 ^ 32 ≡ a + k = mod-eq_of_lt (omega arith) in
    let v : Value = record { n = byte_of (get_or ws e.word 0) (e.lane + k); taint = t } in
    put_rest t e ws a (k + 1) n b (put cells (Byte ((a + k) % 2 ^ 32)) v s) (omega arith)
    ∙ (λ j. cond (nat_le (next j) b && nat_lt b (next j + n)) (given t e ws a b) (cond (eqb (here j) b) v (s.cell (Byte b))))
    ∙ pick (eqb (a + k) b) (nat_le (a + k + 1) b && nat_lt b (a + k + 1 + n)) (given t e ws a b) v (s.cell (Byte b)) same
    ∙ ap (λ y. cond y (given t e ws a b) (s.cell (Byte b))) (one_more (a + k) n b)
  where
    next : a + (k + 1) ≡ a + k + 1
    next = omega arith

    same : eqb (a + k) b ≡ true → (record { n = byte_of (get_or ws e.word 0) (e.lane + k); taint = t }) ≡ given t e ws a b
    same y =
        let f = eqb-true (a + k) b y in
        let g : k ≡ b - a = omega arith in ap (λ (j : ℕ). (record { n = byte_of (get_or ws e.word 0) (e.lane + j); taint = t })) g

put_span : (t : Bool) (e : Element) (ws : List ℕ) (a n b : ℕ) (s : State) → a + n ≤ 2 ^ 32
    → (put_all cells (bytes_from t e ws 0 (span_bytes a n)) s).cell (Byte b) ≡ cond (nat_le a b && nat_lt b (a + n)) (given t e ws a b) (s.cell (Byte b))
put_span t e ws a zero b s h = sym (ap (λ y. cond y (given t e ws a b) (s.cell (Byte b))) (nothing a b))
put_span t e ws a (suc n) b s h =
    let v : Value = record { n = byte_of (get_or ws e.word 0) (e.lane + 0); taint = t } in
    put_rest t e ws a 1 n b (put cells (Byte a) v s) (omega arith)
    ∙ pick (eqb a b) (nat_le (a + 1) b && nat_lt b (a + 1 + n)) (given t e ws a b) v (s.cell (Byte b)) same
    ∙ ap (λ y. cond y (given t e ws a b) (s.cell (Byte b))) (one_more a n b)
  where
    same : eqb a b ≡ true → (record { n = byte_of (get_or ws e.word 0) (e.lane + 0); taint = t }) ≡ given t e ws a b
    same y =
        let f = eqb-true a b y in let g : 0 ≡ b - a = omega arith in ap (λ (j : ℕ). (record { n = byte_of (get_or ws e.word 0) (e.lane + j); taint = t })) g

-- no cell is QC, and none what stands beside cells
pub sticky-put_all : (ws : List (Cell × Value)) (s : State) → (put_all cells ws s).sticky ≡ s.sticky
sticky-put_all [] s = refl
sticky-put_all (w ∷ ws) s = sticky-put_all ws (put cells w.0 w.1 s)

pub rest-put_all : (ws : List (Cell × Value)) (s : State) → (put_all cells ws s).rest ≡ s.rest
rest-put_all [] s = refl
rest-put_all (w ∷ ws) s = rest-put_all ws (put cells w.0 w.1 s)

together : (y t u : Bool) (p q : ℕ)
    → ◌≡◌ {A = Value} (record { n = if y then p else q; taint = if y then t else u }) (cond y (record { n = p; taint = t }) (record { n = q; taint = u }))
together true t u p q = refl
together false t u p q = refl

first_kept : (y : Bool) (d e : Dev) → y ≡ true → (if y then d else e) ≡ d
first_kept true d e h = refl
first_kept false d e h = cc

sram_end : (z : Size) (a : ℕ) → lies_in_sram (byte_count z) a ≡ true → a + byte_count z ≤ 2 ^ 32
sram_end z a h = grind (arith, nat_tests)

pub put_state : (m n : Memory) (r : Regs) (output : List ℕ) (t : Bool) (z : Size) (e : Element) (ws : List ℕ) → lies_in_sram (byte_count z) e.addr ≡ true
    → seen n ≡ after_store t (byte_count z) e.addr (get_or ws e.word 0 / 2 ^ (8 * e.lane)) (seen m) → n.around ≡ m.around
    → state_of r n output ≡ put_all cells (bytes_from t e ws 0 (span_bytes e.addr (byte_count z))) (state_of r m output)
unfolding state_of
put_state m n r output t z e ws lies same around =
    one_state (state_of r n output) (put_all cells vs (state_of r m output)) each
    (sym (sticky-put_all vs (state_of r m output))) (sym (pc-put_all vs (state_of r m output)))
    ((λ j. record (rest_of r m output) { devices = devices j; around = around j }) ∙ sym (rest-put_all vs (state_of r m output)))
  where
    vs : List (Cell × Value)
    vs = bytes_from t e ws 0 (span_bytes e.addr (byte_count z))

    x : ℕ
    x = get_or ws e.word 0 / 2 ^ (8 * e.lane)

    devices : n.devices ≡ m.devices
    devices = ap (λ (s : Seen). s.devices) same
        ∙ first_kept (lies_in_sram (byte_count z) e.addr) m.devices (write_devices m.devices (device_word e.addr) (byte_count z) e.addr x) lies

    each : (c : Cell) → (state_of r n output).cell c ≡ (put_all cells vs (state_of r m output)).cell c
    each (At p) = sym (put_other vs (At p) (state_of r m output) (off_bytes t e ws 0 (span_bytes e.addr (byte_count z)) p))
    each (Byte b) =
        let y = covers e.addr (byte_count z) b in
        (λ j. record { n = (same j).byte b; taint = (same j).taint b })
        ∙ (λ j. record { n = if lies j && y then byte_of x (b - e.addr) else byte_at m b; taint = if lies j && y then t else tainted_at m b })
        ∙ together y t (tainted_at m b) (byte_of x (b - e.addr)) (byte_at m b)
        ∙ ap (λ k. cond y (record { n = k; taint = t }) ((state_of r m output).cell (Byte b))) (shifted_byte (get_or ws e.word 0) e.lane (b - e.addr))
        ∙ sym (put_span t e ws e.addr (byte_count z) b (state_of r m output) (sram_end z e.addr lies))

-- one element more is stored
pub store_next : (t : Bool) (z : Size) (es : List Element) (ws : List ℕ) (k : ℕ) (s u : State) → k < length es
    → u ≡ put_all cells (bytes_from t (get_or es k none) ws 0 (span_bytes (get_or es k none).addr (byte_count z))) s
    → put_all cells (all_bytes_from t z (drop (k + 1) es) ws) u ≡ put_all cells (all_bytes_from t z (drop k es) ws) s
store_next t z es ws k s u low e =
    let e0 = get_or es k none in
    ap (put_all cells (all_bytes_from t z (drop (k + 1) es) ws)) e
    ∙ sym (put_all-append (bytes_from t e0 ws 0 (span_bytes e0.addr (byte_count z))) (all_bytes_from t z (drop (k + 1) es) ws) s)
    ∙ sym (ap (λ xs. put_all cells (all_bytes_from t z xs ws) s) (drop_at none es k low))
