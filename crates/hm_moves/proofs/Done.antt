-- What the code of a row that loads or stores does is what its tree does.
use Rattle.std.proofs.Common.{◌≡◌, ℕ, ◌+◌, ◌-◌, ◌*◌, ◌%◌, ◌<◌, Bool, true, false, not, cond, ◌&&◌, ltb, eqb, List, [], ◌∷◌, ◌++◌, map, Option, None, Ok, drop}
use Rattle.std.proofs.Common.{length, get_or, refl, sym, ◌∙◌, ap, append_assoc}
use Rattle.std.proofs.lemmas.List.{map-append}
use Rattle.hm_base.specs.declared.Place.TheVariants.{P0, R}
use Rattle.hm_base.specs.declared.Place.{Place}
use Rattle.hm_mem.specs.Memory.{Memory}
use Rattle.hm_mem.specs.Seen.{Seen, marks, seen}
use Rattle.hm_regs.specs.declared.Regs.{Regs}
use Rattle.hm_regs.specs.Place.{Counted, value_at}
use Rattle.hm_regs.specs.Writes.{Write, apply, write}
use Rattle.hm_lane.specs.Predicate.{advance_of, advance_writes, mask_of, mask_place}
use Rattle.hm_state.specs.Store.{put_all}
use Rattle.hm_state.specs.State.{AreCells, Cell, State, Value, cells, into, state_of}
use Rattle.hm_state.proofs.Cells.{applied}
use Rattle.hm_beat.specs.Trees.{finish}
use Rattle.hm_beat.specs.Laws.{run}
use Rattle.hm_beat.proofs.Footprint.{advance_are_cells, advance_is}
use Rattle.hm_beat.proofs.Whole.{put_all-append}
use Rattle.hm_kinds.specs.declared.rows.Written.{Written}
use Rattle.hm_kinds.specs.Coded.{puts}
use Rattle.hm_kinds.proofs.Coded.{apply-append, cells-append}
use Rattle.hm_moves.specs.declared.elements.Element.{Element}
use Rattle.hm_moves.specs.Moves.{Moves, back_at, elements_at, loaded_at, moves_tree, sources_at, stored_at, byte_count}
use Rattle.hm_moves.specs.Coded.{filled_in, first_stop, puts_of, word_puts}
use Rattle.hm_moves.proofs.Checked.{run_checked}
use Rattle.hm_moves.proofs.Loops.{drop_at}
use Rattle.hm_moves.proofs.Trees.{ends_at, leaf_at, others_of, written_leaf}

-- what is written back and the advance, one after another
pub advanced : (b : ℕ) (r r1 r2 r3 : Regs) (back : Option Written) (mask slice : ℕ)
    → r1 ≡ apply (puts back) r → r2 ≡ apply (cond (ltb 8 mask) (write (P0 b) (15 - slice) ∷ []) []) r1
    → r3 ≡ apply (cond (eqb (b % 2) 1 && not (eqb mask 0)) (write (mask_place b) (2 * mask) ∷ []) []) r2
    → r3 ≡ apply (puts back ++ advance_of b mask slice) r
advanced b r r1 r2 r3 back mask slice e1 e2 e3 =
    let inverted = cond (ltb 8 mask) (write (P0 b) (15 - slice) ∷ []) [] in
    let shifted = cond (eqb (b % 2) 1 && not (eqb mask 0)) (write (mask_place b) (2 * mask) ∷ []) [] in
    e3 ∙ ap (apply shifted) e2 ∙ sym (apply-append inverted shifted r1)
    ∙ ap (apply (advance_of b mask slice)) e1
    ∙ sym (apply-append (puts back) (advance_of b mask slice) r)

-- words, and then what is written back and the advance from the masks as they stood before
pub finished : (b : ℕ) (r r1 r2 : Regs) (ws back : List Write) (mask slice : ℕ) → mask ≡ mask_of b r → slice ≡ value_at (P0 b) r
    → r1 ≡ apply ws r → r2 ≡ apply (back ++ advance_of b mask slice) r1 → r2 ≡ apply (ws ++ (back ++ advance_writes b r)) r
finished b r r1 r2 ws back mask slice em es e1 e2 =
    e2 ∙ (λ j. apply (back ++ advance_of b (em j) (es j)) (e1 j))
    ∙ sym (apply-append ws (back ++ advance_writes b r) r)

puts-more : (ws : List Written) (w : Written) → puts_of (ws ++ w ∷ []) ≡ puts_of ws ++ write w.place w.value ∷ []
puts-more [] w = refl
puts-more (v ∷ ws) w = ap (λ us. write v.place v.value ∷ us) (puts-more ws w)

-- one word more is filled
pub words_more : (i : Moves) (es : List Element) (list : List Place) (j v : ℕ) (old : Place → ℕ) (s : Seen) (ws vs : List Written) (t : List Write)
    → j < length list
    → vs ≡ ws ++ (record { place = get_or list j (R 0); value = v }) ∷ [] → v ≡ filled_in i j es (old (get_or list j (R 0))) s
    → puts_of ws ++ word_puts i j es (drop j list) old s ≡ t → puts_of vs ++ word_puts i (j + 1) es (drop (j + 1) list) old s ≡ t
words_more i es list j v old s ws vs t low e h k =
    let rest = word_puts i (j + 1) es (drop (j + 1) list) old s in
    ap (λ us. puts_of us ++ rest) e ∙ ap (λ us. us ++ rest) (puts-more ws (record { place = get_or list j (R 0); value = v }))
    ∙ append_assoc (puts_of ws) (write (get_or list j (R 0)) v ∷ []) rest
    ∙ ap (λ n. puts_of ws ++ write (get_or list j (R 0)) n ∷ rest) h
    ∙ sym (ap (λ ps. puts_of ws ++ word_puts i j es ps old s) (drop_at (R 0) list j low)) ∙ k

-- a row that stores fills no word
pub none_filled : (y : Bool) (ws : List Write) (r : Regs) → y ≡ true → r ≡ apply (cond y [] ws) r
none_filled y ws r e = ap (λ x. apply (cond x [] ws) r) (sym e)

pub none_cells : (y : Bool) (ws : List Write) → y ≡ true → AreCells (cond y [] ws)
none_cells true ws e = tt
none_cells false ws e = absurd (cc)

pub none_loaded : (y : Bool) (ws : List Write) (us : List (Cell × Value)) → y ≡ true → map into (cond y [] ws) ≡ cond y [] us
none_loaded true ws us e = refl
none_loaded false ws us e = absurd (cc)

-- a row that loads fills its words, and stores nothing
pub all_filled : (y : Bool) (ws : List Write) (r q : Regs) → y ≡ false → q ≡ apply ws r → q ≡ apply (cond y [] ws) r
all_filled y ws r q e h = h ∙ ap (λ x. apply (cond x [] ws) r) (sym e)

pub all_cells : (y : Bool) (ws : List Write) → AreCells ws → AreCells (cond y [] ws)
all_cells true ws h = tt
all_cells false ws h = h

pub all_loaded : (y : Bool) (ws : List Write) (us : List (Cell × Value)) → y ≡ false → map into ws ≡ us → map into (cond y [] ws) ≡ us
all_loaded y ws us e h = ap (λ x. map into (cond x [] ws)) e ∙ h

pub none_stored : (y : Bool) (us : List (Cell × Value)) (s : State) → y ≡ false → s ≡ put_all cells (cond y us []) s
none_stored y us s e = ap (λ x. put_all cells (cond x us []) s) (sym e)

-- a beat fills words or stores bytes, so it does not matter which are written first
either_first : (y : Bool) (ws vs us : List (Cell × Value)) (s : State)
    → put_all cells (cond y [] ws ++ us) (put_all cells (cond y vs []) s) ≡ put_all cells (cond y [] ws ++ (cond y vs [] ++ us)) s
either_first true ws vs us s = sym (put_all-append vs us s)
either_first false ws vs us s = refl

-- a beat that does not stop: its bytes are stored, and then come its words, what is written back, and the advance
pub beat_done : (i : Moves) (b : ℕ) (r q : Regs) (m n : Memory) (output : List ℕ) (es : List Element) (ws back : List Write) → let s = state_of r m output in
    b < 4 → Counted r → es ≡ elements_at i b s → first_stop m.around i.store (byte_count i.memory) es (seen m) ≡ None
    → AreCells ws → AreCells back → map into ws ≡ loaded_at i b s → back ≡ i.back b (sources_at i b s)
    → state_of r n output ≡ put_all cells (stored_at i (marks m.around.actor) b s) s → q ≡ apply (ws ++ (back ++ advance_writes b r)) r
    → run (moves_tree i m.around b) r m output ≡ Ok (state_of q n output)
beat_done i b r q m n output es ws back low counted same free are backs loads gives stores done =
    let s = state_of r m output in
    let t = marks m.around.actor in
    let advance = advance_writes b r in
    let ready : AreCells (ws ++ (back ++ advance)) = cells-append ws (back ++ advance) are (cells-append back advance backs (advance_are_cells b r low)) in
    let given : map into (ws ++ (back ++ advance)) ≡ loaded_at i b s ++ (back_at i b s ++ ends_at b s)
    = map-append into ws (back ++ advance)
    ∙ (λ j. loads j ++ (map-append into back advance ∙ (λ k. map into (gives k) ++ map into (sym (advance_is b r m output low) k))) j) in
    let after : state_of q n output ≡ put_all cells (loaded_at i b s ++ others_of i t b s) s
    = ap (λ (x : Regs). state_of x n output) done ∙ applied (ws ++ (back ++ advance)) r n output ready counted
    ∙ (λ j. put_all cells (given j) (stores j)) ∙ either_first i.store _ _ (back_at i b s ++ ends_at b s) s in
    run_checked i b m r output es same ∙ ap (λ o. finish cells o (leaf_at i m.around b s) s) free
    ∙ ap (λ xs. Ok (put_all cells xs s)) (written_leaf i m.around b s) ∙ ap Ok (sym after)
