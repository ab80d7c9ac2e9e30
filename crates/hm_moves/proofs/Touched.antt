-- What the code of a row that loads or stores touches is what its tree touches.
use Rattle.std.proofs.Common.{◌≡◌, ℕ, ◌+◌, ◌<◌, Bool, true, false, not, cond, ltb, List, [], ◌∷◌, ◌++◌, map, refl, sym, ◌∙◌, ap}
use Rattle.std.proofs.Common.{append_assoc}
use Rattle.std.proofs.lemmas.List.{append-nil, map-append}
use Rattle.hm_base.specs.Place.{listed, noted_all}
use Rattle.hm_base.specs.declared.Place.{Place}
use Rattle.hm_base.specs.declared.Place.TheVariants.{P0}
use Rattle.hm_base.specs.declared.Stop.{Stop}
use Rattle.hm_base.proofs.Order.{listed-append}
use Rattle.hm_regs.specs.declared.Regs.{Regs}
use Rattle.hm_regs.specs.Writes.{Write, places_of}
use Rattle.hm_lane.specs.declared.lanes.Size.{Size}
use Rattle.hm_lane.specs.Predicate.{advance_places, mask_place}
use Rattle.hm_mem.specs.Memory.{Memory}
use Rattle.hm_mem.specs.Seen.{marks}
use Rattle.hm_state.specs.State.{At, Byte, Cell, Value, state_of}
use Rattle.hm_beat.specs.Trees.{Leaf, targets}
use Rattle.hm_beat.specs.Rows.{always}
use Rattle.hm_beat.specs.Touches.{bytes_in, flag_places, loads_in, places_in, reads_in, span_bytes, stores_in, writes_in}
use Rattle.hm_beat.proofs.Predicated.{advance_at, targets-append}
use Rattle.hm_beat.proofs.Footprint.{advance_places_is, all_listed, bytes_at, bytes_at-append, mask_is, places_at, places_at-append, targets_always, tested_is}
use Rattle.hm_moves.specs.declared.elements.Element.{Element}
use Rattle.hm_moves.specs.Coded.{begun_in}
use Rattle.hm_moves.specs.Moves.{Moves, bytes_of_elements, elements_at, fill, moved_by, moves_tree, sources_at, store_all, store_bytes, byte_count, words_read}
use Rattle.hm_moves.proofs.Trees.{begun_places, leaf_at, reach_moves, tests_moves}

pub begun_is : (w : Bool) (b : ℕ) (r : Regs) (m : Memory) (output : List ℕ) → begun_places w b (state_of r m output) ≡ begun_in w b r
begun_is true b r m output = tested_is false b r m output
begun_is false b r m output = ap (λ n. mask_place b ∷ cond (ltb 8 n) (P0 b ∷ []) []) (mask_is b r m output)

places_bytes : (bs : List ℕ) (cs : List Cell) → places_in (map Byte bs ++ cs) ≡ places_in cs
places_bytes [] cs = refl
places_bytes (b ∷ bs) cs = places_bytes bs cs

pub bytes_bytes : (bs : List ℕ) (cs : List Cell) → bytes_in (map Byte bs ++ cs) ≡ bs ++ bytes_in cs
bytes_bytes [] cs = refl
bytes_bytes (b ∷ bs) cs = ap (λ xs. b ∷ xs) (bytes_bytes bs cs)

pub places_where : (y : Bool) (bs : List ℕ) (ps : List Place) → places_in (cond y [] (map Byte bs) ++ map At ps) ≡ ps
places_where true bs ps = places_at ps
places_where false bs ps = places_bytes bs (map At ps) ∙ places_at ps

bytes_where : (y : Bool) (bs : List ℕ) (ps : List Place) → bytes_in (cond y [] (map Byte bs) ++ map At ps) ≡ cond (not y) bs []
bytes_where true bs ps = bytes_at ps
bytes_where false bs ps = bytes_bytes bs (map At ps) ∙ ap (λ xs. bs ++ xs) (bytes_at ps) ∙ append-nil bs

-- READS
pub reads_are : (i : Moves) (b : ℕ) (r : Regs) (m : Memory) (output : List ℕ)
    → reads_in (moves_tree i m.around b) r m output ≡ noted_all (begun_in i.predicated b r) (noted_all (i.sources b) (noted_all (words_read i b) []))
reads_are i b r m output =
    let s = state_of r m output in
    let rest = cond i.store [] (map Byte (bytes_of_elements i.memory (elements_at i b s))) ++ map At (words_read i b) in
    ap (λ cs. listed (places_in cs))
    ((λ j. tests_moves i m.around b s j ++ (reach_moves i m.around b s j).reads)
    ∙ append_assoc (map At (begun_places i.predicated b s)) (map At (i.sources b)) rest)
    ∙ ap listed (places_at-append (begun_places i.predicated b s) (map At (i.sources b) ++ rest)
    ∙ ap (λ ps. begun_places i.predicated b s ++ ps)
    (places_at-append (i.sources b) rest
    ∙ ap (λ ps. i.sources b ++ ps) (places_where i.store (bytes_of_elements i.memory (elements_at i b s)) (words_read i b)))
    ∙ ap (λ ps. ps ++ (i.sources b ++ words_read i b)) (begun_is i.predicated b r m output))
    ∙ listed-append (begun_in i.predicated b r) (i.sources b ++ words_read i b)
    ∙ ap (noted_all (begun_in i.predicated b r))
    (listed-append (i.sources b) (words_read i b) ∙ ap (noted_all (i.sources b)) (sym (all_listed (words_read i b))))

pub loads_are : (i : Moves) (b : ℕ) (r : Regs) (m : Memory) (output : List ℕ)
    → loads_in (moves_tree i m.around b) r m output ≡ cond (not i.store) (bytes_of_elements i.memory (elements_at i b (state_of r m output))) []
loads_are i b r m output =
    let s = state_of r m output in
    let rest = cond i.store [] (map Byte (bytes_of_elements i.memory (elements_at i b s))) ++ map At (words_read i b) in
    ap bytes_in ((λ j. tests_moves i m.around b s j ++ (reach_moves i m.around b s j).reads)
    ∙ append_assoc (map At (begun_places i.predicated b s)) (map At (i.sources b)) rest)
    ∙ bytes_at-append (begun_places i.predicated b s) (map At (i.sources b) ++ rest) ∙ bytes_at-append (i.sources b) rest
    ∙ bytes_where i.store (bytes_of_elements i.memory (elements_at i b s)) (words_read i b)

-- WRITES
targets_fill : (i : Moves) (j : ℕ) (es : List Element) (ps : List Place) → targets (fill i j es ps) ≡ map At ps
targets_fill i j es [] = refl
targets_fill i j es (p ∷ ps) = ap (λ cs. At p ∷ cs) (targets_fill i (j + 1) es ps)

targets_bytes : (t : Bool) (e : Element) (k : ℕ) (bs : List ℕ) → targets (store_bytes t e k bs) ≡ map Byte bs
targets_bytes t e k [] = refl
targets_bytes t e k (b ∷ bs) = ap (λ cs. Byte b ∷ cs) (targets_bytes t e (k + 1) bs)

targets_stores : (t : Bool) (z : Size) (es : List Element) → targets (store_all t z es) ≡ map Byte (bytes_of_elements z es)
targets_stores t z [] = refl
targets_stores t z (e ∷ es) = targets-append (store_bytes t e 0 (span_bytes e.addr (byte_count z))) (store_all t z es)
    ∙ (λ j. targets_bytes t e 0 (span_bytes e.addr (byte_count z)) j ++ targets_stores t z es j)
    ∙ sym (map-append Byte (span_bytes e.addr (byte_count z)) (bytes_of_elements z es))

pub targets_moved : (i : Moves) (t : Bool) (b : ℕ) (es : List Element) (y : Bool)
    → targets (cond y (store_all t i.memory es) (fill i 0 es (i.words b)))
    ≡ cond y (map Byte (bytes_of_elements i.memory es)) [] ++ map At (cond (not y) (i.words b) [])
targets_moved i t b es true = targets_stores t i.memory es ∙ sym (append-nil (map Byte (bytes_of_elements i.memory es)))
targets_moved i t b es false = targets_fill i 0 es (i.words b)

leaf_targets : (i : Moves) (b : ℕ) (r : Regs) (m : Memory) (output : List ℕ) → let s = state_of r m output in b < 4
    → targets (leaf_at i m.around b s).writes
    ≡ cond i.store (map Byte (bytes_of_elements i.memory (elements_at i b s))) []
    ++ map At (cond (not i.store) (i.words b) [] ++ (places_of (i.back b (sources_at i b s)) ++ advance_places b r))
leaf_targets i b r m output low =
    let s = state_of r m output in
    let es = elements_at i b s in
    let ws = i.back b (sources_at i b s) in
    let bytes = cond i.store (map Byte (bytes_of_elements i.memory es)) [] in
    targets-append (moved_by i m.around b es) (map always (ws ++ advance_at b s))
    ∙ (λ j. targets_moved i (marks m.around.actor) b es i.store j
    ++ (targets_always (ws ++ advance_at b s)
    ∙ ap (map At) (map-append (λ (w : Write). w.place) ws (advance_at b s) ∙ ap (λ ps. places_of ws ++ ps) (advance_places_is b r m output low))) j)
    ∙ append_assoc bytes (map At (cond (not i.store) (i.words b) [])) (map At (places_of ws ++ advance_places b r))
    ∙ ap (λ cs. bytes ++ cs) (sym (map-append At (cond (not i.store) (i.words b) []) (places_of ws ++ advance_places b r)))

pub places_after : (y : Bool) (bs : List ℕ) (ps : List Place) → places_in (cond y (map Byte bs) [] ++ map At ps) ≡ ps
places_after true bs ps = places_bytes bs (map At ps) ∙ places_at ps
places_after false bs ps = places_at ps

pub bytes_after : (y : Bool) (bs : List ℕ) (ps : List Place) → bytes_in (cond y (map Byte bs) [] ++ map At ps) ≡ cond y bs []
bytes_after true bs ps = bytes_bytes bs (map At ps) ∙ ap (λ xs. bs ++ xs) (bytes_at ps) ∙ append-nil bs
bytes_after false bs ps = bytes_at ps

pub writes_are : (i : Moves) (b : ℕ) (r : Regs) (m : Memory) (output : List ℕ) → b < 4
    → writes_in (moves_tree i m.around b) r m output
    ≡ noted_all (cond (not i.store) (i.words b) [])
    (noted_all (places_of (i.back b (sources_at i b (state_of r m output)))) (noted_all (advance_places b r) []))
writes_are i b r m output low =
    let s = state_of r m output in
    let ws = places_of (i.back b (sources_at i b s)) in
    ap (λ (l : Leaf Cell Value Stop). listed (flag_places l.mark ++ places_in (targets l.writes))) (reach_moves i m.around b s)
    ∙ ap (λ cs. listed (places_in cs)) (leaf_targets i b r m output low)
    ∙ ap listed (places_after i.store (bytes_of_elements i.memory (elements_at i b s)) (cond (not i.store) (i.words b) [] ++ (ws ++ advance_places b r)))
    ∙ listed-append (cond (not i.store) (i.words b) []) (ws ++ advance_places b r)
    ∙ ap (noted_all (cond (not i.store) (i.words b) [])) (listed-append ws (advance_places b r) ∙ ap (noted_all ws) (sym (all_listed (advance_places b r))))

pub stores_are : (i : Moves) (b : ℕ) (r : Regs) (m : Memory) (output : List ℕ) → b < 4
    → stores_in (moves_tree i m.around b) r m output ≡ cond i.store (bytes_of_elements i.memory (elements_at i b (state_of r m output))) []
stores_are i b r m output low =
    let s = state_of r m output in
    ap (λ (l : Leaf Cell Value Stop). bytes_in (targets l.writes)) (reach_moves i m.around b s) ∙ ap bytes_in (leaf_targets i b r m output low)
    ∙ bytes_after i.store (bytes_of_elements i.memory (elements_at i b s))
    (cond (not i.store) (i.words b) [] ++ (places_of (i.back b (sources_at i b s)) ++ advance_places b r))
