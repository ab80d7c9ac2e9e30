-- Elements one after another, for the loops of the code.
use Rattle.std.proofs.Common.{◌≡◌, ℕ, zero, suc, ◌+◌, ◌<◌, Bool, List, [], ◌∷◌, ◌++◌, drop, length, get_or, Some, None, refl, sym, ◌∙◌, ap, arith}
use Rattle.std.proofs.Common.{append_assoc}
use Rattle.std.proofs.Math.Seq.{drop-cons}
use Rattle.std.proofs.lemmas.List.{append-nil}
use Rattle.std.specs.Option.{option_or}
use Rattle.hm_base.specs.declared.Span.{Span}
use Rattle.hm_base.specs.declared.Stop.{Stop}
use Rattle.hm_lane.specs.declared.lanes.Size.{Size}
use Rattle.hm_mem.specs.declared.Access.TheVariants.{Vector}
use Rattle.hm_mem.specs.Memory.{Around}
use Rattle.hm_mem.specs.Seen.{Seen, read, stop_of}
use Rattle.hm_mem.proofs.Stops.{neither_stops}
use Rattle.hm_beat.specs.Touches.{span_bytes, spanned}
use Rattle.hm_moves.specs.declared.elements.Element.{Element}
use Rattle.hm_moves.specs.Coded.{filled_in, first_stop}
use Rattle.hm_moves.specs.Moves.{Moves, bytes_of_elements, laid, byte_count}

abbrev pub none : Element
none = record { addr = 0; word = 0; lane = 0 }

pub drop_at : {A : Type 0} (d : A) (xs : List A) (k : ℕ) → k < length xs → drop k xs ≡ get_or xs k d ∷ drop (k + 1) xs
drop_at d xs k h =
    let one : suc k ≡ k + 1 = omega arith in
    drop-cons xs k d h ∙ ap (λ (j : ℕ). get_or xs k d ∷ drop j xs) one

module _ (x : Around) (store : Bool) (len : ℕ) (es : List Element) (k : ℕ) (s : Seen) (low : k < length es) where
  stop_step : first_stop x store len (drop k es) s
      ≡ option_or (stop_of x Vector store len (get_or es k none).addr s) (first_stop x store len (drop (k + 1) es) s)
  stop_step = ap (λ xs. first_stop x store len xs s) (drop_at none es k low)

  -- an element that does not stop, and one that does
  pub stop_next : stop_of x Vector store len (get_or es k none).addr s ≡ None
      → first_stop x store len (drop k es) s ≡ first_stop x store len (drop (k + 1) es) s
  stop_next e = stop_step ∙ ap (λ o. option_or o (first_stop x store len (drop (k + 1) es) s)) e

  pub stop_here : (e : Stop) → stop_of x Vector store len (get_or es k none).addr s ≡ Some e → first_stop x store len (drop k es) s ≡ Some e
  stop_here e h = stop_step ∙ ap (λ o. option_or o (first_stop x store len (drop (k + 1) es) s)) h

  -- where none stops, this one does not, nor any behind it
  pub stop_none : first_stop x store len (drop k es) s ≡ None
      → (stop_of x Vector store len (get_or es k none).addr s ≡ None) × (first_stop x store len (drop (k + 1) es) s ≡ None)
  stop_none h = neither_stops _ _ (sym stop_step ∙ h)

-- none stops of those from one on
pub drop_none : (x : Around) (store : Bool) (len : ℕ) (es : List Element) (k : ℕ) (s : Seen) → first_stop x store len es s ≡ None
    → first_stop x store len (drop k es) s ≡ None
drop_none x store len es zero s h = h
drop_none x store len [] (suc k) s h = refl
drop_none x store len (e ∷ es) (suc k) s h = drop_none x store len es k s (neither_stops _ _ h).1

-- SPANS
spanned-more : (xs : List Span) (x : Span) → spanned (xs ++ x ∷ []) ≡ spanned xs ++ span_bytes x.addr x.len
spanned-more [] x = append-nil (span_bytes x.addr x.len)
spanned-more (y ∷ xs) x = ap (λ bs. span_bytes y.addr y.len ++ bs) (spanned-more xs x)
    ∙ sym (append_assoc (span_bytes y.addr y.len) (spanned xs) (span_bytes x.addr x.len))

pub spans_more : (z : Size) (es : List Element) (k : ℕ) (xs ys : List Span) (w : ℕ) → k < length es
    → ys ≡ xs ++ (record { addr = (get_or es k none).addr; len = w }) ∷ [] → w ≡ byte_count z
    → spanned xs ++ bytes_of_elements z (drop k es) ≡ bytes_of_elements z es → spanned ys ++ bytes_of_elements z (drop (k + 1) es) ≡ bytes_of_elements z es
spans_more z es k xs ys w low e f h =
    let bs = span_bytes (get_or es k none).addr (byte_count z) in
    ap (λ zs. spanned zs ++ bytes_of_elements z (drop (k + 1) es)) (e ∙ ap (λ n. xs ++ (record { addr = (get_or es k none).addr; len = n }) ∷ []) f)
    ∙ ap (λ cs. cs ++ bytes_of_elements z (drop (k + 1) es)) (spanned-more xs (record { addr = (get_or es k none).addr; len = byte_count z }))
    ∙ append_assoc (spanned xs) bs (bytes_of_elements z (drop (k + 1) es))
    ∙ ap (λ cs. spanned xs ++ cs) (sym (ap (bytes_of_elements z) (drop_at none es k low))) ∙ h

-- WORDS
pub fill_next : (i : Moves) (j : ℕ) (es : List Element) (k old x w v : ℕ) (s : Seen) → k < length es → w ≡ filled_in i j (drop (k + 1) es) old s
    → x ≡ read (byte_count i.memory) (get_or es k none).addr s → v ≡ laid i j (get_or es k none) x w → v ≡ filled_in i j (drop k es) old s
fill_next i j es k old x w v s low hw hx hv =
    hv ∙ (λ t. laid i j (get_or es k none) (hx t) (hw t)) ∙ sym (ap (λ xs. filled_in i j xs old s) (drop_at none es k low))
