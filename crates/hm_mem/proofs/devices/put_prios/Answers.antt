use Rattle.std.proofs.Common.{◌≡◌, ℕ, suc, ◌+◌, ◌<◌, List, [], ◌∷◌, ◌++◌, length, set, take, drop, map, sym, subst, ap, ◌∙◌, append_assoc, arith, rules}
use Rattle.std.proofs.Common.{length-append}
use Rattle.std.proofs.Math.Seq.{drop-cons, set-append_seam}
use Rattle.std.proofs.lemmas.List.{length-take-le}
use Rattle.std.proofs.lemmas.List.FromFn.{length-map-range_with_len, map-range_with_len_more}
use Rattle.std.specs.List.{range_with_len}
use Rattle.hm_mem.specs.Devices.{byte_of, put_prios, top_three}
use Rattle.hm_mem.proofs.devices.put_prios.Goals as goal

-- what is put behind two lists stands at their end
put_behind : (front middle : List ℕ) (x : ℕ) (rest : List ℕ) (i y : ℕ) → length front + length middle ≡ i
    → set (front ++ (middle ++ (x ∷ rest))) i y ≡ front ++ ((middle ++ (y ∷ [])) ++ rest)
put_behind front middle x rest i y e =
    let seam : set ((front ++ middle) ++ (x ∷ rest)) i y ≡ (front ++ middle) ++ (y ∷ rest) =
    subst (λ (j : ℕ). set ((front ++ middle) ++ (x ∷ rest)) j y ≡ (front ++ middle) ++ (y ∷ rest)) (length-append front middle ∙ e)
    (set-append_seam (front ++ middle) x rest y) in
    ap (λ (l : List ℕ). set l i y) (sym (append_assoc front middle (x ∷ rest))) ∙ seam ∙ append_assoc front middle (y ∷ rest)
    ∙ ap (λ (l : List ℕ). front ++ l) (sym (append_assoc middle (y ∷ []) rest))

-- one byte more is put
prios-more : (n k x : ℕ) (ps : List ℕ) → k + n < length ps → set (put_prios n k x ps) (k + n) (top_three (byte_of x n)) ≡ put_prios (n + 1) k x ps
prios-more n k x ps h =
    let f : ℕ → ℕ = λ b. top_three (byte_of x b) in
    let done : List ℕ = map f (range_with_len 0 n) in
    let place : suc (k + n) ≡ k + (n + 1) = omega arith in
    let lengths : length (take k ps) + length done ≡ k + n = omega (arith, length-take-le k ps (omega arith), length-map-range_with_len f 0 n) in
    ap (λ (l : List ℕ). set (take k ps ++ (done ++ l)) (k + n) (f n)) (drop-cons ps (k + n) 0 h)
    ∙ put_behind (take k ps) done _ _ (k + n) (f n) lengths
    ∙ ap (λ (l : List ℕ). take k ps ++ (l ++ drop (suc (k + n)) ps)) (sym (map-range_with_len_more f 0 n n (omega arith)))
    ∙ ap (λ (j : ℕ). take k ps ++ (map f (range_with_len 0 (n + 1)) ++ drop j ps)) place

pub loop-byte-preserved : goal.loop-byte-preserved
loop-byte-preserved c =
    let count : length c.args.prios.now ≡ 240 = search rules in
    rw (c.loop-byte.invariant, c.top_three.ensures.value, c.byte_of.ensures.value)
    (prios-more c.loop-byte.byte c.args.k c.args.x c.args.prios.now (omega arith))
