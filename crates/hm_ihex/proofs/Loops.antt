-- Reading records and filling cells one after the other, as loops do.
use Rattle.std.proofs.Common.{◌≡◌, ℕ, ◌+◌, ◌%◌, ◌<◌, ◌≤◌, cond, List, [], ◌∷◌, ◌++◌, append_assoc, drop, length, get_or, set, Option, Some, None, option_map}
use Rattle.std.proofs.Common.{refl, sym, ap, arith}
use Rattle.std.proofs.lemmas.List.{append-nil, drop_more, drop_all}
use Rattle.hm_ihex.specs.Cells.{front_of, is_free, put_in}
use Rattle.hm_ihex.specs.Records.{byte_in, bytes_in, sum_of}

pub sum_more : (bytes : List ℕ) (k total : ℕ) → k < length bytes
    → ((total + get_or bytes k 0) % 256 + sum_of (drop (k + 1) bytes)) % 256 ≡ (total + sum_of (drop k bytes)) % 256
unfolding sum_of
sum_more bytes k total lt = rw (drop_more bytes k 0 lt) (omega arith)

pub sum_all : (bytes : List ℕ) (k : ℕ) → length bytes ≤ k → sum_of (drop k bytes) ≡ 0
unfolding sum_of
sum_all bytes k le = rw (drop_all k bytes le) refl

-- bytes that were read, and then those of the digits that are left
abbrev pub behind : List ℕ → Option (List ℕ) → Option (List ℕ)
behind before more = option_map (λ bs. before ++ bs) more

joined : (before : List ℕ) (b : ℕ) (o : Option (List ℕ)) → behind before (option_map (λ bs. b ∷ bs) o) ≡ behind (before ++ b ∷ []) o
joined before b None = refl
joined before b (Some bs) = ap (λ (x : List ℕ). Some x) (sym (append_assoc before (b ∷ []) bs))

-- one more byte of two digits
pub bytes_more : (before rest : List ℕ) (b : ℕ) → 2 ≤ length rest → Some b ≡ byte_in (get_or rest 0 0) (get_or rest 1 0)
    → behind before (bytes_in rest) ≡ behind (before ++ b ∷ []) (bytes_in (drop 2 rest))
unfolding bytes_in
bytes_more before [] b two is = absurd (omega arith)
bytes_more before (c ∷ []) b two is = absurd (omega arith)
bytes_more before (c ∷ d ∷ rest) b two is = rw (← is) (joined before b (bytes_in rest))

pub bytes_none : (before rest : List ℕ) → 2 ≤ length rest → None ≡ byte_in (get_or rest 0 0) (get_or rest 1 0) → behind before (bytes_in rest) ≡ None
unfolding bytes_in
bytes_none before [] two is = absurd (omega arith)
bytes_none before (c ∷ []) two is = absurd (omega arith)
bytes_none before (c ∷ d ∷ rest) two is = rw (← is) refl

-- the end of the digits, and one that stands alone
pub bytes_end : (before rest : List ℕ) → length rest ≡ 0 → behind before (bytes_in rest) ≡ Some before
unfolding bytes_in
bytes_end before [] none = ap (λ (x : List ℕ). Some x) (append-nil before)
bytes_end before (c ∷ rest) none = absurd (omega arith)

pub bytes_alone : (before rest : List ℕ) → length rest ≡ 1 → behind before (bytes_in rest) ≡ None
unfolding bytes_in
bytes_alone before [] one = absurd (omega arith)
bytes_alone before (c ∷ []) one = refl
bytes_alone before (c ∷ d ∷ rest) one = absurd (omega arith)

pub put_more : (bytes : List ℕ) (cells : List (Option ℕ)) (k at : ℕ) → k < length bytes
    → put_in at (drop k bytes) cells ≡ cond (is_free at cells) (put_in (at + 1) (drop (k + 1) bytes) (set cells at (Some (get_or bytes k 0)))) None
unfolding put_in
put_more bytes cells k at lt = rw (drop_more bytes k 0 lt) refl

pub put_all : (bytes : List ℕ) (cells : List (Option ℕ)) (k at : ℕ) → length bytes ≤ k → put_in at (drop k bytes) cells ≡ Some cells
unfolding put_in
put_all bytes cells k at le = rw (drop_all k bytes le) refl

pub front_more : (cells : List (Option ℕ)) (k b : ℕ) → k < length cells → get_or cells k None ≡ Some b
    → front_of (drop k cells) ≡ b ∷ front_of (drop (k + 1) cells)
unfolding front_of
front_more cells k b lt is = rw (drop_more cells k None lt, is) refl

pub front_none : (cells : List (Option ℕ)) (k : ℕ) → k < length cells → get_or cells k None ≡ None → front_of (drop k cells) ≡ []
unfolding front_of
front_none cells k lt is = rw (drop_more cells k None lt, is) refl

pub front_all : (cells : List (Option ℕ)) (k : ℕ) → length cells ≤ k → front_of (drop k cells) ≡ []
unfolding front_of
front_all cells k le = rw (drop_all k cells le) refl
