-- Texts that grow by the values of a function, the taint of SRAM as bytes, and what readers are told.
use Rattle.std.proofs.Common.{◌≡◌, ℕ, zero, suc, ◌+◌, ◌*◌, ◌/◌, ◌%◌, ◌^◌, ◌<◌, ◌≤◌, Bool, true, false, List, [], ◌∷◌, ◌++◌, ap, arith, sym, ◌∙◌, refl, add-one}
use Rattle.std.proofs.Common.{add-zero, append_assoc, append-nil, get_or, length}
use Rattle.std.specs.Prelude.{◌-◌, IfSome, None, Some, if◌then◌else◌, nat_eq, nat_lt, slice_index}
use Rattle.hm_base.specs.Image.{flash_size, in_sram, sram_size, sram_start}
use Rattle.hm_mem.proofs.Truths.{length-truths, truth-at}
use Rattle.hm_mem.specs.Memory.{Memory, byte_at, tainted_at, told_at}
use Rattle.hm_mem.specs.Truths.{truth_in, truths}
use Rattle.hm_state.proofs.Bytes.{byte_of_bits-same, tainted_at-sram}
use Rattle.hm_state.proofs.Lists.{listed_is, listed-suc}
use Rattle.hm_state.specs.State.{bit, byte_of_bits, listed}

none : (f : ℕ → ℕ) → listed 0 f ≡ []
unfolding listed
none f = refl

pub listed_first : (out : List ℕ) (f : ℕ → ℕ) → out ≡ out ++ listed 0 f
listed_first out f = sym (ap (λ (l : List ℕ). out ++ l) (none f) ∙ append-nil out)

pub listed_more : (out old new : List ℕ) (k b : ℕ) (f : ℕ → ℕ) → old ≡ out ++ listed k f → b ≡ f k → new ≡ old ++ b ∷ [] → new ≡ out ++ listed (k + 1) f
listed_more out old new k b f is value grown =
    grown ∙ (λ i. is i ++ value i ∷ []) ∙ append_assoc out (listed k f) (f k ∷ [])
    ∙ sym (ap (λ (l : List ℕ). out ++ l) (ap (λ (j : ℕ). listed j f) (add-one k) ∙ listed-suc 0 k f))

-- BITS of a byte, put together again
bit_told : (x : ℕ) → x < 2 → bit (nat_eq x 1) ≡ x
bit_told zero h = refl
bit_told (suc zero) h = refl
bit_told (suc (suc x)) h = absurd (omega arith)

told_byte : (b : ℕ) → b < 256 → bit (truth_in b 0) + 2 * bit (truth_in b 1) + 4 * bit (truth_in b 2) + 8 * bit (truth_in b 3)
    + 16 * bit (truth_in b 4) + 32 * bit (truth_in b 5) + 64 * bit (truth_in b 6) + 128 * bit (truth_in b 7) ≡ b
told_byte b small =
    let e0 = bit_told (b / 2 ^ 0 % 2) (omega arith) in
    let e1 = bit_told (b / 2 ^ 1 % 2) (omega arith) in
    let e2 = bit_told (b / 2 ^ 2 % 2) (omega arith) in
    let e3 = bit_told (b / 2 ^ 3 % 2) (omega arith) in
    let e4 = bit_told (b / 2 ^ 4 % 2) (omega arith) in
    let e5 = bit_told (b / 2 ^ 5 % 2) (omega arith) in
    let e6 = bit_told (b / 2 ^ 6 % 2) (omega arith) in
    let e7 = bit_told (b / 2 ^ 7 % 2) (omega arith) in
    (λ i. e0 i + 2 * e1 i + 4 * e2 i + 8 * e3 i + 16 * e4 i + 32 * e5 i + 64 * e6 i + 128 * e7 i) ∙ omega (arith, small)

-- the truth value of bit j of byte k
truth_of : (bs : List ℕ) (k j : ℕ) → j < 8 → get_or (truths bs) (8 * k + j) false ≡ truth_in (get_or bs k 0) j
truth_of bs k j small =
    let q : (8 * k + j) / 8 ≡ k = omega arith in
    let r : (8 * k + j) % 8 ≡ j = omega arith in
    truth-at bs (8 * k + j) ∙ (λ i. truth_in (get_or bs (q i) 0) (r i))

whole_byte : (bs : List ℕ) (k : ℕ) → get_or bs k 0 < 256 → byte_of_bits (λ (j : ℕ). get_or (truths bs) j false) k ≡ get_or bs k 0
whole_byte bs k small =
    let e0 = ap (λ (i : ℕ). get_or (truths bs) i false) (sym (add-zero (8 * k))) ∙ truth_of bs k 0 (omega arith) in
    let e1 = truth_of bs k 1 (omega arith) in
    let e2 = truth_of bs k 2 (omega arith) in
    let e3 = truth_of bs k 3 (omega arith) in
    let e4 = truth_of bs k 4 (omega arith) in
    let e5 = truth_of bs k 5 (omega arith) in
    let e6 = truth_of bs k 6 (omega arith) in
    let e7 = truth_of bs k 7 (omega arith) in
    (λ i. bit (e0 i) + 2 * bit (e1 i) + 4 * bit (e2 i) + 8 * bit (e3 i) + 16 * bit (e4 i) + 32 * bit (e5 i) + 64 * bit (e6 i) + 128 * bit (e7 i))
    ∙ told_byte (get_or bs k 0) small

-- a byte of the marks is the taint of eight bytes
byte_told : (m : Memory) (bs : List ℕ) (k : ℕ) → truths bs ≡ m.taint → 8 * k + 8 ≤ sram_size → get_or bs k 0 < 256
    → get_or bs k 0 ≡ byte_of_bits (λ (j : ℕ). tainted_at m (sram_start + j)) k
byte_told m bs k are le small =
    sym (whole_byte bs k small) ∙ ap (λ (ts : List Bool). byte_of_bits (λ (j : ℕ). get_or ts j false) k) are
    ∙ sym (byte_of_bits-same (λ (a : ℕ). tainted_at m (sram_start + a)) (λ (a : ℕ). get_or m.taint a false) k
    (λ a low high. tainted_at-sram m a (omega (arith, le, high))))

-- the marks are the taint, eight bytes a byte
pub marks_told : (m : Memory) (bs : List ℕ) → truths bs ≡ m.taint → length m.taint ≡ sram_size → ((k : ℕ) → k < length bs → get_or bs k 0 < 256)
    → listed 0x8000 (byte_of_bits (λ (j : ℕ). tainted_at m (sram_start + j))) ≡ bs
marks_told m bs are size small =
    let long : 8 * length bs ≡ sram_size = sym (length-truths bs) ∙ ap length are ∙ size in
    listed_is 0 0x8000 (byte_of_bits (λ (j : ℕ). tainted_at m (sram_start + j))) bs (omega (arith, long)) (λ k lt.
    let there : k < length bs = omega (arith, long, lt) in
    byte_told m bs k are (omega (arith, lt)) (small k there))

-- what a reader is told of an address is its byte, where it is told any
either_told : (b c : Bool) (x y : ℕ) → IfSome (if b then Some x else (if c then Some y else None)) (λ z. z ≡ (if b then x else (if c then y else 0)))
either_told true c x y = refl
either_told false true x y = refl
either_told false false x y = tt

pub told_is : (m : Memory) (a : ℕ) → IfSome (told_at m a) (λ x. x ≡ byte_at m a)
told_is m a = either_told (nat_lt a flash_size) (in_sram a) (slice_index m.flash a) (slice_index m.sram (a - sram_start))
