-- Bytes of memory as a machine tells them, and lines of them.
use Rattle.std.proofs.Common.{◌≡◌, ℕ, suc, ◌+◌, ◌-◌, ◌*◌, ◌/◌, ◌<◌, ◌≤◌, ap, arith, refl, sym, ◌∙◌, Bool, true, false, ◌&&◌, cond, List, ◌++◌}
use Rattle.std.proofs.Common.{append-nil, append_assoc, nat_lt, slice_index, Option, Some, None, is_some, is_none, min}
use Rattle.std.proofs.lemmas.Bool.{and_parts}
use Rattle.hm_base.specs.Image.{flash_size, in_sram, sram_start}
use Rattle.hm_debug.specs.Lines.{all_mapped, bytes_text, is_mapped, memory_line, memory_lines}
use Rattle.hm_mem.specs.Memory.{Memory, told_at}
use Rattle.hm_regs.specs.declared.Regs.{Regs}
use Rattle.hm_state.specs.State.{Byte, State, state_of}
use Rattle.hm_text_base.specs.Texts.{hex2}

-- WHAT IS TOLD
mapped_some : (b c : Bool) (x y : ℕ) → is_some (cond b (Some x) (cond c (Some y) None)) ≡ cond b true c
mapped_some b c x y = grind arith

pub told_mapped : (m : Memory) (a : ℕ) → is_some (told_at m a) ≡ is_mapped a
told_mapped m a = mapped_some (nat_lt a flash_size) (in_sram a) (slice_index m.flash a) (slice_index m.sram (a - sram_start))

told_is : (b c : Bool) (x y v : ℕ) → cond b (Some x) (cond c (Some y) None) ≡ Some v → cond b x (cond c y 0) ≡ v
told_is true c x y v e = cc
told_is false true x y v e = cc
told_is false false x y v e = absurd cc

-- it is the byte of the state
pub told_byte : (r : Regs) (m : Memory) (out : List ℕ) (a v : ℕ) → told_at m a ≡ Some v → ((state_of r m out).cell (Byte a)).n ≡ v
unfolding state_of
told_byte r m out a v e = told_is (nat_lt a flash_size) (in_sram a) (slice_index m.flash a) (slice_index m.sram (a - sram_start)) v e

-- ONE BYTE of those that are left
pub mapped_more : (at count k : ℕ) → k < count → all_mapped (at + k) (count - k) ≡ (is_mapped (at + k) && all_mapped (at + (k + 1)) (count - (k + 1)))
mapped_more at count k below = more (count - k) (count - (k + 1)) (omega arith)
  where
    more : (n j : ℕ) → n ≡ suc j → all_mapped (at + k) n ≡ (is_mapped (at + k) && all_mapped (at + (k + 1)) j)
    more n j e =
        let next : (at + k) + 1 ≡ at + (k + 1) = omega arith in
        ap (all_mapped (at + k)) e ∙ ap (λ (a : ℕ). is_mapped (at + k) && all_mapped a j) next

pub bytes_more : (s : State) (at count k : ℕ) → k < count
    → bytes_text s (at + k) (count - k) ≡ hex2 (s.cell (Byte (at + k))).n ++ bytes_text s (at + (k + 1)) (count - (k + 1))
bytes_more s at count k below = more (count - k) (count - (k + 1)) (omega arith)
  where
    more : (n j : ℕ) → n ≡ suc j → bytes_text s (at + k) n ≡ hex2 (s.cell (Byte (at + k))).n ++ bytes_text s (at + (k + 1)) j
    more n j e =
        let next : (at + k) + 1 ≡ at + (k + 1) = omega arith in
        ap (bytes_text s (at + k)) e ∙ ap (λ (a : ℕ). hex2 (s.cell (Byte (at + k))).n ++ bytes_text s a j) next

-- a byte that is there, and the others
pub mapped_on : (m : Memory) (at count k : ℕ) → k < count → is_none (told_at m (at + k)) ≡ false
    → all_mapped (at + k) (count - k) ≡ all_mapped (at + (k + 1)) (count - (k + 1))
mapped_on m at count k below there = mapped_more at count k below
    ∙ ap (λ (b : Bool). b && all_mapped (at + (k + 1)) (count - (k + 1))) (sym (told_mapped m (at + k)) ∙ some_there (told_at m (at + k)) there)
  where
    some_there : (o : Option ℕ) → is_none o ≡ false → is_some o ≡ true
    some_there (Some x) e = refl
    some_there None e = absurd cc

pub mapped_off : (m : Memory) (at count k : ℕ) → k < count → is_none (told_at m (at + k)) ≡ true → all_mapped (at + k) (count - k) ≡ false
mapped_off m at count k below gone = mapped_more at count k below
    ∙ ap (λ (b : Bool). b && all_mapped (at + (k + 1)) (count - (k + 1))) (sym (told_mapped m (at + k)) ∙ none_there (told_at m (at + k)) gone)
  where
    none_there : (o : Option ℕ) → is_none o ≡ true → is_some o ≡ false
    none_there (Some x) e = absurd cc
    none_there None e = refl

pub mapped_here : (m : Memory) (at count k : ℕ) → k < count → all_mapped (at + k) (count - k) ≡ true
    → (is_some (told_at m (at + k)) ≡ true) × (all_mapped (at + (k + 1)) (count - (k + 1)) ≡ true)
mapped_here m at count k below all =
    let parts = and_parts (is_mapped (at + k)) (all_mapped (at + (k + 1)) (count - (k + 1))) (sym (mapped_more at count k below) ∙ all) in
    (told_mapped m (at + k) ∙ parts.0, parts.1)

pub bytes_on : (r : Regs) (m : Memory) (o : List ℕ) (at count k x : ℕ) (out new all : List ℕ) → k < count → told_at m (at + k) ≡ Some x → new ≡ out ++ hex2 x
    → out ++ bytes_text (state_of r m o) (at + k) (count - k) ≡ all → new ++ bytes_text (state_of r m o) (at + (k + 1)) (count - (k + 1)) ≡ all
bytes_on r m o at count k x out new all below told added is =
    let s = state_of r m o in
    let rest = bytes_text s (at + (k + 1)) (count - (k + 1)) in
    ap (λ (t : List ℕ). t ++ rest) added
    ∙ append_assoc out (hex2 x) rest
    ∙ ap (λ (t : List ℕ). out ++ t) (ap (λ (n : ℕ). hex2 n ++ rest) (sym (told_byte r m o (at + k) x told)) ∙ sym (bytes_more s at count k below))
    ∙ is

-- ONE ROW of those that are left
pub rows_on : (s : State) (addr len row count : ℕ) (out new all : List ℕ) → row < (len + 15) / 16 → count ≡ min (len - row * 16) 16
    → new ≡ out ++ memory_line s (addr + row * 16) count
    → out ++ memory_lines s (addr + row * 16) (len - row * 16) ((len + 15) / 16 - row) ≡ all
    → new ++ memory_lines s (addr + (row + 1) * 16) (len - (row + 1) * 16) ((len + 15) / 16 - (row + 1)) ≡ all
rows_on s addr len row count out new all below is added left =
    let rows = (len + 15) / 16 in
    let rest = memory_lines s (addr + (row + 1) * 16) (len - (row + 1) * 16) (rows - (row + 1)) in
    ap (λ (t : List ℕ). t ++ rest) added
    ∙ append_assoc out (memory_line s (addr + row * 16) count) rest
    ∙ ap (λ (t : List ℕ). out ++ t) (sym (more (rows - row) (rows - (row + 1)) (omega arith)))
    ∙ left
  where
    more : (n j : ℕ) → n ≡ suc j → memory_lines s (addr + row * 16) (len - row * 16) n
        ≡ memory_line s (addr + row * 16) count ++ memory_lines s (addr + (row + 1) * 16) (len - (row + 1) * 16) j
    more n j e =
        let a : (addr + row * 16) + 16 ≡ addr + (row + 1) * 16 = omega arith in
        let l : (len - row * 16) - 16 ≡ len - (row + 1) * 16 = omega arith in
        ap (memory_lines s (addr + row * 16) (len - row * 16)) e ∙ (λ i. memory_line s (addr + row * 16) (sym is i) ++ memory_lines s (a i) (l i) j)

-- NONE are left
pub bytes_none : (s : State) (a count k : ℕ) (out all : List ℕ) → count ≤ k → out ++ bytes_text s a (count - k) ≡ all → out ≡ all
bytes_none s a count k out all past left =
    let none : count - k ≡ 0 = omega arith in
    sym (append-nil out) ∙ ap (λ (n : ℕ). out ++ bytes_text s a n) (sym none) ∙ left

pub rows_none : (s : State) (a len rows k : ℕ) (out all : List ℕ) → rows ≤ k → out ++ memory_lines s a len (rows - k) ≡ all → out ≡ all
rows_none s a len rows k out all past left =
    let none : rows - k ≡ 0 = omega arith in
    sym (append-nil out) ∙ ap (λ (n : ℕ). out ++ memory_lines s a len n) (sym none) ∙ left
