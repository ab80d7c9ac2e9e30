-- What the mnemonic of a row with a part, a size or a mask tells.
use Rattle.std.proofs.Common.{◌≡◌, ℕ, zero, suc, ◌<◌, true, List, Option, Some, None, refl, sym, ap, ◌∙◌, arith}
use Rattle.std.specs.Prelude.{◌&&◌, nat_eq, nat_le, nat_lt, not}
use Rattle.std.proofs.lemmas.Bool.{and_parts, ltb-true}
use Rattle.hm_isa.specs.declared.memory.V28.{V28}
use Rattle.hm_isa.specs.MemoryRules.{is_interleaved}
use Rattle.hm_text_base.proofs.Steps.{some_is}
use Rattle.hm_text_rows.specs.Names.{named}
use Rattle.hm_text_rows.proofs.Words.{◌▹◌, AllBelow, at_below}
use Rattle.hm_textv_rows.specs.Mnemonics.{access_mnemonic, block_mnemonic, block_word, compare_word}
use Rattle.hm_textv_codes.specs.Names.{access_in, constant_in, constant_mnemonic, interleaved_in, interleaved_mnemonic, masks}

-- equal words tell the same
pub same_told : {A : Type 0} (look_up : List ℕ → Option A) {x y : A} {s t : List ℕ} → look_up s ≡ Some x → look_up t ≡ Some y → s ≡ t → x ≡ y
same_told look_up {x = x} {y = y} first second e = some_is x y (sym first ∙ ap look_up e ∙ second)

-- V15: VMOV, VMVN, VORR and VBIC
pub constant_told : (k : ℕ) → k < 4 → constant_in (constant_mnemonic k) ≡ Some k
constant_told k lt = at_below (λ j. constant_in (constant_mnemonic j) ≡ Some j) 4 k (refl ▹ refl ▹ refl ▹ refl ▹ tt) lt

-- V20: VCMP and VPT
pub compare_told : (k : ℕ) → k < 16 → named (block_mnemonic compare_word) masks (block_mnemonic compare_word k) ≡ Some k
compare_told k lt =
    at_below (λ j. named (block_mnemonic compare_word) masks (block_mnemonic compare_word j) ≡ Some j) 16 k
    (refl ▹ refl ▹ refl ▹ refl ▹ refl ▹ refl ▹ refl ▹ refl ▹ refl ▹ refl ▹ refl ▹ refl ▹ refl ▹ refl ▹ refl ▹ refl ▹ tt)
    lt

-- V21: VPNOT and VPST
pub block_told : (k : ℕ) → k < 16 → named (block_mnemonic block_word) masks (block_mnemonic block_word k) ≡ Some k
block_told k lt =
    at_below (λ j. named (block_mnemonic block_word) masks (block_mnemonic block_word j) ≡ Some j) 16 k
    (refl ▹ refl ▹ refl ▹ refl ▹ refl ▹ refl ▹ refl ▹ refl ▹ refl ▹ refl ▹ refl ▹ refl ▹ refl ▹ refl ▹ refl ▹ refl ▹ tt)
    lt

-- V24 to V27: a fact of VSTRB, VSTRH and VSTRW, and VLDRB, VLDRH and VLDRW, given at each
pub access_at : (P : ℕ → ℕ → Type 0) (l y : ℕ) → l < 2 → y < 3 → AllBelow (P 0) 3 → AllBelow (P 1) 3 → P l y
access_at P zero y hl hy stores loads = at_below (P 0) 3 y stores hy
access_at P (suc zero) y hl hy stores loads = at_below (P 1) 3 y loads hy
access_at P (suc (suc l)) y hl hy stores loads = absurd (omega arith)

pub access_told : (l y : ℕ) → l < 2 → y < 3 → access_in (access_mnemonic l y) ≡ Some (l, y)
access_told l y hl hy = access_at (λ k j. access_in (access_mnemonic k j) ≡ Some (k, j)) l y hl hy (refl ▹ refl ▹ refl ▹ tt) (refl ▹ refl ▹ refl ▹ tt)

pub not_interleaved : (l y : ℕ) → l < 2 → y < 3 → interleaved_in (access_mnemonic l y) ≡ None
not_interleaved l y hl hy = access_at (λ k j. interleaved_in (access_mnemonic k j) ≡ None) l y hl hy (refl ▹ refl ▹ refl ▹ tt) (refl ▹ refl ▹ refl ▹ tt)

-- V28: a fact of VST20, VST21, VLD20, VLD21, VST40 to VST43 and VLD40 to VLD43, given at each
abbrev pub AtEach : (ℕ → ℕ → ℕ → Type 0) → Type 0
AtEach P = AllBelow (P 0 0) 2 × AllBelow (P 0 1) 2 × AllBelow (P 1 0) 4 × AllBelow (P 1 1) 4

two_parts : (n d p : ℕ) → is_interleaved n d p 0 ≡ true → p < 2
two_parts n d p rule = ltb-true _ _ (and_parts (nat_lt p 2) (nat_le d 6) (and_parts (not (nat_eq n 15)) (nat_lt p 2 && nat_le d 6) rule).1).0

at_each : (P : ℕ → ℕ → ℕ → Type 0) (f l p n d : ℕ) → f < 2 → l < 2 → p < 4 → is_interleaved n d p f ≡ true → AtEach P → P f l p
at_each P (suc (suc f)) l p n d hf hl hp rule each = absurd (omega arith)
at_each P f (suc (suc l)) p n d hf hl hp rule each = absurd (omega arith)
at_each P (suc zero) zero p n d hf hl hp rule each = at_below (P 1 0) 4 p each.2 hp
at_each P (suc zero) (suc zero) p n d hf hl hp rule each = at_below (P 1 1) 4 p each.3 hp
at_each P zero zero p n d hf hl hp rule each = at_below (P 0 0) 2 p each.0 (two_parts n d p rule)
at_each P zero (suc zero) p n d hf hl hp rule each = at_below (P 0 1) 2 p each.1 (two_parts n d p rule)

pub interleaved_at : (P : ℕ → ℕ → ℕ → Type 0) (i : V28) → AtEach P → P i.f.value i.l.value i.p.value
interleaved_at P i each = at_each P i.f.value i.l.value i.p.value i.n.value i.d.value i.f.in_range i.l.in_range i.p.in_range i.rule each

pub interleaved_told : (i : V28) → interleaved_in (interleaved_mnemonic i.f.value i.l.value i.p.value) ≡ Some (i.f.value, i.l.value, i.p.value)
interleaved_told i =
    interleaved_at (λ f l p. interleaved_in (interleaved_mnemonic f l p) ≡ Some (f, l, p)) i
    (refl ▹ refl ▹ tt, refl ▹ refl ▹ tt, refl ▹ refl ▹ refl ▹ refl ▹ tt, refl ▹ refl ▹ refl ▹ refl ▹ tt)
