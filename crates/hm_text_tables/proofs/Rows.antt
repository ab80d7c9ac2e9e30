-- Every row that is no vector row: its target, the room for what is printed, how few tokens it has, and the row with the same texts whose
-- label is near.
use Rattle.std.proofs.Common.{◌≡◌, ℕ, Bool, ◌≤◌, ◌*◌, List, length, refl, sym, subst, ap, inl, inr, arith}
use Rattle.hm_isa.specs.declared.Branch.TheVariants as branch
use Rattle.hm_isa.specs.declared.Scalar.TheVariants as scalar
use Rattle.hm_isa.specs.declared.Instr.{Instr}
use Rattle.hm_isa.specs.declared.Instr.TheVariants as instr
use Rattle.hm_isa.specs.declared.jumps.T16.TheVariants as t16
use Rattle.hm_isa.specs.declared.jumps.T23.{T23}
use Rattle.hm_isa.specs.declared.jumps.T23.TheVariants as t23
use Rattle.hm_isa.specs.declared.narrow.S25.TheVariants as s25
use Rattle.hm_isa.specs.declared.widths.ByWidth.{ByWidth}
use Rattle.hm_isa.specs.declared.widths.ByWidth.TheVariants as by
use Rattle.hm_isa.specs.declared.widths.NarrowRow.{NarrowRow}
use Rattle.hm_isa.specs.declared.widths.NarrowRow.TheVariants as narrow
use Rattle.hm_isa.specs.declared.widths.WideRow.{WideRow}
use Rattle.hm_isa.specs.declared.widths.WideRow.TheVariants as wide
use Rattle.hm_isa.specs.Code.{halves_by_width, width_of}
use Rattle.hm_isa.specs.Widths.{by_width}
use Rattle.hm_tokens.specs.Tokens.{Tok}
use Rattle.hm_text_rows.specs.Labels.{Reaches}
use Rattle.hm_text_rows.proofs.Shown.{IsGiven, few_of, room_of}
use Rattle.hm_text16_codes.proofs.Rows as narrow_laws
use Rattle.hm_text16_rows.specs.Rows as narrow_rows
use Rattle.hm_text16_rows.specs.Targets as narrow_targets
use Rattle.hm_text32_codes.proofs.Rows as wide_laws
use Rattle.hm_text32_codes.proofs.Immediates.{word_small}
use Rattle.hm_text32_rows.specs.Rows as wide_rows
use Rattle.hm_text32_rows.specs.Targets as wide_targets
use Rattle.hm_text_tables.specs.Labels.{label_where}
use Rattle.hm_text_tables.specs.Tables.{AreOfRow, HasTokens, IsRowOf, has_label, has_label_by, label_of, printed_by, target, target_by}

-- A TARGET where there is a label
given_narrow : (r : NarrowRow) (pc : ℕ) → IsGiven (narrow_rows.has_label r) (narrow_targets.target r pc)
given_narrow (narrow.S14 i) pc = omega arith
given_narrow (narrow.S24 i) pc = omega arith
given_narrow (narrow.S25 (s25.Conditional i)) pc = omega arith
given_narrow (narrow.S25 (s25.Always i)) pc = omega arith
given_narrow r pc = tt

given_loop : (i : T23) (pc : ℕ) → IsGiven (wide_rows.has_label_loop i) (wide_targets.loop_target i pc)
given_loop (t23.Wls i) pc = word_small _
given_loop (t23.Wlstp i) pc = word_small _
given_loop (t23.End i) pc = word_small _
given_loop i pc = tt

given_wide : (r : WideRow) (pc : ℕ) → IsGiven (wide_rows.has_label r) (wide_targets.target r pc)
given_wide (wide.T16 (t16.Conditional i)) pc = word_small _
given_wide (wide.T16 (t16.Always i)) pc = word_small _
given_wide (wide.T23 i) pc = given_loop i pc
given_wide r pc = tt

pub given_by : (w : ByWidth) (pc : ℕ) → IsGiven (has_label_by w) (target_by w pc)
given_by (by.Narrow r) pc = given_narrow r pc
given_by (by.Wide r) pc = given_wide r pc
given_by (by.Vector v) pc = tt

pub given_target : (i : Instr) (pc : ℕ) → IsGiven (has_label i) (target i pc)
given_target i pc = given_by (by_width i) pc

-- ROOM
pub narrow_room : (r : NarrowRow) (pc : ℕ) → length (printed_by (by.Narrow r) pc) ≤ 96
narrow_room r pc = room_of (narrow_rows.has_label r) (narrow_rows.row_tokens r) (narrow_targets.target r pc) (narrow_laws.row_law r).prints (given_narrow r pc)

pub wide_room : (r : WideRow) (pc : ℕ) → length (printed_by (by.Wide r) pc) ≤ 96
wide_room r pc = room_of (wide_rows.has_label r) (wide_rows.row_tokens r) (wide_targets.target r pc) (wide_laws.row_law r).prints (given_wide r pc)

-- FEW TOKENS
few_by : (w : ByWidth) (t : Tok) (ts : List Tok) → AreOfRow w t ts → length ts ≤ 40
few_by (by.Narrow r) t ts is =
    subst (λ (x : List Tok). length x ≤ 40) is (few_of (narrow_rows.has_label r) (narrow_rows.row_tokens r) t (narrow_laws.row_law r).prints)
few_by (by.Wide r) t ts (inl is) =
    subst (λ (x : List Tok). length x ≤ 40) is (few_of (wide_rows.has_label r) (wide_rows.row_tokens r) t (wide_laws.row_law r).prints)
few_by (by.Wide r) t ts (inr is) = (wide_laws.other_law r ts is).prints.few
few_by (by.Vector v) t ts is = absurd is

pub few_tokens : (i : Instr) (t : Tok) (ts : List Tok) → HasTokens i t ts → length ts ≤ 40
few_tokens i t ts has = few_by (by_width i) t ts has.tokens

-- A LABEL AS NEAR AS CAN BE
-- an instruction with the texts of a row, whose label names 4 from address 0
record Nearest (w : ByWidth) : Type 0 where
  near : Instr
  tokens : (t : Tok) (ts : List Tok) → AreOfRow w t ts → AreOfRow (by_width near) t ts
  label : has_label near ≡ has_label_by w
  bytes : width_of near ≡ 2 * length (halves_by_width w)
  reaches : Reaches (target near 0) 4

-- another row with the same texts
other_near : (w : ByWidth) (near : Instr) → ((t : Tok) (ts : List Tok) → AreOfRow w t ts → AreOfRow (by_width near) t ts)
    → has_label near ≡ has_label_by w → width_of near ≡ 2 * length (halves_by_width w) → Reaches (target near 0) 4 → Nearest w
other_near w near tokens label bytes reaches = record { near = near; tokens = tokens; label = label; bytes = bytes; reaches = reaches }

-- the row itself
same_near : (i : Instr) (w : ByWidth) → by_width i ≡ w → Reaches (target_by w 0) 4 → Nearest w
same_near i w is reaches = record {
  near = i;
  tokens = λ t ts are. subst (λ (v : ByWidth). AreOfRow v t ts) (sym is) are;
  label = ap has_label_by is;
  bytes = ap (λ (v : ByWidth). 2 * length (halves_by_width v)) is;
  reaches = subst (λ (v : ByWidth). Reaches (target_by v 0) 4) (sym is) reaches;
}

nearest_narrow : (i : Instr) (r : NarrowRow) → by_width i ≡ by.Narrow r → Nearest (by.Narrow r)
nearest_narrow i (narrow.S14 r) is =
    other_near _ (instr.Scalar (scalar.S14 (record { t = r.t; i = record { value = 0; in_range = omega arith } }))) (λ t ts are. are) refl refl refl
nearest_narrow i (narrow.S24 r) is =
    other_near _ (instr.Branch (branch.S24 (record { name = r.name; i = record { value = 0; in_range = omega arith }; n = r.n }))) (λ t ts are. are) refl refl
    refl
nearest_narrow i (narrow.S25 (s25.Conditional r)) is =
    other_near _ (instr.Branch (branch.S25 (s25.Conditional (record { c = r.c; i = record { value = 0; in_range = omega arith } })))) (λ t ts are. are) refl
    refl refl
nearest_narrow i (narrow.S25 (s25.Always r)) is =
    other_near _ (instr.Branch (branch.S25 (s25.Always (record { i = record { value = 0; in_range = omega arith } })))) (λ t ts are. are) refl refl refl
nearest_narrow i r is = same_near i (by.Narrow r) is tt

nearest_loop : (i : Instr) (j : T23) → by_width i ≡ by.Wide (wide.T23 j) → Nearest (by.Wide (wide.T23 j))
nearest_loop i (t23.Wls j) is =
    other_near _
    (instr.Branch (branch.T23 (t23.Wls (record { n = j.n; v = record { value = 0; in_range = omega arith }; not_sp = j.not_sp; not_pc = j.not_pc }))))
    (λ t ts are. are) refl refl refl
nearest_loop i (t23.Wlstp j) is =
    other_near _
    (instr.Branch (branch.T23 (t23.Wlstp (record {
      z = j.z;
      n = j.n;
      v = record { value = 0; in_range = omega arith };
      not_sp = j.not_sp;
      not_pc = j.not_pc;
    }))))
    (λ t ts are. are) refl refl refl
nearest_loop i (t23.End j) is =
    other_near _ (instr.Branch (branch.T23 (t23.End (record { name = j.name; v = record { value = 0; in_range = omega arith } })))) (λ t ts are. are) refl refl
    refl
nearest_loop i j is = same_near i (by.Wide (wide.T23 j)) is tt

nearest_wide : (i : Instr) (r : WideRow) → by_width i ≡ by.Wide r → Nearest (by.Wide r)
nearest_wide i (wide.T16 (t16.Conditional j)) is =
    other_near _
    (instr.Branch (branch.T16 (t16.Conditional (record {
      s = record { value = 0; in_range = omega arith };
      c = j.c;
      i6 = record { value = 0; in_range = omega arith };
      j1 = record { value = 0; in_range = omega arith };
      j2 = record { value = 0; in_range = omega arith };
      i11 = record { value = 0; in_range = omega arith };
    }))))
    (λ t ts are. are) refl refl refl
nearest_wide i (wide.T16 (t16.Always j)) is =
    other_near _
    (instr.Branch (branch.T16 (t16.Always (record {
      name = j.name;
      s = record { value = 0; in_range = omega arith };
      i10 = record { value = 0; in_range = omega arith };
      j1 = record { value = 1; in_range = omega arith };
      j2 = record { value = 1; in_range = omega arith };
      i11 = record { value = 0; in_range = omega arith };
    }))))
    (λ t ts are. are) refl refl refl
nearest_wide i (wide.T23 j) is = nearest_loop i j is
nearest_wide i r is = same_near i (by.Wide r) is tt

nearest_by : (i : Instr) (w : ByWidth) → by_width i ≡ w → Nearest w
nearest_by i (by.Narrow r) is = nearest_narrow i r is
nearest_by i (by.Wide r) is = nearest_wide i r is
nearest_by i (by.Vector v) is = same_near i (by.Vector v) is tt

nearest : (i : Instr) → Nearest (by_width i)
nearest i = nearest_by i (by_width i) refl

-- a row with the same tokens, the same label and width, as near as can be
abbrev pub IsNearOf : Instr → Tok → List Tok → Type 0
IsNearOf i t ts = (j : Instr) × (is : IsRowOf ts 0 4 j) × (label_of j is.label ≡ label_of i t) × (width_of j ≡ width_of i)

pub at_nearest : (i : Instr) (t : Tok) (ts : List Tok) → HasTokens i t ts → IsNearOf i t ts
at_nearest i t ts has =
    let n = nearest i in (
      n.near,
      record { label = t; has = record { label = has.label; tokens = n.tokens t ts has.tokens }; reaches = n.reaches },
      ap (λ (b : Bool). label_where b t) n.label,
      n.bytes,
    )
