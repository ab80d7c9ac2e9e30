-- Each vector row has a text of the form, with no lane.
use Rattle.std.proofs.Common.{◌≡◌, ℕ, ◌<◌, Bool, true, false, List, [], get_or, Option, Some, None, refl, subst, inl, inr, arith}
use Rattle.std.specs.Prelude.{not, ◌&&◌}
use Rattle.std.proofs.lemmas.Bool.{and_parts, not-true}
use Rattle.hm_isa.specs.declared.Vector.{Vector}
use Rattle.hm_isa.specs.declared.Vector.TheVariants as vector
use Rattle.hm_isa.specs.Words.{imm8}
use Rattle.hm_isa.specs.declared.vectors.V12.TheVariants as v12
use Rattle.hm_tokens.specs.Tokens.{Tok}
use Rattle.hm_textv_rows.specs.Rows.{HasTokens, constant_forms, other_tokens, tokens_of}
use Rattle.hm_text_tables.proofs.Formed.{Formed, is_formed}
use Rattle.hm_text_tables.proofs.Lines.{has_lane}

abbrev is_fine : List Tok → Bool
is_fine ts = is_formed ts && not (has_lane ts)

pub record Fine (ts : List Tok) : Type 0 where
  pub is : is_fine ts ≡ true

constant_fine : (cm op d x : ℕ) → cm < 15 → Fine (get_or (constant_forms op d x) cm [])
constant_fine cm op d x lt = grind arith

fine_vector : (v : Vector) → Fine (tokens_of v)
fine_vector (vector.V15 i) = constant_fine i.cm.value i.op.value i.d.value (imm8 i.i.value i.i3.value i.i4.value) i.cm.in_range
fine_vector (vector.V12 (v12.Full i)) = record { is = refl }
fine_vector v = grind arith

pub formed_vector : (v : Vector) → Formed (tokens_of v)
formed_vector v = record { is = (and_parts (is_formed (tokens_of v)) (not (has_lane (tokens_of v))) (fine_vector v).is).0 }

-- the other texts
abbrev none_or_no_lane : Option (List Tok) → Bool
none_or_no_lane (Some ts) = not (has_lane ts)
none_or_no_lane None = true

other_lane : (v : Vector) → none_or_no_lane (other_tokens v) ≡ true
other_lane v = grind arith

pub no_lane : (v : Vector) (ts : List Tok) → HasTokens v ts → has_lane ts ≡ false
no_lane v ts (inl is) =
    subst (λ (x : List Tok). has_lane x ≡ false) is
    (not-true (has_lane (tokens_of v)) (and_parts (is_formed (tokens_of v)) (not (has_lane (tokens_of v))) (fine_vector v).is).1)
no_lane v ts (inr is) = not-true (has_lane ts) (subst (λ (x : Option (List Tok)). none_or_no_lane x ≡ true) is (other_lane v))
