-- Where a space stands before an address.
use Rattle.std.proofs.Common.{◌≡◌, ℕ, ◌+◌, ◌<◌, List, [], ◌∷◌, ◌++◌, length, map, refl, sym, append_assoc, arith}
use Rattle.std.proofs.lemmas.List.{length-append}
use Rattle.hm_tokens.specs.declared.text.Part.{Part}
use Rattle.hm_tokens.specs.Lines.{address, printed, printed_at}
use Rattle.hm_tokens.specs.Texts.{part_token}
use Rattle.hm_tokens.specs.Tokens.{Tok, spell}

pub alone_at : (t : Tok) (items : List Part) (a : ℕ) → length items ≡ 0
    → printed_at (t ∷ map part_token items) a ≡ (printed (t ∷ map part_token items) ++ 32 ∷ []) ++ address a
alone_at t [] a e = sym (append_assoc (spell t) (32 ∷ []) (address a))
alone_at t (x ∷ items) a e = absurd (omega (arith, e))

pub many_at : (t : Tok) (items : List Part) (a : ℕ) → 0 < length items
    → printed_at (t ∷ map part_token items) a ≡ printed (t ∷ map part_token items) ++ address a
many_at t [] a lt = absurd (omega (arith, lt))
many_at t (x ∷ items) a lt = refl

-- and the room for it
pub alone_room : (t : Tok) (items : List Part) (a : ℕ) → length items ≡ 0
    → length (printed_at (t ∷ map part_token items) a) ≡ length (printed (t ∷ map part_token items)) + 11
alone_room t [] a e = omega (arith, length-append (spell t) (32 ∷ address a))
alone_room t (x ∷ items) a e = absurd (omega (arith, e))

pub many_room : (t : Tok) (items : List Part) (a : ℕ) → 0 < length items
    → length (printed_at (t ∷ map part_token items) a) ≡ length (printed (t ∷ map part_token items)) + 10
many_room t [] a lt = absurd (omega (arith, lt))
many_room t (x ∷ items) a lt = omega (arith, length-append (printed (t ∷ map part_token (x ∷ items))) (address a))
