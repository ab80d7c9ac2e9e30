-- Room for what is still to be printed.
use Rattle.std.proofs.Common.{◌≡◌, ℕ, ◌+◌, ◌<◌, ◌≤◌, Bool, List, ◌++◌, length, map, drop, get_or, ap, sym, ◌∙◌, arith}
use Rattle.std.proofs.lemmas.List.{drop_more, length-append}
use Rattle.hm_tokens.specs.declared.text.Part.{Part}
use Rattle.hm_tokens.specs.Lines.{gap, is_word, spelled_behind}
use Rattle.hm_tokens.specs.Texts.{part_token}
use Rattle.hm_tokens.specs.Tokens.{spell}

both_left : (out whole : List ℕ) (b : Bool) (parts : List Part) (i : ℕ) (d : Part) → i < length parts
    → out ++ spelled_behind b (map part_token (drop i parts)) ≡ whole → length whole ≤ 96
    → length out + (length (gap b (part_token (get_or parts i d))) + length (spell (part_token (get_or parts i d)))) ≤ 96
both_left out whole b parts i d lt e le =
    let t = part_token (get_or parts i d) in
    let rest = spelled_behind (is_word t) (map part_token (drop (i + 1) parts)) in
    let is : out ++ (gap b t ++ (spell t ++ rest)) ≡ whole =
    ap (λ (ps : List Part). out ++ spelled_behind b (map part_token ps)) (sym (drop_more parts i d lt)) ∙ e in
    omega (arith, ap length is, length-append out (gap b t ++ (spell t ++ rest)), length-append (gap b t) (spell t ++ rest), length-append (spell t) rest)

pub gap_left : (out whole : List ℕ) (b : Bool) (parts : List Part) (i : ℕ) (d : Part) → i < length parts
    → out ++ spelled_behind b (map part_token (drop i parts)) ≡ whole → length whole ≤ 96
    → length out + length (gap b (part_token (get_or parts i d))) ≤ 96
gap_left out whole b parts i d lt e le = let both = both_left out whole b parts i d lt e le in omega (arith, both)

pub room_left : (out now whole : List ℕ) (b : Bool) (parts : List Part) (i : ℕ) (d : Part) → now ≡ out ++ gap b (part_token (get_or parts i d))
    → i < length parts
    → out ++ spelled_behind b (map part_token (drop i parts)) ≡ whole → length whole ≤ 96 → length now + length (spell (part_token (get_or parts i d))) ≤ 96
room_left out now whole b parts i d is lt e le =
    let both = both_left out whole b parts i d lt e le in
    omega (arith, both, ap length is, length-append out (gap b (part_token (get_or parts i d))))
