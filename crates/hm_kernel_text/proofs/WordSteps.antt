-- Words one after another, as the code cuts them off.
use Rattle.std.proofs.Common.{◌≡◌, ℕ, ◌<◌, ◌-◌, List, [], ◌∷◌, length, take, drop, refl, ap, ◌∙◌, sym, arith}
use Rattle.std.proofs.lemmas.List.{take_rest}
use Rattle.hm_text_base.specs.Spans.{span}
use Rattle.hm_text_base.proofs.SpanLaws.{parts_from, split_span}
use Rattle.hm_kernel_text.specs.Words.{words_of, words_behind}

parts_behind : (rest : List ℕ) → parts_from 32 rest ≡ words_behind rest
parts_behind [] = refl
parts_behind (b ∷ rest) = refl

pub words_cut : (text : List ℕ) → words_of text ≡ (span 32 text).0 ∷ words_behind (span 32 text).1
words_cut text = split_span 32 text ∙ ap (λ (ws : List (List ℕ)). (span 32 text).0 ∷ ws) (parts_behind (span 32 text).1)

pub first_cut : (text word rest : List ℕ) → (word, rest) ≡ span 32 text → words_of text ≡ word ∷ words_behind rest
first_cut text word rest e = words_cut text ∙ ap (λ (s : List ℕ × List ℕ). s.0 ∷ words_behind s.1) (sym e)

behind_first : (text word rest : List ℕ) → 0 < length text → (word, rest) ≡ span 32 (drop 1 text) → words_behind text ≡ word ∷ words_behind rest
behind_first [] word rest some e = absurd (omega arith)
behind_first (b ∷ text) word rest some e = first_cut text word rest e

pub next_cut : (text word rest : List ℕ) → 0 < length text → (word, rest) ≡ span 32 (take (length text - 1) (drop 1 text))
    → words_behind text ≡ word ∷ words_behind rest
next_cut text word rest some e = behind_first text word rest some (e ∙ ap (λ (s : List ℕ). span 32 s) (take_rest text 1))
