use Rattle.std.proofs.Common.{◌≡◌, ◌++◌, ◌∷◌, [], ℕ, List, ap, ◌∙◌, append_assoc}
use Rattle.std.specs.Prelude.{codes}
use Rattle.hm_text_rows.specs.Shapes.{and_any_shift, r}
use Rattle.hm_tokens.specs.Texts.{text_tokens}
use Rattle.hm_tokens.specs.Tokens.{Tok, word, number, close_bracket, comma, hash_mark, open_bracket}
use Rattle.hm_text_rows.proofs.addresses.scaled.Goals as goal

-- four pieces, put behind a front one after another
joined : (t a b c d : List Tok) → (((t ++ a) ++ b) ++ c) ++ d ≡ t ++ (a ++ (b ++ (c ++ d)))
joined t a b c d = append_assoc ((t ++ a) ++ b) c d ∙ append_assoc (t ++ a) b (c ++ d) ∙ append_assoc t a (b ++ (c ++ d))

-- each text is the one before it and a piece
pieces : (t o a s w : List Tok) (x y : Tok) (k : ℕ) → o ≡ t ++ comma ∷ open_bracket ∷ x ∷ [] → a ≡ o ++ comma ∷ y ∷ [] → s ≡ and_any_shift a (codes "lsl") k
    → w ≡ s ++ close_bracket ∷ []
    → w ≡ t ++ comma ∷ open_bracket ∷ x ∷ comma ∷ y ∷ comma ∷ word (codes "lsl") ∷ hash_mark ∷ number k ∷ close_bracket ∷ []
pieces t o a s w x y k opened and_index and_kind closed =
    let index = and_index ∙ ap (λ (ts : List Tok). ts ++ comma ∷ y ∷ []) opened in
    let shift = and_kind ∙ ap (λ (ts : List Tok). and_any_shift ts (codes "lsl") k) index in
    closed ∙ ap (λ (ts : List Tok). ts ++ close_bracket ∷ []) shift
    ∙ joined t (comma ∷ open_bracket ∷ x ∷ []) (comma ∷ y ∷ []) (comma ∷ word (codes "lsl") ∷ hash_mark ∷ number k ∷ []) (close_bracket ∷ [])

pub returns : goal.returns
returns c =
    pieces (text_tokens c.args.text) (text_tokens c.open.result) (text_tokens c.and.result) (text_tokens c.and_any_shift-given.result)
    (text_tokens c.marked.result) (r c.args.n) (r c.args.m) c.args.k
    (c.open.ensures.tokens ∙ ap (λ (x : Tok). text_tokens c.args.text ++ comma ∷ open_bracket ∷ x ∷ []) c.r.ensures)
    (c.and.ensures.tokens ∙ ap (λ (x : Tok). text_tokens c.open.result ++ comma ∷ x ∷ []) c.r-2.ensures)
    c.and_any_shift-given.ensures.tokens c.marked.ensures.tokens
