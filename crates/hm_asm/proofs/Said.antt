-- A text says one thing.
use Rattle.std.proofs.Common.{◌≡◌, ℕ, true, ltb, List, [], ◌∷◌, get_or, codes, refl, sym, ap, ◌∙◌, arith}
use Rattle.std.specs.Prelude.{◌||◌}
use Rattle.std.proofs.lemmas.Bool.Decides.{nat_tests}
use Rattle.hm_tokens.specs.Tokens.{Tok, word, number}
use Rattle.hm_source.specs.Directives.{Directed, org, align, space, values, asked_tokens, list_name, list_tokens}
use Rattle.hm_source.specs.Statements.{Said, nothing, instruction, directive, Says}
use Rattle.hm_source.proofs.Asks.{no_list, one_size}
use Rattle.hm_source.proofs.Fronts.{one_tokens}
use Rattle.hm_source.proofs.One.{one_list, tail_is}
use Rattle.hm_text_tables.specs.Texts.{HasWidth}
use Rattle.hm_text_tables.proofs.Once.{one_width}

-- DIRECTIVES
name_same : (v w : List ℕ) (ts us : List Tok) → word v ∷ ts ≡ word w ∷ us → v ≡ w
name_same v w ts us e = cc

-- the second letter of a name tells these apart
differ : (v w : List ℕ) (ts us : List Tok) (a b : ℕ) → get_or v 1 0 ≡ a → get_or w 1 0 ≡ b → ltb a b || ltb b a ≡ true → word v ∷ ts ≡ word w ∷ us → ⊥
differ v w ts us a b p q apart e = let same : a ≡ b = sym p ∙ ap (λ (x : List ℕ). get_or x 1 0) (name_same v w ts us e) ∙ q in grind (arith, nat_tests)

one_asked : (x y : Directed) → asked_tokens x ≡ asked_tokens y → x ≡ y
one_asked (org a) (org b) t = cc
one_asked (org a) (align m) t = absurd (differ (codes ".org") (codes ".align") (number a ∷ []) (number m ∷ []) 111 97 refl refl refl t)
one_asked (org a) (space m) t = absurd (differ (codes ".org") (codes ".space") (number a ∷ []) (number m ∷ []) 111 115 refl refl refl t)
one_asked (org a) (values r e es) t = absurd ((no_list r).0 (sym (name_same (codes ".org") (list_name r) (number a ∷ []) (list_tokens e es) t)))
one_asked (align n) (org b) t = absurd (differ (codes ".align") (codes ".org") (number n ∷ []) (number b ∷ []) 97 111 refl refl refl t)
one_asked (align n) (align m) t = cc
one_asked (align n) (space m) t = absurd (differ (codes ".align") (codes ".space") (number n ∷ []) (number m ∷ []) 97 115 refl refl refl t)
one_asked (align n) (values r e es) t = absurd ((no_list r).1 (sym (name_same (codes ".align") (list_name r) (number n ∷ []) (list_tokens e es) t)))
one_asked (space n) (org b) t = absurd (differ (codes ".space") (codes ".org") (number n ∷ []) (number b ∷ []) 115 111 refl refl refl t)
one_asked (space n) (align m) t = absurd (differ (codes ".space") (codes ".align") (number n ∷ []) (number m ∷ []) 115 97 refl refl refl t)
one_asked (space n) (space m) t = cc
one_asked (space n) (values r e es) t = absurd ((no_list r).2 (sym (name_same (codes ".space") (list_name r) (number n ∷ []) (list_tokens e es) t)))
one_asked (values s d ds) (org b) t = absurd ((no_list s).0 (name_same (list_name s) (codes ".org") (list_tokens d ds) (number b ∷ []) t))
one_asked (values s d ds) (align m) t = absurd ((no_list s).1 (name_same (list_name s) (codes ".align") (list_tokens d ds) (number m ∷ []) t))
one_asked (values s d ds) (space m) t = absurd ((no_list s).2 (name_same (list_name s) (codes ".space") (list_tokens d ds) (number m ∷ []) t))
one_asked (values s d ds) (values r e es) t =
    let list = one_list d e ds es (tail_is (word (list_name s)) (word (list_name r)) (list_tokens d ds) (list_tokens e es) t) in
    same (one_size s r (name_same (list_name s) (list_name r) (list_tokens d ds) (list_tokens e es) t)) list.0 list.1
  where
    same : s ≡ r → d ≡ e → ds ≡ es → values s d ds ≡ values r e es
    same p q o = cc

-- TEXTS
pub one_said : (text : List ℕ) (s r : Said) → Says text s → Says text r → s ≡ r
one_said [] nothing nothing a b = refl
one_said [] nothing (instruction m) a b = absurd b
one_said [] nothing (directive y) a b = absurd b
one_said [] (instruction n) r a b = absurd a
one_said [] (directive x) r a b = absurd a
one_said (c ∷ cs) nothing r a b = absurd a
one_said (c ∷ cs) (instruction n) nothing a b = absurd b
one_said (c ∷ cs) (instruction n) (instruction m) a b = ap instruction (one_width (c ∷ cs) n m a.1 b.1)
one_said (c ∷ cs) (instruction n) (directive y) a b = absurd (a.0 b.0)
one_said (c ∷ cs) (directive x) nothing a b = absurd b
one_said (c ∷ cs) (directive x) (instruction m) a b = absurd (b.0 a.0)
one_said (c ∷ cs) (directive x) (directive y) a b = ap directive (one_asked x y (one_tokens (c ∷ cs) (asked_tokens x) (asked_tokens y) a.1.0 b.1.0))

pub says_width : (text : List ℕ) (n : ℕ) → Says text (instruction n) → HasWidth text n
says_width [] n a = absurd a
says_width (c ∷ cs) n a = a.1
