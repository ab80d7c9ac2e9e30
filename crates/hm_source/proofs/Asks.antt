-- Directives, by their names.
use Rattle.std.proofs.Common.{◌≡◌, ◌<◌, ◌^◌, ℕ, false, List, [], ◌∷◌, length, refl, sym, subst, ◌∙◌, arith}
use Rattle.std.specs.Prelude.{codes, bytes_eq}
use Rattle.std.proofs.lemmas.Bool.{false≢true}
use Rattle.std.proofs.lemmas.Slice.Eq.{bytes_eq-Decides}
use Rattle.hm_tokens.specs.Lines.{AreTokensOf}
use Rattle.hm_tokens.specs.Tokens.{Tok, word, number}
use Rattle.hm_source.specs.declared.directives.Multiple.{Multiple}
use Rattle.hm_source.specs.declared.values.DatumSize.{DatumSize}
use Rattle.hm_source.specs.declared.values.DatumSize.TheVariants.{Byte, Half, Word}
use Rattle.hm_source.specs.declared.values.Values.{Values}
use Rattle.hm_source.specs.Directives.{Datum, Directed, org, align, space, values, asked_tokens, IsDirective, IsInRange, list_name, list_tokens, multiple_of}
use Rattle.hm_line.specs.Fronts.{AreFront}
use Rattle.hm_source.specs.Shown.{AreListed, ShowsValues}
use Rattle.hm_text_tables.proofs.Decided.{word_is}
use Rattle.hm_source.proofs.Fronts.{front_and_rest, front_one}

-- a directive's name, and what stands behind it
abbrev pub name_asked : Directed → List ℕ
name_asked (org a) = codes ".org"
name_asked (align n) = codes ".align"
name_asked (space n) = codes ".space"
name_asked (values s d ds) = list_name s

abbrev pub tokens_behind : Directed → List Tok
tokens_behind (org a) = number a ∷ []
tokens_behind (align n) = number n ∷ []
tokens_behind (space n) = number n ∷ []
tokens_behind (values s d ds) = list_tokens d ds

pub in_parts : (asked : Directed) → asked_tokens asked ≡ word (name_asked asked) ∷ tokens_behind asked
in_parts asked = grind arith

-- a text of this name, with what stands behind it
pub record Behind (name behind : List ℕ) (asked : Directed) : Type 0 where
  pub name_is : name ≡ name_asked asked
  pub tokens : AreTokensOf behind (tokens_behind asked)
  pub range : IsInRange asked

pub behind_name : (text name behind : List ℕ) (asked : Directed) → AreFront text (word name ∷ []) behind → IsDirective text asked → Behind name behind asked
behind_name text name behind asked f d =
    let all = subst (λ (ts : List Tok). AreTokensOf text ts) (in_parts asked) d.0 in
    let same = front_one text (word (name_asked asked)) (word name) all.0 behind all.1 f in
    record {
      name_is = sym (word_is (name_asked asked) name same.0);
      tokens = subst (λ (x : List ℕ). AreTokensOf x (tokens_behind asked)) same.1 all.2;
      range = d.1;
    }

pub with_name : (text name behind : List ℕ) (asked : Directed) → AreFront text (word name ∷ []) behind → name ≡ name_asked asked
    → AreTokensOf behind (tokens_behind asked) → IsInRange asked → IsDirective text asked
with_name text name behind asked f e t r =
    let front = subst (λ (x : List ℕ). AreFront text (word x ∷ []) behind) e f in (
      subst (λ (ts : List Tok). AreTokensOf text ts) (sym (in_parts asked))
          (front_and_rest text behind (word (name_asked asked) ∷ []) (tokens_behind asked) front t),
      r,
    )

-- ---- names differ

differ : (a b : List ℕ) → bytes_eq a b ≡ false → a ≡ b → ⊥
differ a b f e = false≢true (sym f ∙ (bytes_eq-Decides a b).1 e)

pub one_size : (s t : DatumSize) → list_name s ≡ list_name t → s ≡ t
one_size Byte Byte e = refl
one_size Byte Half e = absurd (differ (codes ".byte") (codes ".half") refl e)
one_size Byte Word e = absurd (differ (codes ".byte") (codes ".word") refl e)
one_size Half Byte e = absurd (differ (codes ".half") (codes ".byte") refl e)
one_size Half Half e = refl
one_size Half Word e = absurd (differ (codes ".half") (codes ".word") refl e)
one_size Word Byte e = absurd (differ (codes ".word") (codes ".byte") refl e)
one_size Word Half e = absurd (differ (codes ".word") (codes ".half") refl e)
one_size Word Word e = refl

pub no_list : (s : DatumSize) → (list_name s ≡ codes ".org" → ⊥) × (list_name s ≡ codes ".align" → ⊥) × (list_name s ≡ codes ".space" → ⊥)
no_list Byte = (differ (codes ".byte") (codes ".org") refl, differ (codes ".byte") (codes ".align") refl, differ (codes ".byte") (codes ".space") refl)
no_list Half = (differ (codes ".half") (codes ".org") refl, differ (codes ".half") (codes ".align") refl, differ (codes ".half") (codes ".space") refl)
no_list Word = (differ (codes ".word") (codes ".org") refl, differ (codes ".word") (codes ".align") refl, differ (codes ".word") (codes ".space") refl)

pub is_org : (asked : Directed) → name_asked asked ≡ codes ".org" → (a : ℕ) × (asked ≡ org a)
is_org (org a) e = (a, refl)
is_org (align n) e = absurd (differ (codes ".align") (codes ".org") refl e)
is_org (space n) e = absurd (differ (codes ".space") (codes ".org") refl e)
is_org (values s d ds) e = absurd ((no_list s).0 e)

pub is_align : (asked : Directed) → name_asked asked ≡ codes ".align" → (n : ℕ) × (asked ≡ align n)
is_align (org a) e = absurd (differ (codes ".org") (codes ".align") refl e)
is_align (align n) e = (n, refl)
is_align (space n) e = absurd (differ (codes ".space") (codes ".align") refl e)
is_align (values s d ds) e = absurd ((no_list s).1 e)

pub is_space : (asked : Directed) → name_asked asked ≡ codes ".space" → (n : ℕ) × (asked ≡ space n)
is_space (org a) e = absurd (differ (codes ".org") (codes ".space") refl e)
is_space (align n) e = absurd (differ (codes ".align") (codes ".space") refl e)
is_space (space n) e = (n, refl)
is_space (values s d ds) e = absurd ((no_list s).2 e)

-- ---- what a text asks for, by its name

pub first_word : (text : List ℕ) (asked : Directed) → IsDirective text asked → (rest : List ℕ) × AreFront text (word (name_asked asked) ∷ []) rest
first_word text asked d =
    let all = subst (λ (ts : List Tok). AreTokensOf text ts) (in_parts asked) d.0 in
    (all.0, (all.0, all.1, refl))

pub asks_org : (text name behind : List ℕ) (asked : Directed) → AreFront text (word name ∷ []) behind → IsDirective text asked → name ≡ codes ".org"
    → (a : ℕ) × AreTokensOf behind (number a ∷ []) × (a < 2 ^ 32)
asks_org text name behind asked f d e =
    let b = behind_name text name behind asked f d in
    let o = is_org asked (sym b.name_is ∙ e) in
    (o.0, subst (λ (x : Directed). AreTokensOf behind (tokens_behind x)) o.1 b.tokens, subst (λ (x : Directed). IsInRange x) o.1 b.range)

pub asks_space : (text name behind : List ℕ) (asked : Directed) → AreFront text (word name ∷ []) behind → IsDirective text asked → name ≡ codes ".space"
    → (n : ℕ) × AreTokensOf behind (number n ∷ []) × (n < 2 ^ 32)
asks_space text name behind asked f d e =
    let b = behind_name text name behind asked f d in
    let o = is_space asked (sym b.name_is ∙ e) in
    (o.0, subst (λ (x : Directed). AreTokensOf behind (tokens_behind x)) o.1 b.tokens, subst (λ (x : Directed). IsInRange x) o.1 b.range)

pub asks_align : (text name behind : List ℕ) (asked : Directed) → AreFront text (word name ∷ []) behind → IsDirective text asked → name ≡ codes ".align"
    → (m : Multiple) × AreTokensOf behind (number (multiple_of m) ∷ [])
asks_align text name behind asked f d e =
    let b = behind_name text name behind asked f d in
    let o = is_align asked (sym b.name_is ∙ e) in
    let r = subst (λ (x : Directed). IsInRange x) o.1 b.range in
    let t = subst (λ (x : Directed). AreTokensOf behind (tokens_behind x)) o.1 b.tokens in
    (r.0, subst (λ (n : ℕ). AreTokensOf behind (number n ∷ [])) r.1 t)

-- values that were read of what stands behind the name
abbrev pub IsRead : DatumSize → List ℕ → Values → Type 0
IsRead s behind v = (v.size ≡ s) × (v.list.now ≡ behind)

pub values_found : (text name behind : List ℕ) (s : DatumSize) (v : Values) (d : Datum) (ds : List Datum) → AreFront text (word name ∷ []) behind
    → name ≡ list_name s → IsRead s behind v → AreListed s behind d ds → v.count ≡ length (d ∷ ds)
    → IsDirective text (values s d ds) × ShowsValues text v (values s d ds)
values_found text name behind s v d ds f e r l n =
    let front : AreFront text (word (list_name s) ∷ []) v.list.now =
    subst (λ (x : List ℕ). AreFront text (word (list_name s) ∷ []) x) (sym r.1) (subst (λ (x : List ℕ). AreFront text (word x ∷ []) behind) e f) in
    (with_name text name behind (values s d ds) f e l.0 l.1, (r.0, n, front, subst (λ (x : List ℕ). AreListed s x d ds) (sym r.1) l))

pub values_only : (text name behind : List ℕ) (s : DatumSize) (v : Values) (asked : Directed) → AreFront text (word name ∷ []) behind → name ≡ list_name s
    → IsRead s behind v → IsDirective text asked
    → ((d : Datum) (ds : List Datum) → AreListed s behind d ds → v.count ≡ length (d ∷ ds)) → ShowsValues text v asked
values_only text name behind s v (org a) f e r d n = absurd ((no_list s).0 (sym e ∙ (behind_name text name behind (org a) f d).name_is))
values_only text name behind s v (align a) f e r d n = absurd ((no_list s).1 (sym e ∙ (behind_name text name behind (align a) f d).name_is))
values_only text name behind s v (space a) f e r d n = absurd ((no_list s).2 (sym e ∙ (behind_name text name behind (space a) f d).name_is))
values_only text name behind s v (values t x xs) f e r d n =
    let b = behind_name text name behind (values t x xs) f d in
    let same : t ≡ s = one_size t s (sym b.name_is ∙ e) in
    let listed : AreListed s behind x xs = subst (λ (z : DatumSize). AreListed z behind x xs) same (b.tokens, b.range) in
    subst (λ (z : DatumSize). ShowsValues text v (values z x xs)) (sym same) (values_found text name behind s v x xs f e r listed (n x xs listed)).1
