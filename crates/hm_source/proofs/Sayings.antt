-- What a text says, by its first byte.
use Rattle.std.proofs.Common.{◌≡◌, ◌<◌, ℕ, List, [], ◌∷◌, length, get_or, Option, Some, None, refl, sym, subst, arith}
use Rattle.std.specs.Prelude.{IfNone, IfSome, IsSomeAnd}
use Rattle.hm_text_tables.specs.Texts.{HasWidth}
use Rattle.hm_source.specs.declared.statements.Statement.{Statement}
use Rattle.hm_source.specs.declared.statements.Statement.TheVariants as statements
use Rattle.hm_source.specs.Shown.{ShowsSaid}
use Rattle.hm_source.specs.Directives.{Directed, IsDirective}
use Rattle.hm_source.specs.Statements.{Said, nothing, instruction, directive, Says}

pub with_dot : (text : List ℕ) (asked : Directed) → 0 < length text → get_or text 0 0 ≡ 46 → IsDirective text asked → Says text (directive asked)
with_dot [] asked some e d = absurd (omega arith)
with_dot (b ∷ bs) asked some e d = (e, d)

pub without_dot : (text : List ℕ) (n : ℕ) → 0 < length text → (get_or text 0 0 ≡ 46 → ⊥) → HasWidth text n → Says text (instruction n)
without_dot [] n some e w = absurd (omega arith)
without_dot (b ∷ bs) n some e w = (e, w)

-- ---- and back

pub is_instruction : (text : List ℕ) (said : Said) → 0 < length text → (get_or text 0 0 ≡ 46 → ⊥) → Says text said
    → (n : ℕ) × (said ≡ instruction n) × HasWidth text n
is_instruction [] said some e s = absurd (omega arith)
is_instruction (b ∷ bs) nothing some e s = absurd s
is_instruction (b ∷ bs) (instruction n) some e s = (n, refl, s.1)
is_instruction (b ∷ bs) (directive asked) some e s = absurd (e s.0)

-- ---- as the code reads

pub said_of : (text : List ℕ) (o : Option Statement) → 0 < length text → (get_or text 0 0 ≡ 46 → ⊥)
    → IfSome o (λ s. (n : ℕ) × HasWidth text n × (s ≡ statements.Instruction n)) → IfSome o (λ s. (said : Said) × Says text said × ShowsSaid text s said)
said_of text None some e h = tt
said_of text (Some s) some e h =
    (instruction h.0, without_dot text h.0 some e h.1, subst (λ (x : Statement). ShowsSaid text x (instruction h.0)) (sym h.2) refl)

pub only_said : (text : List ℕ) (o : Option Statement) (said : Said) → 0 < length text → (get_or text 0 0 ≡ 46 → ⊥)
    → ((n : ℕ) → HasWidth text n → IsSomeAnd o (λ s. s ≡ statements.Instruction n)) → Says text said → IsSomeAnd o (λ s. ShowsSaid text s said)
only_said text None said some e h s = let x = is_instruction text said some e s in h x.0 x.2
only_said text (Some t) said some e h s =
    let x = is_instruction text said some e s in
    subst (λ (y : Statement). ShowsSaid text y said) (sym (h x.0 x.2)) x.1

pub none_said : (text : List ℕ) (o : Option Statement) → 0 < length text → (get_or text 0 0 ≡ 46 → ⊥) → IfNone o ((n : ℕ) → HasWidth text n → ⊥)
    → IfNone o ((said : Said) → Says text said → ⊥)
none_said text (Some t) some e h = tt
none_said text None some e h = λ said s. let x = is_instruction text said some e s in h x.0 x.2
