-- What a line is read as.
use Rattle.std.proofs.Common.{◌≡◌, ℕ, ◌-◌, ◌^◌, ◌<◌, ◌≤◌, ap, arith, refl, sym, ◌∙◌, subst, Bool, true, false, cond, List, [], ◌∷◌, ◌++◌, append_assoc}
use Rattle.std.proofs.Common.{codes, decimal, drop, length, take, nat_eq, lit<, Option, Some, None, IfSome}
use Rattle.std.specs.Prelude.{if◌then◌else◌}
use Rattle.std.specs.List.{starts_with}
use Rattle.std.specs.Option.{option_map}
use Rattle.std.specs.Str.{bytes_eq}
use Rattle.std.proofs.lemmas.Bool.Decides.{Decides-eqb}
use Rattle.std.proofs.lemmas.List.{take_all}
use Rattle.std.proofs.lemmas.Slice.Eq.{bytes_eq-Decides, starts_is}
use Rattle.hm_text_base.proofs.NumberLaws.{hex8_again, hex8_found, hex8_lacks, number_again, number_found}
use Rattle.hm_text_base.proofs.SpanLaws.{BeginsWith, span_at, span_first, span_parts}
use Rattle.hm_text_base.proofs.Steps.{map_some, some_is}
use Rattle.hm_text_base.specs.Numbers.{hex8_in, number_in}
use Rattle.hm_text_base.specs.Spans.{span}
use Rattle.hm_text_base.specs.Texts.{hex8}
use Rattle.hm_debug.specs.Commands.{Fits, IsRead, command_text, range_text}
use Rattle.hm_debug.specs.declared.command.Command.{Command}
use Rattle.hm_debug.specs.declared.command.Command.TheVariants.{Goto, Step, Back, Until, Show, Memory, Listing}

-- AN ADDRESS AND HOW MANY
abbrev pub both : Option ℕ → Option ℕ → Option (ℕ × ℕ)
both (Some a) (Some n) = Some (a, n)
both (Some a) None = None
both None n = None

abbrev pub range_from : List ℕ × List ℕ → Option (ℕ × ℕ)
range_from (front, []) = None
range_from (front, b ∷ rest) = both (hex8_in front) (number_in rest)

abbrev pub range_in : List ℕ → Option (ℕ × ℕ)
range_in text = range_from (span 32 text)

range_found : (p : List ℕ × List ℕ) (x : ℕ × ℕ) → BeginsWith 32 p.1 → range_from p ≡ Some x → p.0 ++ p.1 ≡ range_text x.0 x.1
range_found (front, []) x b is = absurd cc
range_found (front, m ∷ rest) x b is = both_found (hex8_in front) (number_in rest) refl refl is
  where
    both_found : (o q : Option ℕ) → hex8_in front ≡ o → number_in rest ≡ q → both o q ≡ Some x → front ++ m ∷ rest ≡ range_text x.0 x.1
    both_found None q e f is = absurd cc
    both_found (Some a) None e f is = absurd cc
    both_found (Some a) (Some n) e f is =
        (λ i. hex8_found front a e i ++ b i ∷ (number_found rest n f).0 i) ∙ sym (append_assoc (hex8 a) (32 ∷ []) (decimal n))
        ∙ ap (λ (y : ℕ × ℕ). range_text y.0 y.1) (some_is {A = ℕ × ℕ} (a, n) x is)

pub range_reads : (text : List ℕ) (x : ℕ × ℕ) → range_in text ≡ Some x → text ≡ range_text x.0 x.1
range_reads text x is = sym (span_parts 32 text) ∙ range_found (span 32 text) x (span_first 32 text) is

pub range_again : (a n : ℕ) → a < 2 ^ 32 → n < 10 ^ 8 → range_in (range_text a n) ≡ Some (a, n)
range_again a n ha hn =
    ap range_in (append_assoc (hex8 a) (32 ∷ []) (decimal n))
    ∙ ap range_from (span_at 32 (hex8 a) (decimal n) (hex8_lacks 32 a (lit< tt)))
    ∙ (λ i. both (hex8_again a ha i) (number_again n hn i))

-- whatever is so read finds what is written
pub range_finds : (text : List ℕ) (o : Option (ℕ × ℕ)) → o ≡ range_in text → (a n : ℕ) → a < 2 ^ 32 → n < 10 ^ 8 → text ≡ range_text a n → o ≡ Some (a, n)
range_finds text o is a n ha hn e = is ∙ ap range_in e ∙ range_again a n ha hn

-- by what stands before the space, and behind it
pub range_none : (text front rest : List ℕ) → (front, rest) ≡ span 32 text → length rest ≡ 0 → None ≡ range_in text
range_none text front [] e none = ap range_from e
range_none text front (b ∷ rest) e none = absurd (omega arith)

pub range_is : (text front rest : List ℕ) → (front, rest) ≡ span 32 text → 1 ≤ length rest
    → both (hex8_in front) (number_in (take (length rest - 1) (drop 1 rest))) ≡ range_in text
range_is text front [] e some = absurd (omega arith)
range_is text front (b ∷ rest) e some = rw (take_all (length (b ∷ rest) - 1) rest (omega arith)) (ap range_from e)

-- A LINE
abbrev pub read_in : List ℕ → Option Command
read_in line =
    if bytes_eq line (codes "step") then Some Step else (
    if bytes_eq line (codes "back") then Some Back else (
    if bytes_eq line (codes "show") then Some Show else (
    if starts_with nat_eq line (codes "goto ") then option_map (λ n. Goto n) (number_in (drop 5 line)) else (
    if starts_with nat_eq line (codes "until ") then option_map (λ a. Until a) (hex8_in (drop 6 line)) else (
    if starts_with nat_eq line (codes "mem ") then option_map (λ x. Memory x.0 x.1) (range_in (drop 4 line)) else (
    if starts_with nat_eq line (codes "dis ") then option_map (λ x. Listing x.0 x.1) (range_in (drop 4 line)) else None))))))

-- what is written is read
read_again : (c : Command) → Fits c → read_in (command_text c) ≡ Some c
read_again (Goto n) fits = ap (option_map (λ k. Goto k)) (number_again n (omega (arith, fits)))
read_again Step fits = refl
read_again Back fits = refl
read_again (Until a) fits = ap (option_map (λ k. Until k)) (hex8_again a fits)
read_again Show fits = refl
read_again (Memory a n) fits =
    ap (option_map (λ x. Memory x.0 x.1)) (range_again a n (let f = fits.0 in let g = fits.1 in omega (arith, f, g)) (let g = fits.2 in omega (arith, g)))
read_again (Listing a n) fits =
    ap (option_map (λ x. Listing x.0 x.1)) (range_again a n (let f = fits.1 in omega (arith, f)) (let g = fits.3 in omega (arith, g)))

-- WHAT IS READ IS WRITTEN SO
on_test : (b : Bool) (x y : Option Command) (c : Command) (P : Type 0) → cond b x y ≡ Some c → (b ≡ true → x ≡ Some c → P) → (y ≡ Some c → P) → P
on_test true x y c P is yes_ no_ = yes_ refl is
on_test false x y c P is yes_ no_ = no_ is

word_found : (line : List ℕ) (x c : Command) → bytes_eq line (command_text x) ≡ true → Some x ≡ Some c → line ≡ command_text c
word_found line x c same is = (bytes_eq-Decides line (command_text x)).0 same ∙ ap command_text (some_is x c is)

behind_word : {A : Type 0} (line word : List ℕ) (o : Option A) (f : A → Command) (text : A → List ℕ) (c : Command) → starts_with nat_eq line word ≡ true
    → option_map f o ≡ Some c
    → ((x : A) → o ≡ Some x → drop (length word) line ≡ text x) → ((x : A) → word ++ text x ≡ command_text (f x)) → line ≡ command_text c
behind_word line word None f text c starts is reads writes = absurd cc
behind_word line word (Some x) f text c starts is reads writes =
    (starts_is Decides-eqb line word (starts_with nat_eq line word) refl).0 starts ∙ ap (λ (t : List ℕ). word ++ t) (reads x refl) ∙ writes x
    ∙ ap command_text (some_is (f x) c is)

read_so : (line : List ℕ) (c : Command) → read_in line ≡ Some c → line ≡ command_text c
read_so line c is =
    on_test _ _ _ c _ is (λ t e. word_found line Step c t e) (λ is.
    on_test _ _ _ c _ is (λ t e. word_found line Back c t e) (λ is.
    on_test _ _ _ c _ is (λ t e. word_found line Show c t e) (λ is.
    on_test _ _ _ c _ is (λ t e. behind_word line (codes "goto ") (number_in (drop 5 line)) (λ n. Goto n) decimal c t e
    (λ n found. (number_found (drop 5 line) n found).0) (λ n. refl)) (λ is.
    on_test _ _ _ c _ is (λ t e. behind_word line (codes "until ") (hex8_in (drop 6 line)) (λ a. Until a) hex8 c t e
    (λ a found. hex8_found (drop 6 line) a found) (λ a. refl)) (λ is.
    on_test _ _ _ c _ is (λ t e. behind_word {A = ℕ × ℕ} line (codes "mem ") (range_in (drop 4 line)) (λ x. Memory x.0 x.1) (λ x. range_text x.0 x.1) c t e
    (λ x found. range_reads (drop 4 line) x found) (λ x. refl)) (λ is.
    on_test _ _ _ c _ is (λ t e. behind_word {A = ℕ × ℕ} line (codes "dis ") (range_in (drop 4 line)) (λ x. Listing x.0 x.1) (λ x. range_text x.0 x.1) c t e
    (λ x found. range_reads (drop 4 line) x found) (λ x. refl)) (λ is.
    absurd cc)))))))

if_some : (o : Option Command) (P : Command → Type 0) → ((c : Command) → o ≡ Some c → P c) → IfSome o P
if_some (Some c) P h = h c refl
if_some None P h = tt

-- A LINE IS READ
pub is_read : (line : List ℕ) → IsRead line (read_in line)
is_read line = record {
  reads = if_some (read_in line) (λ c. line ≡ command_text c) (read_so line);
  finds = λ c says. ap read_in says.reads
      ∙ read_again c says.fits;
}

pub as_read : (line : List ℕ) (read result : Option Command) → IsRead line read → result ≡ read → IsRead line result
as_read line read result is same = subst (λ (o : Option Command). IsRead line o) (sym same) is

-- BEHIND A WORD
pub goto_read : (rest : List ℕ) → IsRead (codes "goto " ++ rest) (option_map (λ n. Goto n) (number_in rest))
goto_read rest = is_read (codes "goto " ++ rest)

pub until_read : (rest : List ℕ) → IsRead (codes "until " ++ rest) (option_map (λ a. Until a) (hex8_in rest))
until_read rest = is_read (codes "until " ++ rest)

-- whatever reads an address and how many serves
mapped : (line rest : List ℕ) (o : Option (ℕ × ℕ)) (f : ℕ × ℕ → Command) → ((x : ℕ × ℕ) → rest ≡ range_text x.0 x.1 → line ≡ command_text (f x))
    → IfSome o (λ x. rest ≡ range_text x.0 x.1)
    → IfSome (option_map f o) (λ c. line ≡ command_text c)
mapped line rest None f writes reads = tt
mapped line rest (Some x) f writes reads = writes x reads

pub range_read : (line rest : List ℕ) (o : Option (ℕ × ℕ)) (f : ℕ × ℕ → Command) → ((x : ℕ × ℕ) → rest ≡ range_text x.0 x.1 → line ≡ command_text (f x))
    → ((x : ℕ × ℕ) → Fits (f x) → (x.0 < 2 ^ 32) × (x.1 < 10 ^ 8)) → IsRead line (option_map f (range_in rest))
    → IfSome o (λ x. rest ≡ range_text x.0 x.1) → ((a n : ℕ) → a < 2 ^ 32 → n < 10 ^ 8 → rest ≡ range_text a n → o ≡ Some (a, n)) → IsRead line (option_map f o)
range_read line rest o f writes small is reads finds = record {
  reads = mapped line rest o f writes reads;
  finds = λ c says.
      let x = map_some f (range_in rest) c (is.finds c says) in
      let bounds = small x.0 (subst Fits (sym x.2) says.fits) in
      ap (option_map f) (finds x.0.0 x.0.1 bounds.0 bounds.1 (range_reads rest x.0 x.1)) ∙ ap (λ (d : Command). Some d) x.2;
}

pub memory_read : (rest : List ℕ) (o : Option (ℕ × ℕ)) → IfSome o (λ x. rest ≡ range_text x.0 x.1)
    → ((a n : ℕ) → a < 2 ^ 32 → n < 10 ^ 8 → rest ≡ range_text a n → o ≡ Some (a, n))
    → IsRead (codes "mem " ++ rest) (option_map (λ x. Memory x.0 x.1) o)
memory_read rest o = range_read (codes "mem " ++ rest) rest o (λ x. Memory x.0 x.1) (λ x e. ap (λ (t : List ℕ). codes "mem " ++ t) e)
    (λ x fits. (let f = fits.0 in let g = fits.1 in omega (arith, f, g), let g = fits.2 in omega (arith, g))) (is_read (codes "mem " ++ rest))

pub listing_read : (rest : List ℕ) (o : Option (ℕ × ℕ)) → IfSome o (λ x. rest ≡ range_text x.0 x.1)
    → ((a n : ℕ) → a < 2 ^ 32 → n < 10 ^ 8 → rest ≡ range_text a n → o ≡ Some (a, n))
    → IsRead (codes "dis " ++ rest) (option_map (λ x. Listing x.0 x.1) o)
listing_read rest o = range_read (codes "dis " ++ rest) rest o (λ x. Listing x.0 x.1) (λ x e. ap (λ (t : List ℕ). codes "dis " ++ t) e)
    (λ x fits. (let f = fits.1 in omega (arith, f), let g = fits.3 in omega (arith, g))) (is_read (codes "dis " ++ rest))
