-- The words of commands.
use Rattle.std.proofs.Common.{◌≡◌, ◌≢◌, ℕ, List, [], ◌∷◌, length, map, Option, Some, None, option_map, refl, sym, ap, subst, ◌∙◌, inl, inr, arith}
use Rattle.std.specs.Prelude.{codes, bytes_eq, option_and_then}
use Rattle.std.specs.Fmt.{decimal}
use Rattle.std.proofs.lemmas.Bool.{cases_Bool}
use Rattle.std.proofs.lemmas.Slice.Eq.{bytes_eq-Decides}
use Rattle.hm_text_base.specs.Numbers.{word_in}
use Rattle.hm_text_base.specs.Texts.{hex8}
use Rattle.hm_text_base.proofs.NumberLaws.{word_found, word_again}
use Rattle.hm_text_base.proofs.Steps.{and_then_some, map_some, some_is}
use Rattle.hm_words.specs.Words.{most, most_planned, number_of, every_of, range_in, Source, source_of, Form, run, seq, dis, asm, soak, debug, journal, replay}
use Rattle.hm_words.specs.Words.{migrate, plan, hex, kernel, two_names, run_form, seq_form, dis_form, asm_form, soak_form, debug_form, journal_form}
use Rattle.hm_words.specs.Words.{replay_form, migrate_form, plan_form, hex_form, kernel_form, commands, form_in, form_of, IsRange, IsRun, IsSeq, IsDis, IsAsm}
use Rattle.hm_words.specs.Words.{IsSoak, IsDebug, IsJournal, IsReplay, IsMigrate, IsPlan, IsHex, IsKernel}
use Rattle.hm_words.proofs.Decimals.{number_of-is, number_of-decimal, every_of-is, every_of-decimal, source_of-word, source_of-is, range_in-is}
use Rattle.hm_words.proofs.Decimals.{range_in-again}

-- ---- the command of a name

-- the name of a form's command
abbrev name_of : Form → List ℕ
name_of (run image schedule memory) = codes "run"
name_of (seq image n) = codes "seq"
name_of (dis image lo hi) = codes "dis"
name_of (asm source out) = codes "asm"
name_of (soak number) = codes "soak"
name_of (debug image schedule script) = codes "debug"
name_of (journal image schedule every out) = codes "journal"
name_of (replay image schedule text tick) = codes "replay"
name_of (migrate image schedule text out) = codes "migrate"
name_of (plan image n out) = codes "plan"
name_of (hex image out) = codes "hex"
name_of (kernel source out) = codes "kernel"

-- all that the words behind a name ask for has that name
abbrev Asks : List ℕ → (List (List ℕ) → Option Form) → Type 0
Asks name asked = (words : List (List ℕ)) (form : Form) → asked words ≡ Some form → name_of form ≡ name

abbrev AllAsk : List (List ℕ × (List (List ℕ) → Option Form)) → Type 0
AllAsk [] = Unit {0}
AllAsk (command ∷ others) = Asks command.0 command.1 × AllAsk others

-- a form is asked for by its own name
name_is : (table : List (List ℕ × (List (List ℕ) → Option Form))) (name : List ℕ) (words : List (List ℕ)) (form : Form) → AllAsk table
    → form_in table name words ≡ Some form → name ≡ name_of form
name_is [] name words form each h = absurd cc
name_is (command ∷ others) name words form each h = elim (cases_Bool (bytes_eq name command.0)) [
  | inl same ↦ (let here : command.1 words ≡ Some form = rw same at h in (bytes_eq-Decides name command.0).0 same ∙ sym (each.0 words form here))
  | inr no_same ↦ (let later : form_in others name words ≡ Some form = rw no_same at h in name_is others name words form each.1 later)
]

mapped : {A : Type 0} (f : A → Form) (o : Option A) (name : List ℕ) (form : Form) → ((x : A) → name_of (f x) ≡ name) → option_map f o ≡ Some form
    → name_of form ≡ name
mapped f o name form each h = let x = map_some f o form h in ap name_of (sym x.2) ∙ each x.0

asks_run : Asks (codes "run") run_form
asks_run [] form h = absurd cc
asks_run (x ∷ []) form h = absurd cc
asks_run (x ∷ y ∷ []) form h = absurd cc
asks_run (x ∷ y ∷ z ∷ []) form h = mapped (λ s. run x s z) (source_of y) (codes "run") form (λ s. refl) h
asks_run (x ∷ y ∷ z ∷ v ∷ words) form h = absurd cc

asks_seq : Asks (codes "seq") seq_form
asks_seq [] form h = absurd cc
asks_seq (x ∷ []) form h = absurd cc
asks_seq (x ∷ y ∷ []) form h = mapped (seq x) (number_of most y) (codes "seq") form (λ n. refl) h
asks_seq (x ∷ y ∷ v ∷ words) form h = absurd cc

asks_dis : Asks (codes "dis") dis_form
asks_dis [] form h = absurd cc
asks_dis (x ∷ []) form h = absurd cc
asks_dis (x ∷ y ∷ []) form h = absurd cc
asks_dis (x ∷ y ∷ z ∷ []) form h = mapped (λ r. dis x r.0 r.1) (range_in y z) (codes "dis") form (λ r. refl) h
asks_dis (x ∷ y ∷ z ∷ v ∷ words) form h = absurd cc

asks_two : (name : List ℕ) (of : List ℕ → List ℕ → Form) → ((x y : List ℕ) → name_of (of x y) ≡ name) → Asks name (two_names of)
asks_two name of named [] form h = absurd cc
asks_two name of named (x ∷ []) form h = absurd cc
asks_two name of named (x ∷ y ∷ []) form h = ap name_of (sym (some_is (of x y) form h)) ∙ named x y
asks_two name of named (x ∷ y ∷ v ∷ words) form h = absurd cc

asks_asm : Asks (codes "asm") asm_form
asks_asm = asks_two (codes "asm") asm (λ x y. refl)

asks_soak : Asks (codes "soak") soak_form
asks_soak [] form h = absurd cc
asks_soak (x ∷ []) form h = mapped soak (word_in x) (codes "soak") form (λ n. refl) h
asks_soak (x ∷ v ∷ words) form h = absurd cc

asks_debug : Asks (codes "debug") debug_form
asks_debug [] form h = absurd cc
asks_debug (x ∷ []) form h = absurd cc
asks_debug (x ∷ y ∷ []) form h = absurd cc
asks_debug (x ∷ y ∷ z ∷ []) form h = mapped (λ s. debug x s z) (source_of y) (codes "debug") form (λ s. refl) h
asks_debug (x ∷ y ∷ z ∷ v ∷ words) form h = absurd cc

asks_journal : Asks (codes "journal") journal_form
asks_journal [] form h = absurd cc
asks_journal (x ∷ []) form h = absurd cc
asks_journal (x ∷ y ∷ []) form h = absurd cc
asks_journal (x ∷ y ∷ z ∷ []) form h = absurd cc
asks_journal (x ∷ y ∷ z ∷ w ∷ []) form h =
    (let s = and_then_some (source_of y) (λ s. option_map (λ e. journal x s e w) (every_of z)) form h in
    mapped (λ e. journal x s.0 e w) (every_of z) (codes "journal") form (λ e. refl) s.2)
asks_journal (x ∷ y ∷ z ∷ w ∷ v ∷ words) form h = absurd cc

asks_replay : Asks (codes "replay") replay_form
asks_replay [] form h = absurd cc
asks_replay (x ∷ []) form h = absurd cc
asks_replay (x ∷ y ∷ []) form h = absurd cc
asks_replay (x ∷ y ∷ z ∷ []) form h = absurd cc
asks_replay (x ∷ y ∷ z ∷ w ∷ []) form h =
    (let s = and_then_some (source_of y) (λ s. option_map (replay x s z) (number_of most w)) form h in
    mapped (replay x s.0 z) (number_of most w) (codes "replay") form (λ n. refl) s.2)
asks_replay (x ∷ y ∷ z ∷ w ∷ v ∷ words) form h = absurd cc

asks_migrate : Asks (codes "migrate") migrate_form
asks_migrate [] form h = absurd cc
asks_migrate (x ∷ []) form h = absurd cc
asks_migrate (x ∷ y ∷ []) form h = absurd cc
asks_migrate (x ∷ y ∷ z ∷ []) form h = absurd cc
asks_migrate (x ∷ y ∷ z ∷ w ∷ []) form h = mapped (λ s. migrate x s z w) (source_of y) (codes "migrate") form (λ s. refl) h
asks_migrate (x ∷ y ∷ z ∷ w ∷ v ∷ words) form h = absurd cc

asks_plan : Asks (codes "plan") plan_form
asks_plan [] form h = absurd cc
asks_plan (x ∷ []) form h = absurd cc
asks_plan (x ∷ y ∷ []) form h = absurd cc
asks_plan (x ∷ y ∷ z ∷ []) form h = mapped (λ n. plan x n z) (number_of most_planned y) (codes "plan") form (λ n. refl) h
asks_plan (x ∷ y ∷ z ∷ v ∷ words) form h = absurd cc

asks_hex : Asks (codes "hex") hex_form
asks_hex = asks_two (codes "hex") hex (λ x y. refl)

asks_kernel : Asks (codes "kernel") kernel_form
asks_kernel = asks_two (codes "kernel") kernel (λ x y. refl)

all_ask : AllAsk commands
all_ask = (
  asks_run,
  (
    asks_seq,
    (asks_dis, (asks_asm, (asks_soak, (asks_debug, (asks_journal, (asks_replay, (asks_migrate, (asks_plan, (asks_hex, (asks_kernel, tt)))))))))),
  ),
)

-- four words and no other number of them
pub no_journal : {A : Type 0} (f : A → List ℕ) (words : List A) → length words ≢ 4 → journal_form (map f words) ≡ None
no_journal f [] other = refl
no_journal f (x ∷ []) other = refl
no_journal f (x ∷ y ∷ []) other = refl
no_journal f (x ∷ y ∷ z ∷ []) other = refl
no_journal f (x ∷ y ∷ z ∷ w ∷ []) other = absurd (other refl)
no_journal f (x ∷ y ∷ z ∷ w ∷ v ∷ words) other = refl

pub no_replay : {A : Type 0} (f : A → List ℕ) (words : List A) → length words ≢ 4 → replay_form (map f words) ≡ None
no_replay f [] other = refl
no_replay f (x ∷ []) other = refl
no_replay f (x ∷ y ∷ []) other = refl
no_replay f (x ∷ y ∷ z ∷ []) other = refl
no_replay f (x ∷ y ∷ z ∷ w ∷ []) other = absurd (other refl)
no_replay f (x ∷ y ∷ z ∷ w ∷ v ∷ words) other = refl

pub no_migrate : {A : Type 0} (f : A → List ℕ) (words : List A) → length words ≢ 4 → migrate_form (map f words) ≡ None
no_migrate f [] other = refl
no_migrate f (x ∷ []) other = refl
no_migrate f (x ∷ y ∷ []) other = refl
no_migrate f (x ∷ y ∷ z ∷ []) other = refl
no_migrate f (x ∷ y ∷ z ∷ w ∷ []) other = absurd (other refl)
no_migrate f (x ∷ y ∷ z ∷ w ∷ v ∷ words) other = refl

-- words that ask for a form have its name in front, and the rest is read by its command
record Asked (words : List (List ℕ)) (form : Form) : Type 0 where
  others : List (List ℕ)
  words_are : words ≡ name_of form ∷ others
  rest : form_in commands (name_of form) others ≡ Some form

asked : (words : List (List ℕ)) (form : Form) → form_of words ≡ Some form → Asked words form
asked [] form h = absurd cc
asked (name ∷ words) form h =
    let is = name_is commands name words form all_ask h in
    record { others = words; words_are = ap (λ (n : List ℕ). n ∷ words) is; rest = subst (λ (n : List ℕ). form_in commands n words ≡ Some form) is h }

-- ---- run

pub form_of-run : (words : List (List ℕ)) (image : List ℕ) (schedule : Source) (memory : List ℕ) → IsRun words image schedule memory
    → form_of words ≡ Some (run image schedule memory)
form_of-run words image schedule memory h = ap form_of h.words_are ∙ ap (option_map (λ s. run image s memory)) (source_of-word h.word schedule h.source)

run_words : (words : List (List ℕ)) (image : List ℕ) (schedule : Source) (memory : List ℕ) → run_form words ≡ Some (run image schedule memory)
    → IsRun (codes "run" ∷ words) image schedule memory
run_words [] image schedule memory h = absurd cc
run_words (x ∷ []) image schedule memory h = absurd cc
run_words (x ∷ y ∷ []) image schedule memory h = absurd cc
run_words (x ∷ y ∷ z ∷ []) image schedule memory h = (let s = map_some (λ s. run x s z) (source_of y) (run image schedule memory) h in
    let first : x ≡ image = cc in
    let last : z ≡ memory = cc in
    let same : s.0 ≡ schedule = cc in
    record { word = y; words_are = cc; source = source_of-is y schedule (s.1 ∙ ap (λ (q : Source). Some q) same) })
run_words (x ∷ y ∷ z ∷ v ∷ words) image schedule memory h = absurd cc

pub form_of-is_run : (words : List (List ℕ)) (image : List ℕ) (schedule : Source) (memory : List ℕ) → form_of words ≡ Some (run image schedule memory)
    → IsRun words image schedule memory
form_of-is_run words image schedule memory h =
    let found = asked words (run image schedule memory) h in
    subst (λ (w : List (List ℕ)). IsRun w image schedule memory) (sym found.words_are) (run_words found.others image schedule memory found.rest)

-- ---- seq

pub form_of-seq : (words : List (List ℕ)) (image : List ℕ) (n : ℕ) → IsSeq words image n → form_of words ≡ Some (seq image n)
form_of-seq words image n h = ap form_of h.words_are ∙ ap (option_map (seq image)) (number_of-decimal most n h.few (omega arith))

seq_words : (words : List (List ℕ)) (image : List ℕ) (n : ℕ) → seq_form words ≡ Some (seq image n) → IsSeq (codes "seq" ∷ words) image n
seq_words [] image n h = absurd cc
seq_words (x ∷ []) image n h = absurd cc
seq_words (x ∷ y ∷ []) image n h = (let k = map_some (seq x) (number_of most y) (seq image n) h in
    let first : x ≡ image = cc in
    let same : k.0 ≡ n = cc in
    let number = number_of-is most y n (k.1 ∙ ap (λ (q : ℕ). Some q) same) in
    let last : y ≡ decimal n = number.0 in
    record { words_are = cc; few = number.1 })
seq_words (x ∷ y ∷ v ∷ words) image n h = absurd cc

pub form_of-is_seq : (words : List (List ℕ)) (image : List ℕ) (n : ℕ) → form_of words ≡ Some (seq image n) → IsSeq words image n
form_of-is_seq words image n h =
    let found = asked words (seq image n) h in
    subst (λ (w : List (List ℕ)). IsSeq w image n) (sym found.words_are) (seq_words found.others image n found.rest)

-- ---- dis

pub form_of-dis : (words : List (List ℕ)) (image : List ℕ) (lo hi : ℕ) → IsDis words image lo hi → form_of words ≡ Some (dis image lo hi)
form_of-dis words image lo hi h = ap form_of h.words_are ∙ ap (option_map (λ r. dis image r.0 r.1)) (range_in-again lo hi h.range)

dis_words : (words : List (List ℕ)) (image : List ℕ) (lo hi : ℕ) → dis_form words ≡ Some (dis image lo hi) → IsDis (codes "dis" ∷ words) image lo hi
dis_words [] image lo hi h = absurd cc
dis_words (x ∷ []) image lo hi h = absurd cc
dis_words (x ∷ y ∷ []) image lo hi h = absurd cc
dis_words (x ∷ y ∷ z ∷ []) image lo hi h = (let r = map_some (λ r. dis x r.0 r.1) (range_in y z) (dis image lo hi) h in
    let first : x ≡ image = cc in
    let from : r.0.0 ≡ lo = cc in
    let to : r.0.1 ≡ hi = cc in
    let range = range_in-is y z r.0 r.1 in
    let second : y ≡ hex8 lo = range.0 ∙ ap hex8 from in
    let third : z ≡ hex8 hi = range.1 ∙ ap hex8 to in
    record { words_are = cc; range = subst (λ (b : ℕ). IsRange lo b) to (subst (λ (a : ℕ). IsRange a r.0.1) from range.2) })
dis_words (x ∷ y ∷ z ∷ v ∷ words) image lo hi h = absurd cc

pub form_of-is_dis : (words : List (List ℕ)) (image : List ℕ) (lo hi : ℕ) → form_of words ≡ Some (dis image lo hi) → IsDis words image lo hi
form_of-is_dis words image lo hi h =
    let found = asked words (dis image lo hi) h in
    subst (λ (w : List (List ℕ)). IsDis w image lo hi) (sym found.words_are) (dis_words found.others image lo hi found.rest)

-- ---- asm

pub form_of-asm : (words : List (List ℕ)) (source out : List ℕ) → IsAsm words source out → form_of words ≡ Some (asm source out)
form_of-asm words source out h = ap form_of h.words_are

-- the words behind a command of two names are these, where the form tells its names
two_words : (name : List ℕ) (of : List ℕ → List ℕ → Form) (words : List (List ℕ)) (source out : List ℕ)
    → ((x y : List ℕ) → of x y ≡ of source out → (x ≡ source) × (y ≡ out))
    → two_names of words ≡ Some (of source out) → name ∷ words ≡ name ∷ source ∷ out ∷ []
two_words name of [] source out tells h = absurd cc
two_words name of (x ∷ []) source out tells h = absurd cc
two_words name of (x ∷ y ∷ []) source out tells h =
    let same = tells x y (some_is (of x y) (of source out) h) in
    let first : x ≡ source = same.0 in
    let second : y ≡ out = same.1 in
    cc
two_words name of (x ∷ y ∷ v ∷ words) source out tells h = absurd cc

asm_words : (words : List (List ℕ)) (source out : List ℕ) → asm_form words ≡ Some (asm source out) → IsAsm (codes "asm" ∷ words) source out
asm_words words source out h = record { words_are = two_words (codes "asm") asm words source out (λ x y same. (cc, cc)) h }

pub form_of-is_asm : (words : List (List ℕ)) (source out : List ℕ) → form_of words ≡ Some (asm source out) → IsAsm words source out
form_of-is_asm words source out h =
    let found = asked words (asm source out) h in
    subst (λ (w : List (List ℕ)). IsAsm w source out) (sym found.words_are) (asm_words found.others source out found.rest)

-- ---- soak

pub form_of-soak : (words : List (List ℕ)) (number : ℕ) → IsSoak words number → form_of words ≡ Some (soak number)
form_of-soak words number h = ap form_of h.words_are ∙ ap (option_map soak) (word_again number h.few)

soak_words : (words : List (List ℕ)) (number : ℕ) → soak_form words ≡ Some (soak number) → IsSoak (codes "soak" ∷ words) number
soak_words [] number h = absurd cc
soak_words (x ∷ []) number h = (let k = map_some soak (word_in x) (soak number) h in
    let same : k.0 ≡ number = cc in
    let found = word_found x number (k.1 ∙ ap (λ (q : ℕ). Some q) same) in
    let first : x ≡ decimal number = found.0 in
    record { words_are = cc; few = found.1 })
soak_words (x ∷ v ∷ words) number h = absurd cc

pub form_of-is_soak : (words : List (List ℕ)) (number : ℕ) → form_of words ≡ Some (soak number) → IsSoak words number
form_of-is_soak words number h =
    let found = asked words (soak number) h in
    subst (λ (w : List (List ℕ)). IsSoak w number) (sym found.words_are) (soak_words found.others number found.rest)

-- ---- debug

pub form_of-debug : (words : List (List ℕ)) (image : List ℕ) (schedule : Source) (script : List ℕ) → IsDebug words image schedule script
    → form_of words ≡ Some (debug image schedule script)
form_of-debug words image schedule script h = ap form_of h.words_are ∙ ap (option_map (λ s. debug image s script)) (source_of-word h.word schedule h.source)

debug_words : (words : List (List ℕ)) (image : List ℕ) (schedule : Source) (script : List ℕ) → debug_form words ≡ Some (debug image schedule script)
    → IsDebug (codes "debug" ∷ words) image schedule script
debug_words [] image schedule script h = absurd cc
debug_words (x ∷ []) image schedule script h = absurd cc
debug_words (x ∷ y ∷ []) image schedule script h = absurd cc
debug_words (x ∷ y ∷ z ∷ []) image schedule script h = (let s = map_some (λ s. debug x s z) (source_of y) (debug image schedule script) h in
    let first : x ≡ image = cc in
    let last : z ≡ script = cc in
    let same : s.0 ≡ schedule = cc in
    record { word = y; words_are = cc; source = source_of-is y schedule (s.1 ∙ ap (λ (q : Source). Some q) same) })
debug_words (x ∷ y ∷ z ∷ v ∷ words) image schedule script h = absurd cc

pub form_of-is_debug : (words : List (List ℕ)) (image : List ℕ) (schedule : Source) (script : List ℕ) → form_of words ≡ Some (debug image schedule script)
    → IsDebug words image schedule script
form_of-is_debug words image schedule script h =
    let found = asked words (debug image schedule script) h in
    subst (λ (w : List (List ℕ)). IsDebug w image schedule script) (sym found.words_are) (debug_words found.others image schedule script found.rest)

-- ---- journal

pub form_of-journal : (words : List (List ℕ)) (image : List ℕ) (schedule : Source) (every : ℕ) (out : List ℕ) → IsJournal words image schedule every out
    → form_of words ≡ Some (journal image schedule every out)
form_of-journal words image schedule every out h = ap form_of h.words_are
    ∙ ap (option_and_then (λ s. option_map (λ e. journal image s e out) (every_of (decimal every)))) (source_of-word h.word schedule h.source)
    ∙ ap (option_map (λ e. journal image schedule e out)) (every_of-decimal every h.some h.few)

journal_words : (words : List (List ℕ)) (image : List ℕ) (schedule : Source) (every : ℕ) (out : List ℕ)
    → journal_form words ≡ Some (journal image schedule every out) → IsJournal (codes "journal" ∷ words) image schedule every out
journal_words [] image schedule every out h = absurd cc
journal_words (x ∷ []) image schedule every out h = absurd cc
journal_words (x ∷ y ∷ []) image schedule every out h = absurd cc
journal_words (x ∷ y ∷ z ∷ []) image schedule every out h = absurd cc
journal_words (x ∷ y ∷ z ∷ w ∷ []) image schedule every out h =
    (let s = and_then_some (source_of y) (λ s. option_map (λ e. journal x s e w) (every_of z)) (journal image schedule every out) h in
    let e = map_some (λ e. journal x s.0 e w) (every_of z) (journal image schedule every out) s.2 in
    let first : x ≡ image = cc in
    let last : w ≡ out = cc in
    let same : s.0 ≡ schedule = cc in
    let step : e.0 ≡ every = cc in
    let distance = every_of-is z every (e.1 ∙ ap (λ (q : ℕ). Some q) step) in
    let third : z ≡ decimal every = distance.0 in
    record { word = y; words_are = cc; source = source_of-is y schedule (s.1 ∙ ap (λ (q : Source). Some q) same); some = distance.1; few = distance.2 })
journal_words (x ∷ y ∷ z ∷ w ∷ v ∷ words) image schedule every out h = absurd cc

pub form_of-is_journal : (words : List (List ℕ)) (image : List ℕ) (schedule : Source) (every : ℕ) (out : List ℕ)
    → form_of words ≡ Some (journal image schedule every out) → IsJournal words image schedule every out
form_of-is_journal words image schedule every out h =
    let found = asked words (journal image schedule every out) h in
    subst (λ (w : List (List ℕ)). IsJournal w image schedule every out) (sym found.words_are) (journal_words found.others image schedule every out found.rest)

-- ---- replay

pub form_of-replay : (words : List (List ℕ)) (image : List ℕ) (schedule : Source) (text : List ℕ) (tick : ℕ) → IsReplay words image schedule text tick
    → form_of words ≡ Some (replay image schedule text tick)
form_of-replay words image schedule text tick h = ap form_of h.words_are
    ∙ ap (option_and_then (λ s. option_map (replay image s text) (number_of most (decimal tick)))) (source_of-word h.word schedule h.source)
    ∙ ap (option_map (replay image schedule text)) (number_of-decimal most tick h.few (omega arith))

replay_words : (words : List (List ℕ)) (image : List ℕ) (schedule : Source) (text : List ℕ) (tick : ℕ)
    → replay_form words ≡ Some (replay image schedule text tick) → IsReplay (codes "replay" ∷ words) image schedule text tick
replay_words [] image schedule text tick h = absurd cc
replay_words (x ∷ []) image schedule text tick h = absurd cc
replay_words (x ∷ y ∷ []) image schedule text tick h = absurd cc
replay_words (x ∷ y ∷ z ∷ []) image schedule text tick h = absurd cc
replay_words (x ∷ y ∷ z ∷ w ∷ []) image schedule text tick h =
    (let s = and_then_some (source_of y) (λ s. option_map (replay x s z) (number_of most w)) (replay image schedule text tick) h in
    let n = map_some (replay x s.0 z) (number_of most w) (replay image schedule text tick) s.2 in
    let first : x ≡ image = cc in
    let third : z ≡ text = cc in
    let same : s.0 ≡ schedule = cc in
    let at : n.0 ≡ tick = cc in
    let number = number_of-is most w tick (n.1 ∙ ap (λ (q : ℕ). Some q) at) in
    let last : w ≡ decimal tick = number.0 in
    record { word = y; words_are = cc; source = source_of-is y schedule (s.1 ∙ ap (λ (q : Source). Some q) same); few = number.1 })
replay_words (x ∷ y ∷ z ∷ w ∷ v ∷ words) image schedule text tick h = absurd cc

pub form_of-is_replay : (words : List (List ℕ)) (image : List ℕ) (schedule : Source) (text : List ℕ) (tick : ℕ)
    → form_of words ≡ Some (replay image schedule text tick) → IsReplay words image schedule text tick
form_of-is_replay words image schedule text tick h =
    let found = asked words (replay image schedule text tick) h in
    subst (λ (w : List (List ℕ)). IsReplay w image schedule text tick) (sym found.words_are) (replay_words found.others image schedule text tick found.rest)

-- ---- migrate

pub form_of-migrate : (words : List (List ℕ)) (image : List ℕ) (schedule : Source) (text out : List ℕ) → IsMigrate words image schedule text out
    → form_of words ≡ Some (migrate image schedule text out)
form_of-migrate words image schedule text out h = ap form_of h.words_are
    ∙ ap (option_map (λ s. migrate image s text out)) (source_of-word h.word schedule h.source)

migrate_words : (words : List (List ℕ)) (image : List ℕ) (schedule : Source) (text out : List ℕ) → migrate_form words ≡ Some (migrate image schedule text out)
    → IsMigrate (codes "migrate" ∷ words) image schedule text out
migrate_words [] image schedule text out h = absurd cc
migrate_words (x ∷ []) image schedule text out h = absurd cc
migrate_words (x ∷ y ∷ []) image schedule text out h = absurd cc
migrate_words (x ∷ y ∷ z ∷ []) image schedule text out h = absurd cc
migrate_words (x ∷ y ∷ z ∷ w ∷ []) image schedule text out h = (let s = map_some (λ s. migrate x s z w) (source_of y) (migrate image schedule text out) h in
    let first : x ≡ image = cc in
    let third : z ≡ text = cc in
    let last : w ≡ out = cc in
    let same : s.0 ≡ schedule = cc in
    record { word = y; words_are = cc; source = source_of-is y schedule (s.1 ∙ ap (λ (q : Source). Some q) same) })
migrate_words (x ∷ y ∷ z ∷ w ∷ v ∷ words) image schedule text out h = absurd cc

pub form_of-is_migrate : (words : List (List ℕ)) (image : List ℕ) (schedule : Source) (text out : List ℕ)
    → form_of words ≡ Some (migrate image schedule text out) → IsMigrate words image schedule text out
form_of-is_migrate words image schedule text out h =
    let found = asked words (migrate image schedule text out) h in
    subst (λ (w : List (List ℕ)). IsMigrate w image schedule text out) (sym found.words_are) (migrate_words found.others image schedule text out found.rest)

-- ---- plan

pub form_of-plan : (words : List (List ℕ)) (image : List ℕ) (n : ℕ) (out : List ℕ) → IsPlan words image n out → form_of words ≡ Some (plan image n out)
form_of-plan words image n out h = ap form_of h.words_are ∙ ap (option_map (λ n. plan image n out)) (number_of-decimal most_planned n h.few (omega arith))

plan_words : (words : List (List ℕ)) (image : List ℕ) (n : ℕ) (out : List ℕ) → plan_form words ≡ Some (plan image n out)
    → IsPlan (codes "plan" ∷ words) image n out
plan_words [] image n out h = absurd cc
plan_words (x ∷ []) image n out h = absurd cc
plan_words (x ∷ y ∷ []) image n out h = absurd cc
plan_words (x ∷ y ∷ z ∷ []) image n out h = (let k = map_some (λ n. plan x n z) (number_of most_planned y) (plan image n out) h in
    let first : x ≡ image = cc in
    let last : z ≡ out = cc in
    let same : k.0 ≡ n = cc in
    let number = number_of-is most_planned y n (k.1 ∙ ap (λ (q : ℕ). Some q) same) in
    let second : y ≡ decimal n = number.0 in
    record { words_are = cc; few = number.1 })
plan_words (x ∷ y ∷ z ∷ v ∷ words) image n out h = absurd cc

pub form_of-is_plan : (words : List (List ℕ)) (image : List ℕ) (n : ℕ) (out : List ℕ) → form_of words ≡ Some (plan image n out) → IsPlan words image n out
form_of-is_plan words image n out h =
    let found = asked words (plan image n out) h in
    subst (λ (w : List (List ℕ)). IsPlan w image n out) (sym found.words_are) (plan_words found.others image n out found.rest)

-- ---- hex

pub form_of-hex : (words : List (List ℕ)) (image out : List ℕ) → IsHex words image out → form_of words ≡ Some (hex image out)
form_of-hex words image out h = ap form_of h.words_are

hex_words : (words : List (List ℕ)) (image out : List ℕ) → hex_form words ≡ Some (hex image out) → IsHex (codes "hex" ∷ words) image out
hex_words words image out h = record { words_are = two_words (codes "hex") hex words image out (λ x y same. (cc, cc)) h }

pub form_of-is_hex : (words : List (List ℕ)) (image out : List ℕ) → form_of words ≡ Some (hex image out) → IsHex words image out
form_of-is_hex words image out h =
    let found = asked words (hex image out) h in
    subst (λ (w : List (List ℕ)). IsHex w image out) (sym found.words_are) (hex_words found.others image out found.rest)

-- ---- kernel

pub form_of-kernel : (words : List (List ℕ)) (source out : List ℕ) → IsKernel words source out → form_of words ≡ Some (kernel source out)
form_of-kernel words source out h = ap form_of h.words_are

kernel_words : (words : List (List ℕ)) (source out : List ℕ) → kernel_form words ≡ Some (kernel source out) → IsKernel (codes "kernel" ∷ words) source out
kernel_words words source out h = record { words_are = two_words (codes "kernel") kernel words source out (λ x y same. (cc, cc)) h }

pub form_of-is_kernel : (words : List (List ℕ)) (source out : List ℕ) → form_of words ≡ Some (kernel source out) → IsKernel words source out
form_of-is_kernel words source out h =
    let found = asked words (kernel source out) h in
    subst (λ (w : List (List ℕ)). IsKernel w source out) (sym found.words_are) (kernel_words found.others source out found.rest)
