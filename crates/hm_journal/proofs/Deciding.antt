-- Whether a value is a journal's, and whose.
use Rattle.std.proofs.Common.{◌≡◌, ℕ, zero, suc, ◌*◌, arith, ap, refl, sym, ◌∙◌, ◌⊎◌, inl, inr, List, [], ◌∷◌, codes, length, map, slice_get, Some}
use Rattle.std.proofs.lemmas.Bool.{cases_eq, cases_lt}
use Rattle.serde_json.specs.Data.{Data, Items, Members, array, item, member, no_items, no_members, number, object, string}
use Rattle.serde_json.specs.Data.{unsigned}
use Rattle.serde_json.specs.View.{items_of}
use Rattle.hm_sched.specs.Schedule.{most_ticks}
use Rattle.hm_journal.proofs.Pairs.{items_same}
use Rattle.hm_journal.specs.Journals.{IsFormat, IsJournal, Journaled, ReportAt, checkpoint_data, journal_data, most_checkpoints}

-- an x of which P holds, or that P holds of none
abbrev pub OrNone : (A : Type 0) → (A → Type 0) → Type 0
OrNone A P = ((x : A) × P x) ⊎ ((x : A) → ¬ (P x))

pub same_or : (k l : List ℕ) → (k ≡ l) ⊎ (¬ (k ≡ l))
same_or [] [] = inl refl
same_or [] (y ∷ ys) = inr (λ e. cc)
same_or (x ∷ xs) [] = inr (λ e. cc)
same_or (x ∷ xs) (y ∷ ys) =
    elim (cases_eq x y) [
      | inr never ↦ inr (λ e. never (cc))
      | inl first ↦ elim (same_or xs ys) [ inr never ↦ inr (λ e. never (cc)) | inl rest ↦ inl (λ i. first i ∷ rest i) ]
    ]

number_or : (d : Data) → OrNone ℕ (λ n. d ≡ number (unsigned n))
number_or (number (unsigned n)) = inl (n, refl)
number_or d = inr (λ n e. cc)

string_or : (d : Data) → OrNone (List ℕ) (λ s. d ≡ string s)
string_or (string s) = inl (s, refl)
string_or d = inr (λ s e. cc)

module _ {A : Type 0} (Q : A → Items) (each : (ds : Items) → OrNone A (λ a. ds ≡ Q a)) where
  array_or : (d : Data) → OrNone A (λ a. d ≡ array (Q a))
  array_or (array ds) = elim (each ds) [ inr never ↦ inr (λ a e. never a (cc)) | inl a ↦ inl (a.0, ap array a.1) ]
  array_or d = inr (λ a e. cc)

module _ {A : Type 0} (Q : A → Members) (each : (ms : Members) → OrNone A (λ a. ms ≡ Q a)) where
  object_or : (d : Data) → OrNone A (λ a. d ≡ object (Q a))
  object_or (object ms) = elim (each ms) [ inr never ↦ inr (λ a e. never a (cc)) | inl a ↦ inl (a.0, ap object a.1) ]
  object_or d = inr (λ a e. cc)

module _ {A : Type 0} (Q : A → Data) (each : (d : Data) → OrNone A (λ a. d ≡ Q a)) where
  items_or : (ds : Items) → OrNone (List A) (λ xs. ds ≡ items_of (map Q xs))
  items_or no_items = inl ([], refl)
  items_or (item d ds) =
      elim (each d) [
        | inr never ↦ inr (no_first d ds never)
        | inl a ↦ elim (items_or ds) [ inr never ↦ inr (no_rest d ds never) | inl xs ↦ inl (a.0 ∷ xs.0, (λ i. item (a.1 i) (xs.1 i))) ]
      ]
    where
      no_first : (d : Data) (ds : Items) → ((a : A) → ¬ (d ≡ Q a)) → (xs : List A) → ¬ (item d ds ≡ items_of (map Q xs))
      no_first d ds never [] e = cc
      no_first d ds never (x ∷ xs) e = never x (let both : item d ds ≡ item (Q x) (items_of (map Q xs)) = e in cc)

      no_rest : (d : Data) (ds : Items) → ((xs : List A) → ¬ (ds ≡ items_of (map Q xs))) → (xs : List A) → ¬ (item d ds ≡ items_of (map Q xs))
      no_rest d ds never [] e = cc
      no_rest d ds never (x ∷ xs) e = never xs (let both : item d ds ≡ item (Q x) (items_of (map Q xs)) = e in cc)

-- the last member, and one before others
end_or : (ms : Members) → OrNone (Unit {0}) (λ u. ms ≡ no_members)
end_or no_members = inl (tt, refl)
end_or (member k d ms) = inr (λ u e. cc)

module _ {A B : Type 0} (k : List ℕ) (Q : A → Data) (R : B → Members) (one : (d : Data) → OrNone A (λ a. d ≡ Q a))
    (others : (ms : Members) → OrNone B (λ b. ms ≡ R b)) where
  member_or : (ms : Members) → OrNone (A × B) (λ p. ms ≡ member k (Q p.0) (R p.1))
  member_or no_members = inr (λ p e. cc)
  member_or (member l d ms) =
      elim (same_or l k) [
        | inr never ↦ inr (λ p e. never (cc))
        | inl same ↦
            elim (one d) [
              | inr never ↦ inr (λ p e. never p.0 (cc))
              | inl a ↦ elim (others ms) [ inr never ↦ inr (λ p e. never p.1 (cc)) | inl b ↦ inl ((a.0, b.0), (λ i. member (same i) (a.1 i) (b.1 i))) ]
            ]
      ]

checkpoint_or : (d : Data) → OrNone ReportAt (λ x. d ≡ checkpoint_data x)
checkpoint_or d =
    let ticked = member_or (codes "tick") (λ n. number (unsigned n)) (λ (u : Unit {0}). no_members) number_or end_or in
    let all = member_or (codes "report") string (λ (p : ℕ × Unit {0}). member (codes "tick") (number (unsigned p.0)) no_members) string_or ticked in
    elim (object_or _ all d) [
      | inr never ↦ inr (λ x e. never (x.report, (x.tick, tt)) e)
      | inl p ↦ inl (record { tick = p.0.1.0; report = p.0.0 }, p.1)
    ]

pub journal_or : (d : Data) → OrNone Journaled (λ j. d ≡ journal_data j)
journal_or d =
    let formatted = member_or (codes "format") (λ n. number (unsigned n)) (λ (u : Unit {0}). no_members) number_or end_or in
    let every = member_or (codes "every") (λ n. number (unsigned n)) (λ (p : ℕ × Unit {0}). member (codes "format") (number (unsigned p.0)) no_members)
    number_or formatted in
    let listed = array_or (λ xs. items_of (map checkpoint_data xs)) (items_or checkpoint_data checkpoint_or) in
    let all = member_or (codes "checkpoints") (λ xs. array (items_of (map checkpoint_data xs)))
    (λ (p : ℕ × (ℕ × Unit {0})). member (codes "every") (number (unsigned p.0)) (member (codes "format") (number (unsigned p.1.0)) no_members)) listed every in
    elim (object_or _ all d) [
      | inr never ↦ inr (λ j e. never (j.checkpoints, (j.every, (j.format, tt))) e)
      | inl p ↦ inl (record { format = p.0.1.1.0; every = p.0.1.0; checkpoints = p.0.0 }, p.1)
    ]

-- WHETHER IT IS ONE THAT THERE IS
abbrev AreAt : (ℕ → ℕ) → List ReportAt → Type 0
AreAt want xs = (k : ℕ) (x : ReportAt) → slice_get xs k ≡ Some x → x.tick ≡ want k

none_at : (want : ℕ → ℕ) → AreAt want []
none_at want zero x e = absurd cc
none_at want (suc k) x e = absurd cc

more_at : (want : ℕ → ℕ) (y : ReportAt) (ys : List ReportAt) → y.tick ≡ want 0 → AreAt (λ k. want (suc k)) ys → AreAt want (y ∷ ys)
more_at want y ys first rest zero x e = let same : y ≡ x = cc in ap (λ (m : ReportAt). m.tick) (sym same) ∙ first
more_at want y ys first rest (suc k) x e = rest k x e

ticks_or : (want : ℕ → ℕ) (xs : List ReportAt) → AreAt want xs ⊎ (¬ (AreAt want xs))
ticks_or want [] = inl (none_at want)
ticks_or want (y ∷ ys) =
    elim (cases_eq y.tick (want 0)) [
      | inr never ↦ inr (λ all. never (all 0 y refl))
      | inl first ↦
          elim (ticks_or (λ k. want (suc k)) ys) [
            | inr never ↦ inr (λ all. never (λ k x e. all (suc k) x e))
            | inl rest ↦ inl (more_at want y ys first rest)
          ]
    ]

-- a format that there is, or none
pub format_or : (n : ℕ) → IsFormat n ⊎ (¬ (IsFormat n))
format_or n =
    elim (cases_eq n 1) [
      | inl first ↦ inl (inl first)
      | inr not_first ↦ elim (cases_eq n 2) [
        | inl second ↦ inl (inr second)
        | inr not_second ↦
            inr (λ is. elim is [ inl first ↦ not_first first | inr second ↦ not_second second ])
      ]
    ]

pub sound_or : (j : Journaled) → IsJournal j ⊎ (¬ (IsJournal j))
sound_or j =
    elim (format_or j.format) [
      | inr never ↦ inr (λ is. never is.format)
      | inl format ↦
          elim (cases_lt 0 (length j.checkpoints)) [
            | inr none ↦ inr (λ is. let some = is.some in omega (arith, none, some))
            | inl some ↦
                elim (cases_lt most_checkpoints (length j.checkpoints)) [
                  | inl many ↦ inr (λ is. let few = is.few in omega (arith, many, few))
                  | inr few ↦
                      elim (cases_lt 0 j.every) [
                        | inr none ↦ inr (λ is. let every = is.every in omega (arith, none, every))
                        | inl every ↦
                            elim (cases_lt most_ticks j.every) [
                              | inl much ↦ inr (λ is. let most = is.most in omega (arith, much, most))
                              | inr most ↦
                                  elim (ticks_or (λ k. k * j.every) j.checkpoints) [
                                    | inr never ↦ inr (λ is. never is.ticks)
                                    | inl ticks ↦ inl (record { format = format; some = some; few = few; every = every; most = most; ticks = ticks })
                                  ]
                            ]
                      ]
                ]
          ]
    ]

-- A VALUE IS ONE JOURNAL'S AT MOST
one_list : (xs ys : List ReportAt) → map checkpoint_data xs ≡ map checkpoint_data ys → xs ≡ ys
one_list [] [] e = refl
one_list [] (y ∷ ys) e = absurd (let never : [] ≡ checkpoint_data y ∷ map checkpoint_data ys = e in cc)
one_list (x ∷ xs) [] e = absurd (let never : checkpoint_data x ∷ map checkpoint_data xs ≡ [] = e in cc)
one_list (x ∷ xs) (y ∷ ys) e =
    let both : checkpoint_data x ∷ map checkpoint_data xs ≡ checkpoint_data y ∷ map checkpoint_data ys = e in
    let first : checkpoint_data x ≡ checkpoint_data y = cc in
    let rest : map checkpoint_data xs ≡ map checkpoint_data ys = cc in
    let tick : x.tick ≡ y.tick = cc in
    let report : x.report ≡ y.report = cc in
    λ i. record { tick = tick i; report = report i } ∷ one_list xs ys rest i

pub one_journal : (j k : Journaled) → journal_data j ≡ journal_data k → j ≡ k
one_journal j k e =
    let items : items_of (map checkpoint_data j.checkpoints) ≡ items_of (map checkpoint_data k.checkpoints) = cc in
    let every : j.every ≡ k.every = cc in
    let format : j.format ≡ k.format = cc in
    let list = one_list j.checkpoints k.checkpoints (items_same (map checkpoint_data j.checkpoints) (map checkpoint_data k.checkpoints) items) in
    λ i. record { format = format i; every = every i; checkpoints = list i }
