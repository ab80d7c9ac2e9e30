-- Reads in order.
use Rattle.std.proofs.Common.{◌≡◌, ℕ, ◌<◌, ◌≤◌, List, [], ◌∷◌, ◌++◌, length, Some, Option, Err, refl, ap, sym, ◌∙◌, append_assoc, arith, map, take, drop}
use Rattle.std.proofs.Common.{get_or, suc, subst, ◌+◌, inr, Bor}
use Rattle.std.proofs.Math.Seq.{drop-cons}
use Rattle.std.proofs.lemmas.Bool.Decides.{nat_tests}
use Rattle.std.specs.FinMap.{get}
use Rattle.std.proofs.lemmas.List.{append-nil, drop_all, map-append, take_more}
use Rattle.hm_host.specs.Host.{FileMap, Call, read as read_call, Made, answered, Makes, Becomes, Reads, Stays, longest}
use Rattle.hm_host.specs.declared.host.HostErr.{HostErr}
use Rattle.hm_host.specs.declared.host.HostErr.TheVariants.{Failed, TooLarge, OutOfMemory}
use Rattle.hm_commands.specs.Calls.{after_read, read_calls, with_calls, to_end, to_fault, to_memory, answer_way, MakesCalls}
use Rattle.hm_commands.proofs.Calling.{one_made, made_after, fault_before, memory_before}
use Rattle.hm_commands.specs.Effect.{Reading, whole, too_large, missing, after_contents, then_read, reading_of, ReadsAll}

pub after_contents-push : (before : List (List ℕ)) (bytes : List ℕ) (r : Reading)
    → after_contents before (after_contents (bytes ∷ []) r) ≡ after_contents (before ++ bytes ∷ []) r
after_contents-push before bytes (whole contents) = ap whole (sym (append_assoc before (bytes ∷ []) contents))
after_contents-push before bytes too_large = refl
after_contents-push before bytes missing = refl

then_read-fits : (bytes : List ℕ) (r : Reading) → length bytes ≤ longest → then_read (Some bytes) r ≡ after_contents (bytes ∷ []) r
then_read-fits bytes r fits = grind (arith, nat_tests)

then_read-too_large : (bytes : List ℕ) (r : Reading) → longest < length bytes → then_read (Some bytes) r ≡ too_large
then_read-too_large bytes r long = grind (arith, nat_tests)

-- one more read
pub reading_of-read : (F : FileMap) (before : List (List ℕ)) (name bytes : List ℕ) (names : List (List ℕ)) → get F name ≡ Some bytes → length bytes ≤ longest
    → after_contents before (reading_of F (name ∷ names)) ≡ after_contents (before ++ bytes ∷ []) (reading_of F names)
reading_of-read F before name bytes names is fits =
    ap (λ o. after_contents before (then_read o (reading_of F names))) is
    ∙ ap (after_contents before) (then_read-fits bytes (reading_of F names) fits)
    ∙ after_contents-push before bytes (reading_of F names)

-- a read of a file that is too large
pub reading_of-too_large : (F : FileMap) (before : List (List ℕ)) (name bytes : List ℕ) (names : List (List ℕ)) → get F name ≡ Some bytes
    → longest < length bytes
    → after_contents before (reading_of F (name ∷ names)) ≡ too_large
reading_of-too_large F before name bytes names is long =
    ap (λ o. after_contents before (then_read o (reading_of F names))) is
    ∙ ap (after_contents before) (then_read-too_large bytes (reading_of F names) long)

-- What an answer without bytes says does not depend on the type of the bytes.
abbrev pub ReadErr : Option FileMap → List ℕ → HostErr → Type 0
ReadErr files name e = Reads {T = ℕ} files name (λ _. []) (Err e)

abbrev pub ReadsAllErr : Option FileMap → List (List ℕ) → HostErr → Type 0
ReadsAllErr files names e = ReadsAll {T = ℕ} files names (λ _. []) (Err e)

-- a read that gives no bytes, after those that did
pub ReadsAll-err : (old mid : Option FileMap) (all : List (List ℕ)) (before : List (List ℕ)) (names : List (Bor (List ℕ))) (i : ℕ) (e : HostErr)
    → ((F : FileMap) → old ≡ Some F → reading_of F all ≡ after_contents before (reading_of F (map (λ name. name.now) (drop i names))))
    → i < length names → Stays old mid → ReadErr mid (get_or names i (record { ref_ptr = (0, 0); now = [] })).now e → ReadsAllErr old all e
ReadsAll-err old mid all before names i Failed told lt stays read = tt
ReadsAll-err old mid all before names i TooLarge told lt stays read = λ F is.
    let here = get_or names i (record { ref_ptr = (0, 0); now = [] }) in
    told F is ∙ ap (λ left. after_contents before (reading_of F (map (λ name. name.now) left))) (drop-cons names i (record { ref_ptr = (0, 0); now = [] }) lt)
    ∙ reading_of-too_large F before here.now (read F (stays F is)).0 (map (λ name. name.now) (drop (suc i) names)) (read F (stays F is)).1
    (read F (stays F is)).2
ReadsAll-err old mid all before names i OutOfMemory told lt stays read = tt

-- ---- the calls

abbrev pub reads : List (Bor (List ℕ)) → List Call
reads names = map (λ name. read_call name.now) names

abbrev no_name : Bor (List ℕ)
no_name = record { ref_ptr = (0, 0); now = [] }

-- the reads that are made, and those that are left
abbrev pub SplitsAt : FileMap → List (Bor (List ℕ)) → ℕ → Type 0
SplitsAt F names i = read_calls F (map (λ name. name.now) names) ≡ reads (take i names) ++ read_calls F (map (λ name. name.now) (drop i names))

after_read-fits : (bytes : List ℕ) (others : List Call) → length bytes ≤ longest → after_read (Some bytes) others ≡ others
after_read-fits bytes others fits = grind (arith, nat_tests)

after_read-too_large : (bytes : List ℕ) (others : List Call) → longest < length bytes → after_read (Some bytes) others ≡ []
after_read-too_large bytes others long = grind (arith, nat_tests)

left_at : (F : FileMap) (names : List (Bor (List ℕ))) (i : ℕ) → i < length names
    → read_calls F (map (λ name. name.now) (drop i names))
    ≡ read_call (get_or names i no_name).now ∷ after_read (get F (get_or names i no_name).now) (read_calls F (map (λ name. name.now) (drop (suc i) names)))
left_at F names i lt = ap (λ (left : List (Bor (List ℕ))). read_calls F (map (λ name. name.now) left)) (drop-cons names i no_name lt)

reads-more : (names : List (Bor (List ℕ))) (i : ℕ) → i < length names
    → reads (take (i + 1) names) ≡ reads (take i names) ++ read_call (get_or names i no_name).now ∷ []
reads-more names i lt = ap reads (take_more names i no_name lt) ∙ map-append (λ name. read_call name.now) (take i names) (get_or names i no_name ∷ [])

pub next_calls : (names : List (Bor (List ℕ))) (i : ℕ) (old mid new : Option (List Made)) → i < length names
    → Becomes (with_calls (reads (take i names))) old mid
    → Becomes (λ made. made ++ answered (read_call (get_or names i no_name).now) ∷ []) mid new → Becomes (with_calls (reads (take (i + 1) names))) old new
next_calls names i old mid new lt before one =
    let both = made_after (reads (take i names)) (read_call (get_or names i no_name).now ∷ []) old mid new to_end before one in
    subst (λ (calls : List Call). Becomes (with_calls calls) old new) (sym (reads-more names i lt)) both

pub next_splits : (F : FileMap) (names : List (Bor (List ℕ))) (i : ℕ) (bytes : List ℕ) → i < length names → get F (get_or names i no_name).now ≡ Some bytes
    → length bytes ≤ longest → SplitsAt F names i → SplitsAt F names (i + 1)
next_splits F names i bytes lt is fits splits =
    let here = read_call (get_or names i no_name).now in
    let more = read_calls F (map (λ name. name.now) (drop (suc i) names)) in
    let left : read_calls F (map (λ name. name.now) (drop i names)) ≡ here ∷ more = left_at F names i lt
    ∙ ap (λ (o : Option (List ℕ)). here ∷ after_read o more) is ∙ ap (λ (c : List Call). here ∷ c) (after_read-fits bytes more fits) in
    let one : i + 1 ≡ suc i = omega arith in
    splits ∙ ap (λ (c : List Call). reads (take i names) ++ c) left ∙ sym (append_assoc (reads (take i names)) (here ∷ []) more)
    ∙ ap (λ (c : List Call). c ++ more) (sym (reads-more names i lt))
    ∙ ap (λ (k : ℕ). reads (take (i + 1) names) ++ read_calls F (map (λ name. name.now) (drop k names))) (sym one)

-- all reads were made
pub reads_done : (F : FileMap) (names : List (Bor (List ℕ))) (i : ℕ) (old new : Option (List Made)) → length names ≤ i → SplitsAt F names i
    → Becomes (with_calls (reads (take i names))) old new
    → Becomes (with_calls (read_calls F (map (λ name. name.now) names))) old new
reads_done F names i old new le splits before =
    let none : read_calls F (map (λ name. name.now) (drop i names)) ≡ [] =
    ap (λ (left : List (Bor (List ℕ))). read_calls F (map (λ name. name.now) left)) (drop_all i names le) in
    let all : read_calls F (map (λ name. name.now) names) ≡ reads (take i names) = splits ∙ ap (λ (c : List Call). reads (take i names) ++ c) none
    ∙ append-nil (reads (take i names)) in
    subst (λ (calls : List Call). Becomes (with_calls calls) old new) (sym all) before

-- a read that gives no bytes, after those that did
pub calls_cut : (F : FileMap) (files : Option FileMap) (names : List (Bor (List ℕ))) (i : ℕ) (e : HostErr) (old mid new : Option (List Made)) → i < length names
    → SplitsAt F names i → Becomes (with_calls (reads (take i names))) old mid
    → Makes {T = ℕ} (read_call (get_or names i no_name).now) mid new (Err e) → files ≡ Some F → ReadErr files (get_or names i no_name).now e
    → MakesCalls (read_calls F (map (λ name. name.now) names)) old new (answer_way {T = ℕ} (Err e))
calls_cut F files names i Failed old mid new lt splits before one told answer =
    let here = read_call (get_or names i no_name).now in
    let others = after_read (get F (get_or names i no_name).now) (read_calls F (map (λ name. name.now) (drop (suc i) names))) in
    subst (λ (calls : List Call). MakesCalls calls old new to_fault) (sym (splits ∙ ap (λ (c : List Call). reads (take i names) ++ c) (left_at F names i lt)))
    (made_after (reads (take i names)) (here ∷ others) old mid new to_fault before
    (fault_before (here ∷ []) others mid new (one_made {T = ℕ} here mid new (Err Failed) one)))
calls_cut F files names i TooLarge old mid new lt splits before one told answer =
    let here = read_call (get_or names i no_name).now in
    let more = read_calls F (map (λ name. name.now) (drop (suc i) names)) in
    let long = answer F told in
    let last : read_calls F (map (λ name. name.now) (drop i names)) ≡ here ∷ [] = left_at F names i lt
    ∙ ap (λ (o : Option (List ℕ)). here ∷ after_read o more) long.1 ∙ ap (λ (c : List Call). here ∷ c) (after_read-too_large long.0 more long.2) in
    subst (λ (calls : List Call). MakesCalls calls old new to_end) (sym (splits ∙ ap (λ (c : List Call). reads (take i names) ++ c) last))
    (made_after (reads (take i names)) (here ∷ []) old mid new to_end before one)
calls_cut F files names i OutOfMemory old mid new lt splits before one told answer =
    let here = read_call (get_or names i no_name).now in
    let others = after_read (get F (get_or names i no_name).now) (read_calls F (map (λ name. name.now) (drop (suc i) names))) in
    subst (λ (calls : List Call). MakesCalls calls old new to_memory) (sym (splits ∙ ap (λ (c : List Call). reads (take i names) ++ c) (left_at F names i lt)))
    (made_after (reads (take i names)) (here ∷ others) old mid new to_memory before
    (memory_before (here ∷ []) others mid new (one_made {T = ℕ} here mid new (Err OutOfMemory) one)))

-- memory ran out after these reads
pub calls_lost : (F : FileMap) (names : List (Bor (List ℕ))) (i : ℕ) (old new : Option (List Made)) → SplitsAt F names i
    → Becomes (with_calls (reads (take i names))) old new
    → MakesCalls (read_calls F (map (λ name. name.now) names)) old new to_memory
calls_lost F names i old new splits before =
    inr (λ made is. (
      with_calls (reads (take i names)) made,
      before made is,
      record { done = reads (take i names); left = read_calls F (map (λ name. name.now) (drop i names)); parts_are = splits; made_are = refl },
    ))

-- what the reads gave goes on with one more
pub next_told : (F : FileMap) (before : List (List ℕ)) (names : List (Bor (List ℕ))) (i : ℕ) (bytes : List ℕ) → i < length names
    → get F (get_or names i no_name).now ≡ Some bytes → length bytes ≤ longest
    → after_contents before (reading_of F (map (λ name. name.now) (drop i names)))
    ≡ after_contents (before ++ bytes ∷ []) (reading_of F (map (λ name. name.now) (drop (i + 1) names)))
next_told F before names i bytes lt is fits =
    let one : i + 1 ≡ suc i = omega arith in
    ap (λ (left : List (Bor (List ℕ))). after_contents before (reading_of F (map (λ name. name.now) left))) (drop-cons names i no_name lt)
    ∙ reading_of-read F before (get_or names i no_name).now bytes (map (λ name. name.now) (drop (suc i) names)) is fits
    ∙ ap (λ (k : ℕ). after_contents (before ++ bytes ∷ []) (reading_of F (map (λ name. name.now) (drop k names)))) (sym one)
