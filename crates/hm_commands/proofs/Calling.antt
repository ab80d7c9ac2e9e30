-- Calls that are made one after another.
use Rattle.std.proofs.Common.{◌≡◌, List, [], ◌∷◌, ◌++◌, map, Option, Some, None, Result, Ok, Err, refl, sym, ap, ◌∙◌, inl, inr, append_assoc}
use Rattle.std.proofs.lemmas.List.{append-nil, map-append}
use Rattle.hm_host.specs.Host.{Call, Made, answered, failed, Becomes, Makes}
use Rattle.hm_host.specs.declared.host.HostErr.{HostErr}
use Rattle.hm_host.specs.declared.host.HostErr.TheVariants.{Failed, TooLarge, OutOfMemory}
use Rattle.hm_commands.specs.Calls.{with_calls, MadeSome, MadeToFault, Way, to_end, to_fault, to_memory, answer_way, MakesCalls, MakesAll}

with_calls-append : (a b : List Call) (made : List Made) → with_calls (a ++ b) made ≡ with_calls b (with_calls a made)
with_calls-append a b made = ap (λ (m : List Made). made ++ m) (map-append answered a b) ∙ sym (append_assoc made (map answered a) (map answered b))

-- no call was made, and memory ran out
pub none_made : (calls : List Call) (told : Option (List Made)) → MakesCalls calls told told to_memory
none_made calls told = inr (λ made is. (made, is, record { done = []; left = calls; parts_are = refl; made_are = sym (append-nil made) }))

-- one call
pub one_made : {T : Type 0} (call : Call) (old new : Option (List Made)) (result : Result T HostErr) → Makes call old new result
    → MakesCalls (call ∷ []) old new (answer_way result)
one_made call old new (Ok x) h = h
one_made call old new (Err Failed) h =
    λ made is. (
      made ++ failed call ∷ [],
      h made is,
      record { done = []; last = call; left = []; parts_are = refl; made_are = ap (λ (m : List Made). m ++ failed call ∷ []) (sym (append-nil made)) },
    )
one_made call old new (Err TooLarge) h = h
one_made call old new (Err OutOfMemory) h = elim h [
  | inl untold ↦ inl untold
  | inr told ↦ inr (λ made is. (made ++ answered call ∷ [], told made is, record { done = call ∷ []; left = []; parts_are = refl; made_are = refl }))
]

-- one call, in which memory ran out
pub one_spent : {T : Type 0} (call : Call) (old new : Option (List Made)) (result : Result T HostErr) → Makes call old new result → result ≡ Err OutOfMemory
    → MakesAll (call ∷ []) old new
one_spent call old new (Ok x) h is = absurd cc
one_spent call old new (Err Failed) h is = absurd cc
one_spent call old new (Err TooLarge) h is = absurd cc
one_spent call old new (Err OutOfMemory) h is = λ made all told still. elim h [
  | inl untold ↦ (let no : None ≡ Some all = sym untold ∙ still in absurd cc)
  | inr becomes ↦ (let same : Some all ≡ Some (made ++ answered call ∷ []) = sym still ∙ becomes made told in let one : all ≡ made ++ answered call ∷ [] = cc in
      one)
]

-- all the first calls were made, and all the rest
pub all_after : (first rest : List Call) (old mid new : Option (List Made)) → Becomes (with_calls first) old mid → MakesAll rest mid new
    → MakesAll (first ++ rest) old new
all_after first rest old mid new before h = λ made all told still. h (with_calls first made) all (before made told) still
    ∙ sym (with_calls-append first rest made)

some_after : (first rest : List Call) (old mid new : List Made) → mid ≡ with_calls first old → MadeSome rest mid new → MadeSome (first ++ rest) old new
some_after first rest old mid new is h = record {
  done = first ++ h.done;
  left = h.left;
  parts_are = ap (λ (c : List Call). first ++ c) h.parts_are ∙ sym (append_assoc first h.done h.left);
  made_are = h.made_are ∙ ap (with_calls h.done) is ∙ sym (with_calls-append first h.done old);
}

fault_after : (first rest : List Call) (old mid new : List Made) → mid ≡ with_calls first old → MadeToFault rest mid new → MadeToFault (first ++ rest) old new
fault_after first rest old mid new is h = record {
  done = first ++ h.done;
  last = h.last;
  left = h.left;
  parts_are = ap (λ (c : List Call). first ++ c) h.parts_are ∙ sym (append_assoc first h.done (h.last ∷ h.left));
  made_are = h.made_are ∙ ap (λ (m : List Made). m ++ failed h.last ∷ []) (ap (with_calls h.done) is ∙ sym (with_calls-append first h.done old));
}

-- the first calls were made to the end, and then the rest
pub made_after : (first rest : List Call) (old mid new : Option (List Made)) (way : Way) → Becomes (with_calls first) old mid → MakesCalls rest mid new way
    → MakesCalls (first ++ rest) old new way
made_after first rest old mid new to_end before h = λ made is. h (with_calls first made) (before made is) ∙ ap Some (sym (with_calls-append first rest made))
made_after first rest old mid new to_fault before h = λ made is.
    let t = h (with_calls first made) (before made is) in
    (t.0, t.1, fault_after first rest made (with_calls first made) t.0 refl t.2)
made_after first rest old mid new to_memory before h = elim h [
  | inl untold ↦ inl untold
  | inr told ↦ inr (λ made is. let t = told (with_calls first made) (before made is) in
      (t.0, t.1, some_after first rest made (with_calls first made) t.0 refl t.2))
]

-- the first calls were cut short
pub fault_before : (first rest : List Call) (old new : Option (List Made)) → MakesCalls first old new to_fault → MakesCalls (first ++ rest) old new to_fault
fault_before first rest old new h = λ made is.
    let t = h made is in (
      t.0,
      t.1,
      record {
        done = t.2.done;
        last = t.2.last;
        left = t.2.left ++ rest;
        parts_are = ap (λ (c : List Call). c ++ rest) t.2.parts_are
            ∙ append_assoc t.2.done (t.2.last ∷ t.2.left) rest;
        made_are = t.2.made_are;
      },
    )

pub memory_before : (first rest : List Call) (old new : Option (List Made)) → MakesCalls first old new to_memory → MakesCalls (first ++ rest) old new to_memory
memory_before first rest old new h = elim h [
  | inl untold ↦ inl untold
  | inr told ↦ inr (λ made is. let t = told made is in (
    t.0,
    t.1,
    record {
      done = t.2.done;
      left = t.2.left ++ rest;
      parts_are = ap (λ (c : List Call). c ++ rest) t.2.parts_are
          ∙ append_assoc t.2.done t.2.left rest;
      made_are = t.2.made_are;
    },
  ))
]
