use Rattle.std.proofs.Common.{◌≡◌, ◌-◌, ◌++◌, ◌∷◌, [], ℕ, List, Some, None, get_or, length, drop, take, sym, ap, ◌∙◌, rules}
use Rattle.std.proofs.lemmas.List.{take_rest}
use Rattle.hm_ihex.specs.Records.{byte_in, bytes_in}
use Rattle.hm_ihex.proofs.Loops.{behind, bytes_none, bytes_more, bytes_end, bytes_alone}
use Rattle.hm_ihex.proofs.record.read_bytes.Goals as goal

pub returns-in_default : goal.returns-in_default
returns-in_default c =
    let is : None ≡ byte_in (get_or c.loop-rest.rest.now 0 0) (get_or c.loop-rest.rest.now 1 0) = search rules in
    record { value = sym (bytes_none c.loop-rest.bytes.items c.loop-rest.rest.now c.loop-rest-test.true is) ∙ c.loop-rest.invariant }

pub loop-rest-preserved : goal.loop-rest-preserved
loop-rest-preserved c =
    let is : Some c.in-Some.byte ≡ byte_in (get_or c.loop-rest.rest.now 0 0) (get_or c.loop-rest.rest.now 1 0) = search rules in
    let pushed : c.push.new.self.items ≡ c.loop-rest.bytes.items ++ c.in-Some.byte ∷ [] = search rules in
    let rest = c.loop-rest.rest.now in
    ap (λ (xs : List ℕ). behind xs (bytes_in (take (length rest - 2) (drop 2 rest)))) pushed
    ∙ ap (λ (r : List ℕ). behind (c.loop-rest.bytes.items ++ c.in-Some.byte ∷ []) (bytes_in r)) (take_rest rest 2)
    ∙ sym (bytes_more c.loop-rest.bytes.items rest c.in-Some.byte c.loop-rest-test.true is) ∙ c.loop-rest.invariant

pub returns-then-is_empty : goal.returns-then-is_empty
returns-then-is_empty c = record { value = sym (bytes_end c.loop-rest.bytes.items c.loop-rest.rest.now (search rules)) ∙ c.loop-rest.invariant }

pub returns-else-is_empty : goal.returns-else-is_empty
returns-else-is_empty c =
    let one : length c.loop-rest.rest.now ≡ 1 = search rules in
    record { value = sym (bytes_alone c.loop-rest.bytes.items c.loop-rest.rest.now one) ∙ c.loop-rest.invariant }
