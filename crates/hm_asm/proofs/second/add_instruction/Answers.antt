use Rattle.std.proofs.Common.{◌≡◌, ◌*◌, ℕ, List, length, refl, sym, ap, subst, ◌∙◌}
use Rattle.std.specs.FinMap.{get}
use Rattle.hm_code_bytes.proofs.Bytes.{length_halves}
use Rattle.hm_isa.specs.Code.{halfwords}
use Rattle.hm_source.specs.Places.{HasRoom}
use Rattle.hm_source.specs.Statements.{instruction}
use Rattle.hm_text_tables.specs.Refusals.{IsTextRefused}
use Rattle.hm_text_tables.specs.Texts.{IsTextOf}
use Rattle.hm_text_tables.proofs.Printing.{width_is}
use Rattle.hm_asm.specs.Making.{place_of, with_bytes}
use Rattle.hm_code_bytes.specs.Bytes.{code_bytes}
use Rattle.hm_asm.proofs.Steps.{said_err}
use Rattle.hm_asm.proofs.second.add_instruction.Goals as goal

pub add-requires : goal.add-requires
add-requires c =
    let named = (c.in-Ok.ensures.read c.in-Ok.i).1 refl in
    let width = width_is c.args.line.now.parts.instruction.now c.place.result (get c.args.labels.now) c.in-Ok.i named in
    let size : length c.as_slice.result.now ≡ 2 * length (halfwords c.in-Ok.i) = ap length (c.as_slice.ensures.value ∙ c.code_bytes-code.ensures.bytes)
    ∙ length_halves (halfwords c.in-Ok.i) in
    record { room = subst (λ (n : ℕ). HasRoom (place_of c.args.out.now) n) (sym size) (c.requires.room (2 * length (halfwords c.in-Ok.i)) width) }

pub returns-in_ok-add-in-Ok-clause-given : goal.returns-in_ok-add-in-Ok-clause-given
returns-in_ok-add-in-Ok-clause-given c =
    λ n.
    (let named = subst (λ (a : ℕ). IsTextOf c.args.line.now.parts.instruction.now a (get c.args.labels.now) c.in-Ok.i) c.place.ensures.value
    ((c.in-Ok.ensures.read c.in-Ok.i).1 refl) in (
      code_bytes c.in-Ok.i,
      (c.in-Ok.i, named, refl),
      c.in_ok-add-in-Ok.ensures.added ∙ ap (λ (x : List ℕ). with_bytes c.args.out.now x) (c.as_slice.ensures.value ∙ c.code_bytes-code.ensures.bytes),
    ))

pub returns-in-Err-clause-refused : goal.returns-in-Err-clause-refused
returns-in-Err-clause-refused c =
    λ n.
    said_err (get c.args.labels.now) (place_of c.args.out.now) c.args.line.now.parts.instruction.now c.args.line.now.parts.column c.args.number (instruction n)
    c.refused.result c.in-Err.e c.refusal.result c.refused.ensures.told
    c.refusal.ensures.kind c.refusal.ensures.column
    (subst (λ (a : ℕ). IsTextRefused c.in-Err.e.kind c.args.line.now.parts.instruction.now a (get c.args.labels.now) c.in-Err.e.column) c.place.ensures.value
    ((c.in-Err.ensures.refused c.in-Err.e).1 refl))
