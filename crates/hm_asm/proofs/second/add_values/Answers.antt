use Rattle.std.proofs.Common.{◌≡◌, ℕ, List, ◌∷◌, Some, None, refl, sym, ap, subst, ◌∙◌}
use Rattle.std.specs.FinMap.{get}
use Rattle.hm_line.specs.Texts.{column}
use Rattle.hm_line.specs.declared.errors.AsmKind.TheVariants as kinds
use Rattle.hm_tokens.specs.Tokens.{skip}
use Rattle.hm_source.specs.Directives.{Directed, Datum, Fits, datum_tokens, values}
use Rattle.hm_line.specs.Fronts.{AreFront}
use Rattle.hm_source.specs.Shown.{datum}
use Rattle.hm_source.specs.Statements.{directive}
use Rattle.hm_source.proofs.Listed.{EndsAt, listed_behind, listed_first}
use Rattle.hm_asm.specs.Making.{Made, place_of, with_bytes}
use Rattle.hm_asm.specs.Refusals.{IsSaidErr}
use Rattle.hm_asm.specs.SecondPass.{AreAsked, number_of}
use Rattle.hm_asm.proofs.Lists.{Left, last_left, left_all, left_alone, next_left, none_left, ready_list, ready_room, room_one, shown_list}
use Rattle.hm_asm.proofs.Operands.{operand_le}
use Rattle.hm_asm.proofs.Steps.{no_error, said_err}
use Rattle.hm_asm.proofs.second.add_values.Goals as goal
use Rattle.hm_asm.proofs.second.add_values.Goals.{In-Some}

pub loop-item-init : goal.loop-item-init
loop-item-init c = record {
  left = λ d ds shows.
      left_all c.args.line.now.parts.instruction.now (get c.args.labels.now) c.args.values.now.size c.args.values.now.list.now c.args.out.now d ds shows.2
      shows.3
      (ready_room c.args.line.now.parts.instruction.now c.args.values.now (place_of c.args.out.now) d ds c.requires.ready shows);
}

-- the item that was read is the first value, and ends where that ends
module _ (c : In-Some) (old : Made) (all : List Datum)
    (l : Left c.args.line.now.parts.instruction.now (get c.args.labels.now) c.args.values.now.size c.loop-item.rest.now old c.loop-item.out all) where
  read : (datum c.in-Some.item ≡ l.d) × AreFront c.loop-item.rest.now (datum_tokens l.d) c.in-Some.behind.now
  read =
      let first = listed_first c.args.values.now.size c.loop-item.rest.now l.d l.ds l.listed in
      let is = c.in-Some.ensures.only l.d first.mid first.front first.ends in
      (is.0, subst (λ (x : List ℕ). AreFront c.loop-item.rest.now (datum_tokens l.d) x) (sym is.1) first.front)

  fits : Fits c.args.values.now.size (datum c.in-Some.item)
  fits =
      let first = listed_first c.args.values.now.size c.loop-item.rest.now l.d l.ds l.listed in
      subst (λ (x : Datum). Fits c.args.values.now.size x) (sym read.0) first.fits

ends : (c : In-Some) → EndsAt c.loop-item.rest.now c.in-Some.behind.now
ends c = λ d rest front end. (c.in-Some.ensures.only d rest front end).1

pub number_of-requires : goal.number_of-requires
number_of-requires c =
    let r = ready_list c.args.line.now.parts.instruction.now c.args.values.now (place_of c.args.out.now) c.requires.ready in
    record { fits = fits (goal.at.number_of-requires c).In-Some c.args.out.now (r.d ∷ r.ds) (c.loop-item.invariant.left r.d r.ds r.shows) }

pub missing-requires-clause-within : goal.missing-requires-clause-within
missing-requires-clause-within c =
    let r = ready_list c.args.line.now.parts.instruction.now c.args.values.now (place_of c.args.out.now) c.requires.ready in
    let l = c.loop-item.invariant.left r.d r.ds r.shows in
    operand_le c.args.line.now.parts.instruction.now c.loop-item.rest.now l.done l.operand

pub returns-in_default-number_of-clause-refused : goal.returns-in_default-number_of-clause-refused
returns-in_default-number_of-clause-refused c =
    λ a shows.
    (let text = c.args.line.now.parts.instruction.now in
    let labels = get c.args.labels.now in
    let size = c.args.values.now.size in
    let r = shown_list text c.args.values.now a shows in
    let l = c.loop-item.invariant.left r.d r.ds r.shows in
    let first = read (goal.at.returns-in_default-number_of-clause-refused c).In-Some c.args.out.now (r.d ∷ r.ds) l in
    let none : number_of labels size l.d ≡ None = ap (λ (x : Datum). number_of labels size x) (sym first.0) ∙ sym c.number_of.ensures.value
    ∙ c.in_default-number_of.is in
    subst (λ (x : Directed). IsSaidErr labels (place_of c.args.out.now) text c.args.line.now.parts.column c.args.number (directive x) c.refused.result)
    (sym r.asks)
    (said_err labels (place_of c.args.out.now) text c.args.line.now.parts.column c.args.number (directive (values size r.d r.ds)) c.refused.result
    (record { column = column text (skip c.loop-item.rest.now); kind = kinds.Missing }) c.missing.result c.refused.ensures.told c.missing.ensures.kind
    c.missing.ensures.column
    (none_left text labels size c.loop-item.rest.now c.args.out.now c.loop-item.out (r.d ∷ r.ds) l r.d r.ds refl none)))

pub add_number-requires : goal.add_number-requires
add_number-requires c =
    let r = ready_list c.args.line.now.parts.instruction.now c.args.values.now (place_of c.args.out.now) c.requires.ready in
    record {
      room = room_one c.args.line.now.parts.instruction.now (get c.args.labels.now) c.args.values.now.size c.loop-item.rest.now c.args.out.now c.loop-item.out
          (r.d ∷ r.ds) (c.loop-item.invariant.left r.d r.ds r.shows);
    }

pub loop-item-preserved : goal.loop-item-preserved
loop-item-preserved c = record {
  left = λ d ds shows.
      (let text = c.args.line.now.parts.instruction.now in
      let labels = get c.args.labels.now in
      let size = c.args.values.now.size in
      let l = c.loop-item.invariant.left d ds shows in
      let first = read (goal.at.loop-item-preserved c).In-Some c.args.out.now (d ∷ ds) l in
      let number : number_of labels size l.d ≡ Some c.in-Some-number_of.value = ap (λ (x : Datum). number_of labels size x) (sym first.0)
      ∙ sym c.number_of.ensures.value ∙ c.in-Some-number_of.is in
      let added = no_error c.add_number.result _ (sym c.is_err.ensures.value ∙ c.if-is_err.false) c.add_number.ensures.added in
      let others = listed_behind size c.loop-item.rest.now c.in-Some.behind.now c.in-Some-behind_mark.more.now l.d l.ds
      (ends (goal.at.loop-item-preserved c).In-Some) c.in-Some-behind_mark.ensures.found l.listed in
      next_left text labels size c.loop-item.rest.now c.args.out.now c.loop-item.out (d ∷ ds) l c.in-Some-number_of.value number c.add_number.new.out added
      c.in-Some.behind.now c.in-Some-behind_mark.more.now others.e others.es first.1
      c.in-Some-behind_mark.ensures.found others.listed others.are);
}

pub returns-in-None-clause-given : goal.returns-in-None-clause-given
returns-in-None-clause-given c =
    λ a shows.
    (let text = c.args.line.now.parts.instruction.now in
    let labels = get c.args.labels.now in
    let size = c.args.values.now.size in
    let r = shown_list text c.args.values.now a shows in
    let l = c.loop-item.invariant.left r.d r.ds r.shows in
    let some = (goal.at.returns-in-None-clause-given c).In-Some in
    let first = read some c.args.out.now (r.d ∷ r.ds) l in
    let number : number_of labels size l.d ≡ Some c.in-Some-number_of.value = ap (λ (x : Datum). number_of labels size x) (sym first.0)
    ∙ sym c.number_of.ensures.value ∙ c.in-Some-number_of.is in
    let added = no_error c.add_number.result _ (sym c.is_err.ensures.value ∙ c.if-is_err.false) c.add_number.ensures.added in
    let alone = left_alone size c.loop-item.rest.now c.in-Some.behind.now l.d l.ds (ends some) (λ more comma. c.in-None.ensures.only more comma) l.listed in
    let last = last_left text labels size c.loop-item.rest.now c.args.out.now c.loop-item.out (r.d ∷ r.ds) l c.in-Some-number_of.value number
    c.add_number.new.out added alone in
    subst (λ (x : Directed). (bs : List ℕ) × AreAsked labels (place_of c.args.out.now) x bs × (c.add_number.new.out ≡ with_bytes c.args.out.now bs))
    (sym r.asks) last)

pub returns-clause-given : goal.returns-clause-given
returns-clause-given c =
    λ a shows.
    (let r = shown_list c.args.line.now.parts.instruction.now c.args.values.now a shows in
    let l = c.loop-item.invariant.left r.d r.ds r.shows in
    let first = listed_first c.args.values.now.size c.loop-item.rest.now l.d l.ds l.listed in
    absurd (c.in_default.ensures.only l.d first.mid first.front first.ends))
