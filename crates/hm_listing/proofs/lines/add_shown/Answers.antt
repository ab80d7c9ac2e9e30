use Rattle.std.proofs.Common.{◌≡◌, ℕ, ap, List, ◌++◌, ◌∙◌, subst}
use Rattle.std.specs.Prelude.{IfOk}
use Rattle.hm_text_tables.specs.Tables.{printed_text}
use Rattle.hm_listing.specs.Listings.{halves_from, listing_line}
use Rattle.hm_listing.proofs.lines.add_shown.Goals as goal

pub returns : goal.returns
returns c = record {
  added =
      let code = ap (λ (first : ℕ). halves_from first c.second_of.result) c.half_of.ensures.value ∙ c.second_of.ensures.code in
      subst
      (λ (hs : List ℕ). IfOk c.instr_line.result
      (λ _. c.instr_line.new.out.items ≡ c.args.out.now.items ++ listing_line c.args.at hs (printed_text c.args.i.now c.args.at)))
      code
      c.instr_line.ensures.added;
}
