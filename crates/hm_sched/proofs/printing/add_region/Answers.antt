use Rattle.std.proofs.Common.{◌≡◌, ℕ, List, [], ◌∷◌, ◌++◌, subst}
use Rattle.std.specs.Prelude.{IfOk, codes}
use Rattle.hm_text_base.specs.Texts.{hex8}
use Rattle.hm_text_base.specs.Spans.{line}
use Rattle.hm_sched.specs.Written.{region_text}
use Rattle.hm_sched.proofs.PrintLaws.{region_grouped}
use Rattle.hm_sched.proofs.printing.add_region.Goals as goal

pub returns : goal.returns
returns c =
    let parts : c.hex8-2.new.out.items ++ 10 ∷ [] ≡ c.args.out.now.items ++ line (region_text c.args.lo c.args.hi) =
    rw (c.in_ok-hex8-2.ensures, c.in_ok-text-2.ensures, c.in_ok-hex8.ensures, c.in_ok-text.ensures)
    (region_grouped c.args.out.now.items (codes "region ") (hex8 c.args.lo) (32 ∷ []) (hex8 c.args.hi) (10 ∷ [])) in
    subst (λ (x : List ℕ). IfOk c.text-3.result (λ _. c.text-3.new.out.items ≡ x)) parts c.text-3.ensures
