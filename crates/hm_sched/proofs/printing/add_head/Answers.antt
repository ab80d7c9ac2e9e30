use Rattle.std.proofs.Common.{◌≡◌, ℕ, List, ◌++◌, subst}
use Rattle.std.specs.Prelude.{IfOk}
use Rattle.std.specs.List.{flat_map}
use Rattle.hm_text_base.specs.Spans.{line}
use Rattle.hm_sched.specs.Written.{header_text, entries_text, region_text, floor_text, process_lines, head_lines}
use Rattle.hm_sched.proofs.PrintLaws.{head_grouped}
use Rattle.hm_sched.proofs.printing.add_head.Goals as goal

pub returns : goal.returns
returns c =
    let parts : c.add_address.new.out.items ++ flat_map line (process_lines c.args.s.now.format c.args.s.now.process)
    ≡ c.args.out.now.items ++ flat_map line (head_lines c.args.s.now) =
    rw (c.in_ok-add_address.ensures, c.in_ok-add_region.ensures, c.in_ok-add_entries.ensures, c.in_ok-add_header.ensures)
    (rw (← c.s.view_is) (head_grouped c.args.out.now.items (line (header_text c.s.inside.format)) (line (entries_text c.s.inside.entries))
    (line (region_text c.s.inside.lo c.s.inside.hi)) (line (floor_text c.s.inside.floor))
    (flat_map line (process_lines c.s.inside.format c.s.inside.process)))) in
    subst (λ (x : List ℕ). IfOk c.add_process.result (λ _. c.add_process.new.out.items ≡ x)) parts (rw (← c.s.view_is) c.add_process.ensures)
