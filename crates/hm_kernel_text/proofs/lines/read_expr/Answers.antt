use Rattle.hm_kernel_text.specs.Words.{words_behind}
use Rattle.hm_kernel_text.specs.Held.{tree_of}
use Rattle.hm_kernel_text.proofs.TreeSteps.{seen, seen_none, is_expression, is_some_expression}
use Rattle.hm_kernel_text.proofs.lines.read_expr.Goals as goal

pub unreachable-requires : goal.unreachable-requires
unreachable-requires c = is_some_expression 64 (words_behind c.args.text.now) c.requires.few (seen_none _ _ _ c.in_ok-tree.ensures.value c.in-None.is)

pub returns : goal.returns
returns c = record {
  tree = is_expression 64 (words_behind c.args.text.now) (tree_of c.in-Some.tree) (words_behind c.in-Some._rest.now) c.requires.few
      (seen _ _ _ _ c.in_ok-tree.ensures.value c.in-Some.is);
}
