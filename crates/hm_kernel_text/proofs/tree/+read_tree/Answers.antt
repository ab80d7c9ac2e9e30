use Rattle.std.proofs.Common.{◌∙◌, sym, rules}
use Rattle.hm_kernel_text.specs.Words.{words_behind}
use Rattle.hm_kernel_text.specs.Held.{tree_of}
use Rattle.hm_kernel_text.proofs.TreeSteps.{seen, seen_none, at_zero, at_end, at_leaf, at_no_op, at_no_left, at_no_right, at_apply}
use Rattle.hm_kernel_text.proofs.tree.+read_tree.Goals as goal

pub returns-then-deep-eq0 : goal.returns-then-deep-eq0
returns-then-deep-eq0 t c = record { value = at_zero c.args.deep (words_behind c.args.text.now) (search rules) }

pub returns-then-is_empty : goal.returns-then-is_empty
returns-then-is_empty t c = record { value = at_end c.args.deep c.args.text.now (search rules) }

pub returns-then-not-opens : goal.returns-then-not-opens
returns-then-not-opens t c = record {
  value = at_leaf c.args.deep (words_behind c.args.text.now) c.next_word.result.0.now c.span.result.0.now c.span.result.1.now
      (words_behind c.next_word.result.1.now) (search rules) c.next_word.ensures.words (search rules) c.span.ensures.parts;
}

pub returns-in_default : goal.returns-in_default
returns-in_default t c = record {
  value = at_no_op c.args.deep (words_behind c.args.text.now) c.next_word.result.0.now (words_behind c.next_word.result.1.now) (search rules)
      c.next_word.ensures.words (search rules) (sym c.in_default.is ∙ c.read_op.ensures.value);
}

pub returns-in_default-2 : goal.returns-in_default-2
returns-in_default-2 t c = record {
  value = at_no_left c.args.deep (words_behind c.args.text.now) c.next_word.result.0.now (words_behind c.next_word.result.1.now) c.in-Some.op (search rules)
      c.next_word.ensures.words (search rules) (sym c.in-Some.is ∙ c.read_op.ensures.value)
      (seen_none _ _ _ c.in_ok-left.ensures.value c.in_default-2.is);
}

pub returns-in_default-3 : goal.returns-in_default-3
returns-in_default-3 t c = record {
  value = at_no_right c.args.deep (words_behind c.args.text.now) c.next_word.result.0.now (words_behind c.next_word.result.1.now) c.in-Some.op
      (tree_of c.in-Some-2.left) (words_behind c.in-Some-2.behind_left.now) (search rules) c.next_word.ensures.words (search rules)
      (sym c.in-Some.is ∙ c.read_op.ensures.value)
      (seen _ _ _ _ c.in_ok-left.ensures.value c.in-Some-2.is) (seen_none _ _ _ c.in_ok-right.ensures.value c.in_default-3.is);
}

pub returns : goal.returns
returns t c =
    rw c.in_ok-tree.ensures.tree (record {
      value = at_apply c.args.deep (words_behind c.args.text.now) c.next_word.result.0.now (words_behind c.next_word.result.1.now) c.in-Some.op
          (tree_of c.in-Some-2.left) (tree_of c.in-Some-3.right) (words_behind c.in-Some-2.behind_left.now) (words_behind c.in-Some-3.behind_right.now)
          (search rules) c.next_word.ensures.words (search rules) (sym c.in-Some.is ∙ c.read_op.ensures.value)
          (seen _ _ _ _ c.in_ok-left.ensures.value c.in-Some-2.is) (seen _ _ _ _ c.in_ok-right.ensures.value c.in-Some-3.is);
    })
