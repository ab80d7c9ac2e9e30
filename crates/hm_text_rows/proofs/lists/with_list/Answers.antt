use Rattle.std.proofs.Common.{◌≤◌, ◌++◌, ◌∷◌, [], ℕ, List, length, ap, arith, subst, sym, ◌∙◌, append_assoc}
use Rattle.hm_text_rows.specs.Shapes.{listed, registers_from}
use Rattle.hm_text_rows.proofs.Registers.{room_left}
use Rattle.hm_tokens.specs.Texts.{text_tokens}
use Rattle.hm_tokens.specs.Tokens.{Tok, close_brace, open_brace}
use Rattle.hm_text_rows.proofs.lists.with_list.Goals as goal

pub and_registers-requires : goal.and_registers-requires
and_registers-requires c = record { below = omega arith; room = room_left (length c.args.text.operands.items) c.args.list c.requires.room c.requires.few }

pub marked-requires : goal.marked-requires
marked-requires c = subst (λ (n : ℕ). n ≤ 38) (sym c.and_registers.ensures.room)
    (room_left (length c.args.text.operands.items) c.args.list c.requires.room c.requires.few)

pub returns : goal.returns
returns c =
    c.marked.ensures.tokens ∙ ap (λ (ts : List Tok). ts ++ close_brace ∷ []) c.and_registers.ensures.tokens
    ∙ append_assoc (text_tokens c.args.text) (listed open_brace (registers_from 16 0 c.args.list)) (close_brace ∷ [])
