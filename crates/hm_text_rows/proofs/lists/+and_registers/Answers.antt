use Rattle.std.proofs.Common.{rules, ◌<◌, ◌≡◌, ◌++◌, ◌∷◌, [], ℕ, List, length, ap, arith, sym, ◌∙◌}
use Rattle.hm_text_rows.specs.Shapes.{listed, r}
use Rattle.hm_text_rows.proofs.Registers.{left_out, taken_count, taken_more}
use Rattle.hm_tokens.specs.Marks.{mark_byte}
use Rattle.hm_tokens.specs.Texts.{text_tokens}
use Rattle.hm_tokens.specs.Tokens.{Tok, mark}
use Rattle.hm_text_rows.proofs.lists.+and_registers.Goals as goal

pub and_registers-requires : goal.and_registers-requires
and_registers-requires t c =
    let some : 0 < c.args.n = omega (arith, c.if-n-eq0.false) in
    let below = c.requires.below in
    let out = left_out (mark_byte c.args.before) c.args.k c.args.n c.args.list some (sym c.is_listed.ensures ∙ c.if-not-is_listed.true) in
    let same = ap (λ (ks : List ℕ). length (listed (mark (mark_byte c.args.before)) ks)) out in
    let room = c.requires.room in
    (search rules, (omega (arith, some, below), omega (arith, same, room)))

pub and_registers-requires-2 : goal.and_registers-requires-2
and_registers-requires-2 t c =
    let some : 0 < c.args.n = omega (arith, c.if-n-eq0.false) in
    let below = c.requires.below in
    let count = taken_count (mark_byte c.args.before) c.args.k c.args.n c.args.list some (sym c.is_listed.ensures ∙ c.if-not-is_listed.false) in
    let room = c.requires.room in
    let first = c.marked.ensures.room in
    let second = c.with.ensures.room in
    (search rules, (omega (arith, some, below), omega (arith, count, room, first, second)))

pub returns-clause-tokens : goal.returns-clause-tokens
returns-clause-tokens t c =
    let some : 0 < c.args.n = omega (arith, c.if-n-eq0.false) in
    let register : text_tokens c.with.result ≡ text_tokens c.marked.result ++ r c.args.k ∷ [] = c.with.ensures.tokens
    ∙ ap (λ (x : Tok). text_tokens c.marked.result ++ x ∷ []) c.r.ensures in
    taken_more (text_tokens c.args.text) (text_tokens c.marked.result) (text_tokens c.with.result) (text_tokens c.and_registers-2.result)
    (mark_byte c.args.before) c.args.k c.args.n c.args.list some (sym c.is_listed.ensures ∙ c.if-not-is_listed.false) c.marked.ensures.tokens register
    c.and_registers-2.ensures.tokens

pub returns-clause-room : goal.returns-clause-room
returns-clause-room t c =
    let some : 0 < c.args.n = omega (arith, c.if-n-eq0.false) in
    let count = taken_count (mark_byte c.args.before) c.args.k c.args.n c.args.list some (sym c.is_listed.ensures ∙ c.if-not-is_listed.false) in
    let first = c.marked.ensures.room in
    let second = c.with.ensures.room in
    let all = c.and_registers-2.ensures.room in
    omega (arith, count, first, second, all)
