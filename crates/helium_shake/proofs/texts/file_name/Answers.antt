use Rattle.std.proofs.Common.{◌≡◌, ◌++◌, ◌∙◌, List, ℕ, ap, false, subst, sym, true}
use Rattle.std.specs.Str.{IsUtf8}
use Rattle.helium_shake.proofs.Names.{name_is_text}
use Rattle.helium_shake.specs.Texts.{file_name}
use Rattle.helium_shake.proofs.texts.file_name.Goals as goal

pub unreachable-requires : goal.unreachable-requires
unreachable-requires c =
    let name : c.add_file_name.new.out.items ≡ file_name c.args.schedule.now c.args.kind =
    c.in_ok-add_file_name.ensures.added ∙ ap (λ (out : List ℕ). out ++ file_name c.args.schedule.now c.args.kind) c.new-name.ensures.items in
    let no : false ≡ true = c.in-Err.ensures.succeeds (subst IsUtf8 (sym name) (name_is_text c.args.schedule.now c.args.kind c.utf8.schedule)) in
    absurd cc
