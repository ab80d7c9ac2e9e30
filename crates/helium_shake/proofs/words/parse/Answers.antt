use Rattle.std.proofs.Common.{◌≢◌, length, string_bytes, sym, rules}
use Rattle.helium_shake.proofs.Asking.{no_words}
use Rattle.helium_shake.proofs.words.parse.Goals as goal

pub returns-in_default : goal.returns-in_default
returns-in_default c =
    let four : length c.args.words.now ≢ 4 = search rules in
    record { value = sym (no_words string_bytes c.args.words.now four) }
