use Rattle.std.proofs.Common.{◌≢◌, length, string_bytes, sym, rules}
use Rattle.hm_words.proofs.Forms.{no_migrate}
use Rattle.hm_words.proofs.words.migrate_command.Goals as goal

pub returns-in_default : goal.returns-in_default
returns-in_default c =
    let other : length c.args.words.now ≢ 4 = search rules in
    record { value = sym (no_migrate string_bytes c.args.words.now other) }
