use Rattle.std.proofs.Common.{rules}
use Rattle.hm_exc.proofs.Listed.{dropped}
use Rattle.hm_exc.proofs.exit.drop_newest.Goals as goal

pub returns : goal.returns
returns c = record { value = λ x rest e. dropped c.args.acts.now.items c.requires.some c.truncate.new.self.items x rest (search rules) e }
