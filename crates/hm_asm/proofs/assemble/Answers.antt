use Rattle.std.proofs.Common.{Ok, Err}
use Rattle.hm_asm.proofs.Meeting.{first_meets, only_outcome, second_found, second_meets}
use Rattle.hm_asm.proofs.assemble.Goals as goal

pub returns-in-Ok : goal.returns-in-Ok
returns-in-Ok c =
    let found = second_found c.args.source.now c.in-Ok.labels c.second_pass.result c.in-Ok.ensures.fine c.second_pass.ensures.given in
    let meets = second_meets c.args.source.now c.in-Ok.labels c.second_pass.result c.in-Ok.ensures.fine c.second_pass.ensures.given
    c.second_pass.ensures.refused in
    record {
      found = found;
      only = λ image is. only_outcome c.args.source.now c.second_pass.result (Ok image) meets is;
      cause = meets;
      refused = λ e is. only_outcome c.args.source.now c.second_pass.result (Err e) meets is;
    }

pub returns-in-Err : goal.returns-in-Err
returns-in-Err c =
    let meets = first_meets c.args.source.now c.in-Err.e c.in-Err.ensures.refused in
    record {
      found = tt;
      only = λ image is. only_outcome c.args.source.now (Err c.in-Err.e) (Ok image) meets is;
      cause = meets;
      refused = λ e is. only_outcome c.args.source.now (Err c.in-Err.e) (Err e) meets is;
    }
