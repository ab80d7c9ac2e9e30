use Rattle.hm_kernel.proofs.Joined.{is_compiled}
use Rattle.hm_kernel.proofs.compile.Goals as goal

pub returns-clause-found : goal.returns-clause-found
returns-clause-found c = record {
  text = c.in_ok-x.x;
  says = c.in_ok-x.ensures.found;
  compiled = is_compiled c.in_ok-x.x c.in_ok-image_of.field-0 c.in_ok-x.ensures.sound c.in_ok-image_of.ensures.made;
}
