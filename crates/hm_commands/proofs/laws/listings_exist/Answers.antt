use Rattle.hm_work.proofs.Listed.{some_listings}
use Rattle.hm_commands.proofs.laws.listings_exist.Goals as goal

pub returns : goal.returns
returns c = some_listings
