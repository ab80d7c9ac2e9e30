use Rattle.hm_codes.proofs.Exists.{exists}
use Rattle.hm_codes.proofs.Unique.{unique_code, fetched_one}
use Rattle.hm_codes.proofs.one_listing.Goals as goal

pub returns-clause-there : goal.returns-clause-there
returns-clause-there c = exists

pub returns-clause-one : goal.returns-clause-one
returns-clause-one c = fetched_one

pub returns-clause-code_tells : goal.returns-clause-code_tells
returns-clause-code_tells c = unique_code
