use Rattle.hm_debug.proofs.Reading.{as_read, listing_read}
use Rattle.hm_debug.proofs.command.read_listing.Goals as goal

pub returns-in_err-addr : goal.returns-in_err-addr
returns-in_err-addr c = record
    { read = as_read _ _ _ (listing_read c.args.text.now _ c.in_err-addr.ensures.reads c.in_err-addr.ensures.finds) c.from_residual.ensures }

pub returns : goal.returns
returns c = record { read = listing_read c.args.text.now _ c.in_ok-addr.ensures.reads c.in_ok-addr.ensures.finds }
