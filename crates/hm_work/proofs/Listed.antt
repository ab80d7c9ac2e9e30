-- Listings of the flash of each image.
use Rattle.std.proofs.Common.{List}
use Rattle.hm_base.specs.Image.{Segment, flash_byte}
use Rattle.hm_codes.specs.Listing.{Listing}
use Rattle.hm_codes.proofs.Exists.{exists}
use Rattle.hm_work.specs.Commands.{AreListings}

pub some_listings : (listings : List Segment → Listing) × AreListings listings
some_listings = ((λ image. (exists (flash_byte image)).0), record { at = λ image. (exists (flash_byte image)).1 })
