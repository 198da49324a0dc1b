use Rattle.beldi_invariant.proofs.Listing.{listing_plain}
use Rattle.beldi_invariant.proofs.laws.listing_is_plain.Goals as goal

pub returns : goal.returns
returns c = listing_plain
