-- `stream::listing::listing` meets its contract.
use Rattle.stream.proofs.Law.Listing.Lines.{whole}
use native.Mathlib.Omega.{arith}
use Rattle.stream.proofs.listing.listing.Goals as goal

pub returns : goal.returns
returns c =
    let text = whole c.put_listing.ensures in record { value = text.0; text_after = text.1; upper_bound = omega (arith, c.put_listing.ensures.room, c.put_listing.auto.text) }
