-- `stream::listing::put_digit` meets its contract.
use Rattle.stream.specs.Listing.{digit}
use Rattle.stream.proofs.listing.put_digit.Goals as goal

pub returns : goal.returns
unfolding digit
returns c = c.put_byte.ensures
