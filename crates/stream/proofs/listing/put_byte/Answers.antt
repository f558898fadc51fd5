-- `stream::listing::put_byte` meets its contract.
use Rattle.stream.proofs.Law.Listing.Text.{one_byte}
use Rattle.stream.proofs.listing.put_byte.Goals as goal

pub returns : goal.returns
returns c = one_byte c.args.b c.args.at c.args.text.now c.requires
