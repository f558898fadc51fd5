-- `stream::listing::put_labelled` meets its contract.
use native.Mathlib.Omega.{arith}
use Rattle.stream.specs.Listing.{labelled}
use Rattle.stream.proofs.Law.Listing.Text.{twenty, and_then}
use Rattle.stream.proofs.listing.put_labelled.Goals as goal

pub put_number-requires : goal.put_number-requires
put_number-requires c =
    let start = c.before in
    omega (arith, twenty start.args.n start.ranges.n.fits)

pub returns : goal.returns
unfolding labelled
returns c =
    let at-put-number = c.before.before.before in
    let at-put-text = at-put-number.before.before.before.before in
    let start = at-put-text.before.before.before.before in record { appends = and_then at-put-text.put_text-next.ensures at-put-number.put_number.ensures; upper_bound = omega (arith, twenty start.args.n start.ranges.n.fits) }
