-- `stream::listing::put_signed` meets its contract.
use native.Mathlib.Omega.{arith}
use Rattle.stream.specs.Listing.{minus}
use Rattle.stream.proofs.Law.Listing.Text.{few_digits, and_then, same_piece}
use Rattle.stream.proofs.Law.Listing.Lines.{negative_is, positive_is}
use Rattle.stream.proofs.listing.put_signed.Goals as goal

pub put_number-requires : goal.put_number-requires
put_number-requires c =
    let at-size32 = c.before.before.before.before.before.before in
    omega (arith, few_digits 9 at-size32.size32-size.result (omega (arith, at-size32.size32-size.type_inv)))

pub returns-then-x-lt0 : goal.returns-then-x-lt0
unfolding minus
returns-then-x-lt0 c =
    let at-put-number = c.before.before.before in
    let at-put-byte = at-put-number.before.before.before.before in
    let at-if1 = at-put-byte.before.before in
    let at-size32 = at-if1.before in
    let start = at-size32.before.before in (
      same_piece (negative_is start.args.x start.ranges.x at-size32.size32-size.result at-size32.size32-size.ensures at-if1.if-x-lt0.true)
          (and_then at-put-byte.put_byte-next.ensures at-put-number.put_number.ensures),
      omega (arith, few_digits 9 at-size32.size32-size.result (omega (arith, at-size32.size32-size.type_inv))),
    )

pub put_number-requires-2 : goal.put_number-requires-2
put_number-requires-2 c = omega (arith, few_digits 9 c.size32-size.result (omega (arith, c.size32-size.type_inv)))

pub returns : goal.returns
returns c =
    let at-put-number2 = c.before.before.before in
    let at-if1 = at-put-number2.before.before in
    let at-size32 = at-if1.before in
    let start = at-size32.before.before in (
      same_piece (positive_is start.args.x start.ranges.x at-size32.size32-size.result at-size32.size32-size.ensures at-if1.if-x-lt0.false)
          at-put-number2.put_number-2.ensures,
      omega (arith, few_digits 9 at-size32.size32-size.result (omega (arith, at-size32.size32-size.type_inv))),
    )
