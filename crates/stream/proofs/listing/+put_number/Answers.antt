-- `stream::listing::put_number` meets its contract.
use mathlib.Core.Path.{sym}
use native.Mathlib.Omega.{arith}
use Rattle.stream.proofs.Law.Listing.Text.{small, more, one_digit, digit_more, same_piece, and_then}
use Rattle.stream.proofs.listing.+put_number.Goals as goal

pub put_digit-requires : goal.put_digit-requires
put_digit-requires t c = (c.if-n-lt10.true, omega (arith, c.requires, one_digit c.args.n c.if-n-lt10.true))

pub returns-then-n-lt10 : goal.returns-then-n-lt10
returns-then-n-lt10 t c = same_piece (sym (small c.args.n c.if-n-lt10.true)) c.put_digit.ensures

pub put_number-next-requires : goal.put_number-next-requires
put_number-next-requires t c =
    (omega (arith, c.decreases, c.if-n-lt10.false), omega (arith, c.requires, digit_more c.args.n c.if-n-lt10.false))

pub put_digit-requires-2 : goal.put_digit-requires-2
put_digit-requires-2 t c = (
  omega arith,
  omega (
    arith,
    c.requires,
    c.put_number-next.ensures.next_is,
    c.put_number-next.auto.text,
    digit_more
        c.args.n c.if-n-lt10.false,
  ),
)

pub returns : goal.returns
returns t c = same_piece (sym (more c.args.n c.if-n-lt10.false)) (and_then c.put_number-next.ensures c.put_digit-2.ensures)
