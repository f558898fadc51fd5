-- `bins::float::away32` meets its contract, by the laws over the formats.
use Rattle.std.proofs.Common.{false, refl}
use lib.Ieee.{Float, binary32, of_bits}
use lib.Ieee.Exact.{HasValue}
use Rattle.bins.proofs.Law.Near.{asked, sum_no_nan, sum_from, some_away, away_below, away_above}
use Rattle.bins.proofs.float.away32.Goals as goal

-- the literal, and its value in halves
abbrev y : Float
y = of_bits binary32 1258291199

value : HasValue y false 16777215 2
unfolding of_bits
value = (refl, refl)

pub quotient32-q-requires : goal.quotient32-q-requires
quotient32-q-requires c = c.requires

pub float_to_bits-next : goal.float_to_bits-next
float_to_bits-next c = sum_no_nan (asked binary32 _ _ c.before.requires) _ c.quotient32-q.ensures y value

pub overflow_sub-next : goal.overflow_sub-next
overflow_sub-next c = sum_from (asked binary32 _ _ c.before.requires) _ c.quotient32-q.ensures y value

pub overflow_sub-result : goal.overflow_sub-result
overflow_sub-result c = let f = c.before in some_away (asked binary32 _ _ f.before.requires) _ f.quotient32-q.ensures y value c.if-q-t.true

pub returns-then-q-t : goal.returns-then-q-t
returns-then-q-t c = let f = c.before in away_below (asked binary32 _ _ f.before.requires) _ f.quotient32-q.ensures y value c.if-q-t.true

pub returns-else-q-t : goal.returns-else-q-t
returns-else-q-t c = let f = c.before in away_above (asked binary32 _ _ f.before.requires) _ f.quotient32-q.ensures y value c.if-q-t.false
