-- `bins::float::even32` meets its contract, by the laws over the formats.
use Rattle.std.proofs.Common.{false, refl}
use lib.Ieee.{Float, binary32, of_bits}
use lib.Ieee.Exact.{HasValue}
use Rattle.bins.proofs.Law.Near.{asked, even_number, even_from, even_near}
use Rattle.bins.proofs.float.even32.Goals as goal

-- the literal, and its value
abbrev y : Float
y = of_bits binary32 1258291200

value : HasValue y false 8388608 1
unfolding of_bits
value = (refl, refl)

pub quotient32-q-requires : goal.quotient32-q-requires
quotient32-q-requires c = c.requires

pub float_to_bits-result : goal.float_to_bits-result
float_to_bits-result c = even_number (asked binary32 _ _ c.before.requires) _ c.quotient32-q.ensures y value

pub overflow_sub-result : goal.overflow_sub-result
overflow_sub-result c = even_from (asked binary32 _ _ c.before.requires) _ c.quotient32-q.ensures y value

pub returns : goal.returns
returns c = even_near (asked binary32 _ _ c.before.requires) _ c.quotient32-q.ensures y value
