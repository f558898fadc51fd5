-- `bins::float::near64` meets its contract, by the laws over the formats.
use Rattle.std.proofs.Common.{false, refl, arith}
use lib.Ieee.{Float, binary64, of_bits}
use lib.Ieee.Exact.{HasValue}
use Rattle.bins.proofs.Law.Near.{asked, sum_no_nan, grown_no_nan, sum_from, sum_small, half_fits, half_no_nan, some_below, near_below, near_above}
use Rattle.bins.proofs.float.near64.Goals as goal

-- the literal, and its value in halves
abbrev y : Float
y = of_bits binary64 4841369599423283199

value : HasValue y false 9007199254740991 2
unfolding of_bits
value = (refl, refl)

pub quotient64-q-requires : goal.quotient64-q-requires
quotient64-q-requires c = c.requires

pub float_to_bits-next : goal.float_to_bits-next
float_to_bits-next c = sum_no_nan (asked binary64 _ _ c.before.requires) _ c.quotient64-q.ensures y value

pub overflow_sub-next : goal.overflow_sub-next
overflow_sub-next c = sum_from (asked binary64 _ _ c.before.requires) _ c.quotient64-q.ensures y value

pub float_to_bits-t : goal.float_to_bits-t
float_to_bits-t c = grown_no_nan (asked binary64 _ _ c.before.requires) _ c.quotient64-q.ensures y value

pub float_to_bits-r : goal.float_to_bits-r
float_to_bits-r c = sum_no_nan (asked binary64 _ _ c.before.requires) _ c.quotient64-q.ensures y value

pub overflow_add-r : goal.overflow_add-r
overflow_add-r c = omega (arith, sum_small (asked binary64 _ _ c.before.requires) _ c.quotient64-q.ensures y value)

pub overflow_add-t : goal.overflow_add-t
overflow_add-t c =
    let f = c.before in
    omega (arith, half_fits (asked binary64 _ _ f.before.requires) _ f.quotient64-q.ensures y value f.before.args.halves c.odd.result c.odd.ensures)

pub float_from_bits-t : goal.float_from_bits-t
float_from_bits-t c =
    let f = c.before in
    half_no_nan (asked binary64 _ _ f.before.requires) _ f.quotient64-q.ensures y value f.before.args.halves c.odd.result c.odd.ensures

pub overflow_sub-result : goal.overflow_sub-result
overflow_sub-result c =
    let d = c.before in
    let f = d.before in
    some_below (asked binary64 _ _ f.before.requires) _ f.quotient64-q.ensures y value f.before.args.halves d.odd.result d.odd.ensures c.if-q-t.true

pub returns-then-q-t : goal.returns-then-q-t
returns-then-q-t c =
    let d = c.before in
    let f = d.before in
    near_below (asked binary64 _ _ f.before.requires) _ f.quotient64-q.ensures y value f.before.args.halves d.odd.result d.odd.ensures c.if-q-t.true

pub returns-else-q-t : goal.returns-else-q-t
returns-else-q-t c =
    let d = c.before in
    let f = d.before in
    near_above (asked binary64 _ _ f.before.requires) _ f.quotient64-q.ensures y value f.before.args.halves d.odd.result d.odd.ensures c.if-q-t.false
