-- `bins::float::product32` meets its contract, by the laws over the formats.
use Rattle.std.proofs.Common.{◌-◌, ◌^◌, ◌≤◌, false, pos, arith, le→leb}
use lib.Ieee.{Float, binary32, in_float, of_int}
use lib.Ieee.Exact.{HasValue}
use Rattle.bins.specs.Tolerance.{last_bin}
use Rattle.bins.proofs.Law.Float.{Asked, field_no_nan, ordinal_no_nan, ordinal_is, cast_value}
use Rattle.bins.proofs.float.product32.Goals as goal
use Rattle.bins.proofs.float.product32.Goals.{Start}

last : (c : Start) → c.args.j ≤ 253
unfolding last_bin
last c = c.requires.2

asked : (c : Start) → Asked binary32 c.args.j c.args.u (c.args.j - 22)
asked c = record {
  small = c.requires.0;
  some = omega (arith, c.requires.1);
  bin = omega (arith, c.requires.1);
  bin_field = omega (arith, last c);
  room = omega (arith, last c);
}

abbrev x : Start → Float
x c = of_int binary32 (pos c.args.u)

value : (c : Start) → HasValue (x c) false c.args.u 1
value c = cast_value binary32 c.args.u (omega (arith, c.requires.0))

pub int_to_float-result : goal.int_to_float-result
unfolding in_float
int_to_float-result c = le→leb c.before.args.u (2 ^ 24) (omega (arith, c.before.requires.0))

pub overflow_mul-result : goal.overflow_mul-result
overflow_mul-result c = record { fits = omega (arith, last c.before) }

pub float_from_bits-result : goal.float_from_bits-result
float_from_bits-result c = field_no_nan (asked c.before)

pub float_to_bits-result : goal.float_to_bits-result
float_to_bits-result c = ordinal_no_nan (asked c.before) (x c.before) (value c.before)

pub returns : goal.returns
returns c = ordinal_is (asked c.before) (x c.before) (value c.before)
