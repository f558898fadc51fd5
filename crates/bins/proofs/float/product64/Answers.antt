-- `bins::float::product64` meets its contract, by the laws over the formats.
use Rattle.std.proofs.Common.{◌+◌, ◌-◌, ◌*◌, ◌^◌, ◌≤◌, false, refl, arith}
use lib.Ieee.{Float, binary64, of_bits, sub}
use lib.Ieee.Exact.{HasValue}
use Rattle.bins.specs.Tolerance.{last_bin}
use Rattle.bins.proofs.Law.Float.{Asked, field_no_nan, ordinal_no_nan, ordinal_is}
use Rattle.bins.proofs.Law.Round.{digits_no_nan, digits_value}
use Rattle.bins.proofs.float.product64.Goals as goal
use Rattle.bins.proofs.float.product64.Goals.{Start}

last : (c : Start) → c.args.j ≤ 2045
unfolding last_bin
last c = c.requires.2

asked : (c : Start) → Asked binary64 c.args.j c.args.u (c.args.j - 51)
asked c = record {
  small = c.requires.0;
  some = omega (arith, c.requires.1);
  bin = omega (arith, c.requires.1);
  bin_field = omega (arith, last c);
  room = omega (arith, last c);
}

-- the literal
abbrev y : Float
y = of_bits binary64 4841369599423283200

y_value : HasValue y false (2 ^ 52) 1
unfolding of_bits
y_value = (refl, refl)

abbrev x : Start → Float
x c = sub binary64 (of_bits binary64 (1075 * 2 ^ 52 + c.args.u)) y

value : (c : Start) → HasValue (x c) false c.args.u 1
value c = digits_value binary64 c.args.u c.requires.0 y y_value

pub float_from_bits-whole : goal.float_from_bits-whole
float_from_bits-whole c = digits_no_nan binary64 c.args.u c.requires.0

pub overflow_mul-result : goal.overflow_mul-result
overflow_mul-result c = record { fits = omega (arith, last c) }

pub float_from_bits-result : goal.float_from_bits-result
float_from_bits-result c = field_no_nan (asked c)

pub float_to_bits-result : goal.float_to_bits-result
float_to_bits-result c = ordinal_no_nan (asked c) (x c) (value c)

pub returns : goal.returns
returns c = ordinal_is (asked c) (x c) (value c)
