-- `bins::float::quotient64` meets its contract.
use Rattle.std.proofs.Common.{refl, arith}
use lib.Ieee.{binary64}
use Rattle.bins.proofs.Law.Near.{asked, ordinal_no_nan, factor_no_nan}
use Rattle.bins.proofs.float.quotient64.Goals as goal

pub float_from_bits-result : goal.float_from_bits-result
float_from_bits-result c = ordinal_no_nan (asked binary64 _ _ c.requires)

pub overflow_sub-result : goal.overflow_sub-result
overflow_sub-result c = omega (arith, (asked binary64 _ _ c.requires).some)

pub float_from_bits-result-2 : goal.float_from_bits-result-2
float_from_bits-result-2 c = factor_no_nan (asked binary64 _ _ c.requires)

pub returns : goal.returns
returns c = refl
