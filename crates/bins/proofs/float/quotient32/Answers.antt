-- `bins::float::quotient32` meets its contract.
use Rattle.std.proofs.Common.{refl, arith}
use lib.Ieee.{binary32}
use Rattle.bins.proofs.Law.Near.{asked, ordinal_no_nan, factor_no_nan}
use Rattle.bins.proofs.float.quotient32.Goals as goal

pub float_from_bits-result : goal.float_from_bits-result
float_from_bits-result c = ordinal_no_nan (asked binary32 _ _ c.requires)

pub overflow_sub-result : goal.overflow_sub-result
overflow_sub-result c = omega (arith, (asked binary32 _ _ c.requires).some)

pub float_from_bits-result-2 : goal.float_from_bits-result-2
float_from_bits-result-2 c = factor_no_nan (asked binary32 _ _ c.requires)

pub returns : goal.returns
returns c = refl
