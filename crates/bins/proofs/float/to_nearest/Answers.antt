-- `bins::float::to_nearest` meets its contract: what the proofs take for granted.
use Rattle.std.proofs.Common.{suc, ◌<◌, ◌≤◌, false, refl, arith}
use lib.Ieee.{Float, binary32, of_bits}
use lib.Ieee.Exact.{HasValue}
use Rattle.bins.specs.Tolerance.{last_bin}
use Rattle.bins.proofs.Law.Round.{digits_no_nan, whole_is}
use Rattle.bins.proofs.Law.Even.{falls_apart}
use Rattle.bins.proofs.float.to_nearest.Goals as goal
use Rattle.bins.proofs.float.to_nearest.Goals.{Start}

-- the literals, and their values in quarters
abbrev quarter : Float
quarter = of_bits binary32 1048576000

abbrev three_quarters : Float
three_quarters = of_bits binary32 1061158912

quarter_value : HasValue quarter false 1 4
unfolding of_bits
quarter_value = (refl, refl)

three_quarters_value : HasValue three_quarters false 3 4
unfolding of_bits
three_quarters_value = (refl, refl)

small : (c : Start) → suc c.args.j < 8388608
unfolding last_bin
small c = let l : c.args.j ≤ 253 = c.requires in omega arith

pub overflow_add-whole : goal.overflow_add-whole
overflow_add-whole c = omega (arith, small c)

pub float_from_bits-whole : goal.float_from_bits-whole
float_from_bits-whole c = digits_no_nan binary32 c.args.j (omega (arith, small c))

pub returns : goal.returns
returns c =
    let j = c.args.j in
    falls_apart binary32 j (small c) _ quarter three_quarters (whole_is binary32 j (omega (arith, small c))) quarter_value three_quarters_value
