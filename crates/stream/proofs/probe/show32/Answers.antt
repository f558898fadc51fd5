-- `stream::probe::show32` meets its contract.
use lib.Arith.{lt_of_le-ne}
use Rattle.stream.proofs.Law.Values.Shown.{no_nan, is_nan_lem, is_infinite, is_finite}
use Rattle.stream.specs.Probe.{shown32, told}
use lib.Ieee.{binary32}
use Rattle.stream.proofs.probe.show32.Goals as goal

pub returns-then-ordinal-gt2139095040 : goal.returns-then-ordinal-gt2139095040
unfolding shown32 told
returns-then-ordinal-gt2139095040 c = rw (is_nan_lem binary32 c.args.p c.if-ordinal-gt2139095040.true)

pub returns-then-ordinal-eq2139095040 : goal.returns-then-ordinal-eq2139095040
unfolding shown32 told
returns-then-ordinal-eq2139095040 c = rw (is_infinite binary32 c.args.p c.ranges.p.fits c.if-ordinal-eq2139095040.true)

pub float_from_bits-result : goal.float_from_bits-result
float_from_bits-result c = rw (no_nan binary32 c.args.p c.if-ordinal-gt2139095040.false) tt

pub returns : goal.returns
unfolding shown32 told
returns c =
    let p = c.args.p in
    rw (is_finite binary32 p c.ranges.p.fits (lt_of_le-ne c.if-ordinal-gt2139095040.false c.if-ordinal-eq2139095040.false)).3
