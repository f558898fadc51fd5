-- `stream::probe::show64` meets its contract.
use lib.Arith.{lt_of_le-ne}
use Rattle.stream.proofs.Law.Values.Shown.{no_nan, is_nan_lem, is_infinite, is_finite}
use Rattle.stream.specs.Probe.{shown64, told}
use lib.Ieee.{binary64}
use Rattle.stream.proofs.probe.show64.Goals as goal

pub returns-then-ordinal-gt9218868437227405312 : goal.returns-then-ordinal-gt9218868437227405312
unfolding shown64 told
returns-then-ordinal-gt9218868437227405312 c = rw (is_nan_lem binary64 c.args.p c.if-ordinal-gt9218868437227405312.true)

pub returns-then-ordinal-eq9218868437227405312 : goal.returns-then-ordinal-eq9218868437227405312
unfolding shown64 told
returns-then-ordinal-eq9218868437227405312 c = rw (is_infinite binary64 c.args.p c.ranges.p.fits c.if-ordinal-eq9218868437227405312.true)

pub float_from_bits-result : goal.float_from_bits-result
float_from_bits-result c = rw (no_nan binary64 c.args.p c.if-ordinal-gt9218868437227405312.false) tt

pub returns : goal.returns
unfolding shown64 told
returns c =
    let p = c.args.p in
    rw (is_finite binary64 p c.ranges.p.fits (lt_of_le-ne c.if-ordinal-gt9218868437227405312.false c.if-ordinal-eq9218868437227405312.false)).3
