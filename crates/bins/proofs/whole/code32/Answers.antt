-- `bins::whole::code32` meets its contract.
use Rattle.std.proofs.Common.{◌≡◌, ℕ, ◌+◌, ◌*◌, ◌/◌, ◌^◌, ap, arith, lit≤}
use Rattle.bins.specs.Tolerance.{ordinal, sign, tolerance_code}
use Rattle.bins.proofs.Law.Tolerance.{code_under}
use Rattle.bins.proofs.whole.code32.Goals as goal

code_is : (c : goal.After-magnitude_code32)
    → 2 * c.magnitude_code32.result + c.before.args.p / 2 ^ 31 ≡ tolerance_code 32 23 c.before.args.halves c.before.args.j c.before.args.p
unfolding tolerance_code ordinal sign
code_is c = ap (λ (u : ℕ). 2 * u + c.before.args.p / 2 ^ 31) c.magnitude_code32.ensures

pub overflow_mul-result : goal.overflow_mul-result
overflow_mul-result c =
    let f = c.before in
    omega (arith, code_is c, code_under 32 23 (lit≤ tt) f.args.j f.requires f.args.halves f.args.p f.ranges.p.fits)

pub overflow_add-result : goal.overflow_add-result
overflow_add-result c =
    let f = c.before in
    omega (arith, code_is c, code_under 32 23 (lit≤ tt) f.args.j f.requires f.args.halves f.args.p f.ranges.p.fits)

pub returns : goal.returns
returns c = code_is c
