-- `bins::whole::nearest64` meets its contract.
use Rattle.std.proofs.Common.{◌∙◌, arith}
use Rattle.bins.specs.Tolerance.{last_bin}
use Rattle.bins.proofs.Law.Working.{plain_is, exponent_under, led_is}
use Rattle.bins.proofs.whole.nearest64.Goals as goal

pub returns-then-e-eq0 : goal.returns-then-e-eq0
returns-then-e-eq0 c = c.rounded64.ensures ∙ plain_is 52 c.before.before.args.j c.before.before.args.o c.before.before.args.halves c.before.if-e-eq0.true

pub overflow_add-j : goal.overflow_add-j
unfolding last_bin
overflow_add-j c = omega arith

pub overflow_sub-j : goal.overflow_sub-j
overflow_sub-j c = omega (arith, exponent_under 52 c.before.args.j c.before.args.o c.before.requires.1)

pub returns : goal.returns
returns c = c.rounded64-2.ensures ∙ led_is 52 c.before.before.args.j c.before.before.args.o c.before.before.args.halves c.before.if-e-eq0.false c.before.before.requires.1
