-- `numbers::bound::digits_of` meets its contract.
use Rattle.std.proofs.Common.{sym, ◌∙◌}
use lib.Count.{leading_le}
use Rattle.bins.proofs.Law.Number.{fraction_only, led_by_one}
use Rattle.numbers.proofs.Law.Bound.{word_digits, size_plain, size_led}
use Rattle.numbers.proofs.bound.digits_of.Goals as goal

pub overflow_sub-result : goal.overflow_sub-result
overflow_sub-result c = leading_le 64 c.args.t

pub returns-then-e-eq0 : goal.returns-then-e-eq0
returns-then-e-eq0 c = word_digits 64 c.args.t c.ranges.t.fits ∙ sym (size_plain 52 c.args.t (fraction_only 52 c.args.t c.if-e-eq0.true))

pub returns : goal.returns
returns c = sym (size_led 52 c.args.t (led_by_one 52 c.args.t c.if-e-eq0.false))
