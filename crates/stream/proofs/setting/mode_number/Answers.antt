-- `stream::setting::mode_number` meets its contract.
use native.Mathlib.Omega.{arith}
use borrow.Author.Tests.{eq-eqb, ne_eqb}
use Rattle.stream.specs.Setting.{mode_number}
use Rattle.stream.proofs.setting.mode_number.Goals as goal

pub overflow_add-result : goal.overflow_add-result
overflow_add-result c = omega (arith, c.requires.mode)

pub returns-then-t-eq128 : goal.returns-then-t-eq128
unfolding mode_number
returns-then-t-eq128 c = rw (eq-eqb c.args.t.size 128 c.if-t-eq128.true)

pub returns : goal.returns
unfolding mode_number
returns c = rw (ne_eqb c.args.t.size 128 c.if-t-eq128.false)
