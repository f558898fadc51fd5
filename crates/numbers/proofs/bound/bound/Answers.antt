-- `numbers::bound::bound` meets its contract.
use Rattle.std.proofs.Common.{eq-eqb, ne_eqb, rules}
use Rattle.numbers.specs.Bound.{bound_answer}
use Rattle.numbers.proofs.bound.bound.Goals as goal

pub returns-in-32 : goal.returns-in-32
unfolding bound_answer
returns-in-32 c = rw (eq-eqb c.args.width 32 c.in-32.is) c.bound_at.ensures

pub returns-in-64 : goal.returns-in-64
unfolding bound_answer
returns-in-64 c = rw (c.in-64.is) c.bound_at-in-64.ensures

pub returns-in_default : goal.returns-in_default
unfolding bound_answer
returns-in_default c = rw (ne_eqb c.args.width 32 (search rules), ne_eqb c.args.width 64 (search rules))
