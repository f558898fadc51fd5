-- `bins::float::near32` meets its contract.
use Rattle.std.proofs.Common.{ℕ, sym, ap, ◌∙◌, ne_eqb}
use Rattle.bins.specs.Tolerance.{near, magnitude}
use Rattle.bins.proofs.Law.Near.{near_away}
use Rattle.bins.proofs.float.near32.Goals as goal

pub even32-requires : goal.even32-requires
even32-requires c = c.before.requires

pub returns-then-halves-eq1 : goal.returns-then-halves-eq1
returns-then-halves-eq1 c =
    let a = c.before.before.args in
    c.even32.ensures ∙ ap (λ (rule : ℕ). near rule a.j (magnitude 23 a.o)) (sym c.before.if-halves-eq1.true)

pub away32-requires : goal.away32-requires
away32-requires c = c.before.requires

pub returns : goal.returns
returns c =
    let a = c.before.before.args in
    c.away32.ensures ∙ near_away a.halves a.j (magnitude 23 a.o) (ne_eqb a.halves 1 c.before.if-halves-eq1.false)
