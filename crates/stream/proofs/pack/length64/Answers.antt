-- `stream::pack::length64` meets its contract.
use mathlib.Core.Path.{refl, ap, ◌∙◌}
use native.Mathlib.Omega.{arith}
use lib.IntN.{ℤ}
use mir.Facts.{to_z-of_z}
use Rattle.stream.specs.Lent.{chosen}
use Rattle.stream.specs.Operations.{length_answer}
use Rattle.stream.proofs.Law.Setting.Widths.{known_64}
use Rattle.stream.proofs.pack.length64.Goals as goal

pub measured_or_refused-requires : goal.measured_or_refused-requires
unfolding chosen
measured_or_refused-requires c = (known_64, refl, omega arith)

pub returns : goal.returns
unfolding chosen
returns c =
    let s = c.before in
    let a = s.args in
    c.measured_or_refused.ensures ∙ ap (λ (z : ℤ). length_answer 64 a.level a.mode z a.size a.values.now) (to_z-of_z s.ranges.k)
