-- `stream::pack::pack64` meets its contract.
use mathlib.Core.Path.{refl, ap, ◌∙◌}
use native.Mathlib.Omega.{arith}
use lib.IntN.{ℤ}
use lib.ListN.{length}
use mir.Facts.{to_z-of_z}
use Rattle.stream.specs.Lent.{chosen}
use Rattle.stream.specs.Operations.{pack_answer, pack_out}
use Rattle.stream.proofs.Law.Setting.Widths.{known_64}
use Rattle.stream.proofs.pack.pack64.Goals as goal

pub packed_or_refused-requires : goal.packed_or_refused-requires
unfolding chosen
packed_or_refused-requires c = (known_64, refl, omega arith)

pub returns : goal.returns
unfolding chosen
returns c =
    let s = c.before in
    let a = s.args in
    let r = c.packed_or_refused in record { value = r.ensures.value ∙ ap (λ (z : ℤ). pack_answer 64 a.level a.mode z a.size a.values.now (length a.out.now)) (to_z-of_z s.ranges.k); out_after = r.ensures.out_after ∙ ap (λ (z : ℤ). pack_out 64 a.level a.mode z a.size a.values.now a.out.now) (to_z-of_z s.ranges.k) }
