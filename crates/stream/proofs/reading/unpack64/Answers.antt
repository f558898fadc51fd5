-- `stream::reading::unpack64` meets its contract.
use mathlib.Core.Path.{refl}
use native.Mathlib.Nat.{le_refl}
use Rattle.stream.specs.Lent.{chosen}
use Rattle.stream.proofs.reading.unpack64.Goals as goal

pub unpacked_or_refused-requires : goal.unpacked_or_refused-requires
unfolding chosen
unpacked_or_refused-requires c = (refl, le_refl 128)

pub returns : goal.returns
unfolding chosen
returns c = let r = c.unpacked_or_refused in record { value = r.ensures.value; out_after = r.ensures.o64_after }
