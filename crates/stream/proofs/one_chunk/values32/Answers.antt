-- `stream::one_chunk::values32` meets its contract.
use mathlib.Core.Path.{refl}
use native.Mathlib.Nat.{le_refl}
use Rattle.stream.specs.Lent.{chosen}
use Rattle.stream.proofs.one_chunk.values32.Goals as goal

pub read-requires : goal.read-requires
unfolding chosen
read-requires c = (refl, le_refl 128)

pub returns : goal.returns
unfolding chosen
returns c = let r = c.read in record { value = r.ensures.value; out_after = r.ensures.o64_after }
