-- `stream::pack::chunks_of` meets its contract.
use native.Mathlib.Omega.{arith}
use Rattle.stream.specs.Header.{chunks_in}
use Rattle.stream.proofs.pack.chunks_of.Goals as goal

pub returns : goal.returns
unfolding chunks_in
returns c = (omega (arith, c.div_ceil.ensures), omega (arith, c.div_ceil.ensures))
