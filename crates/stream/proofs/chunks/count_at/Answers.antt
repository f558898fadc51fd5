-- `stream::chunks::count_at` meets its contract.
use Rattle.stream.specs.Stream.{count_of}
use native.Mathlib.Omega.{arith}
use Rattle.stream.proofs.chunks.count_at.Goals as goal

pub returns : goal.returns
unfolding count_of
returns c = (omega arith, omega arith)
