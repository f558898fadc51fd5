-- `summary::listed::count_of` meets its contract: the lesser of 1024 and what is left of the count.
use native.Mathlib.Omega.{arith}
use Rattle.stream.specs.Stream.{count_of}
use Rattle.summary.proofs.listed.count_of.Goals as goal

pub returns : goal.returns
unfolding count_of
returns c = omega arith
