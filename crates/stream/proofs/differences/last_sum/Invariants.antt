use Rattle.std.proofs.Common.{◌≡◌, ◌^◌, ◌<◌, take}
use Rattle.numbers.specs.Difference.{running_sums, last_of}
use Rattle.stream.proofs.differences.last_sum.Given as goal

abbrev pub invariant-loop-c : goal.invariant-loop-c
invariant-loop-c l = (l.last ≡ last_of l.before (running_sums l.t.width l.before (take l.c-index (take l.n l.codes)))) × (l.last < 2 ^ l.t.width)
