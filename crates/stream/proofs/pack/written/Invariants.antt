use Rattle.std.proofs.Common.{◌≡◌, List, ℕ, length}
use Rattle.stream.specs.Lent.{chosen}
use Rattle.stream.specs.Writing.{data_of, unfinished}
use Rattle.stream.proofs.pack.written.Given as goal

abbrev pub invariant-loop-j : goal.invariant-loop-j
invariant-loop-j l =
    let vs = chosen l.t.width l.v32 l.v64 in
    (l.start ≡ length (data_of l.t vs l.j)) × (length l.out ≡ length l.initial.out)
    × ((base : List ℕ) → l.initial.out ≡ unfinished l.level l.t vs 0 base → l.out ≡ unfinished l.level l.t vs l.j base)
    × (length l.c32 ≡ length l.initial.c32)
