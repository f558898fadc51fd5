use Rattle.std.proofs.Common.{◌≡◌, ◌++◌, take, drop}
use Rattle.numbers.specs.Difference.{running_sums, last_of}
use Rattle.stream.proofs.differences.one_by_one.Given as goal

abbrev pub invariant-loop-i : goal.invariant-loop-i
invariant-loop-i g l =
    let w = g.T.Word in
    (w.values l.out ≡ running_sums w.width (w.value l.fn.before) (take l.i (take l.n (w.values l.codes))) ++ drop l.i (w.values l.initial.out))
    × (w.value l.last ≡ last_of (w.value l.fn.before) (running_sums w.width (w.value l.fn.before) (take l.i (take l.n (w.values l.codes)))))
