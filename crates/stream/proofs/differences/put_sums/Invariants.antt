use Rattle.std.proofs.Common.{◌*◌, ◌≤◌, length}
use Rattle.stream.proofs.Law.Plain.Differences.{Summed}
use Rattle.stream.proofs.differences.put_sums.Given as goal

abbrev pub invariant-loop-k : goal.invariant-loop-k
invariant-loop-k g v =
    let w = g.T.Word in
    (h : v.n ≤ length (w.values v.codes)) × (l : v.n ≤ length (w.values v.initial.out)) × Summed w.width (w.value v.fn.before) v.n (w.values v.codes) (w.values v.initial.out) h l (w.values v.out) (w.value v.last) (4 * v.k)
