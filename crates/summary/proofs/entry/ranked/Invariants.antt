use Rattle.summary.proofs.Law.Pass.{Passed}
use Rattle.summary.proofs.entry.ranked.Given as goal

abbrev pub invariant-loop-value : goal.invariant-loop-value
invariant-loop-value g l =
    let w = g.T.Word in
    Passed w.width w.fraction (w.values l.values) (w.value l.nans) (w.value l.low) (w.value l.high) l.value-index
