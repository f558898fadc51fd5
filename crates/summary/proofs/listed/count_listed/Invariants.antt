use Rattle.summary.specs.Summary.{holds_in}
use Rattle.summary.proofs.Law.Numbers.{Counted}
use Rattle.summary.proofs.listed.count_listed.Given as goal

abbrev pub invariant-loop-j : goal.invariant-loop-j
invariant-loop-j g l = Counted (holds_in (g.T.Word.value l.fn.x) l.h l.bytes) l.h.chunks l.n l.j
