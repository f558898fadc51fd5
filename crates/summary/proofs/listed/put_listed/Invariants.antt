use Rattle.summary.specs.Summary.{holds_in}
use Rattle.summary.proofs.Law.Numbers.{Listed}
use Rattle.summary.proofs.listed.put_listed.Given as goal

abbrev pub invariant-loop-j : goal.invariant-loop-j
invariant-loop-j g l = Listed (holds_in (g.T.Word.value l.fn.x) l.h l.bytes) l.h.chunks l.initial.out l.out l.n l.j
