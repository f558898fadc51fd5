use Rattle.std.proofs.Common.{◌*◌}
use Rattle.stream.specs.Lent.{lent_codes}
use Rattle.stream.proofs.Law.Chunk.Walks.{Put}
use Rattle.stream.proofs.chunk.written_long.Given as goal

abbrev pub invariant-loop-i : goal.invariant-loop-i
invariant-loop-i l = Put 128 (lent_codes l.t l.v32 l.v64) l.n (128 * l.i) l.initial.out l.out l.put
