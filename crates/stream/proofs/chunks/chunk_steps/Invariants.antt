use Rattle.std.proofs.Common.{◌≡◌, ◌-◌}
use Rattle.stream.specs.Operations.{chunk_row, chunk_rows}
use Rattle.stream.specs.Rows.{rows_from, first}
use Rattle.stream.proofs.chunks.chunk_steps.Given as goal

abbrev pub invariant-loop-j : goal.invariant-loop-j
invariant-loop-j l = first (chunk_rows l.h l.bytes) ≡ first (rows_from (chunk_row l.h l.bytes) (l.h.chunks - l.j) l.j)
