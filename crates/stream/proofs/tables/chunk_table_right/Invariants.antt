use Rattle.std.proofs.Common.{◌≡◌, ◌-◌}
use Rattle.stream.specs.Tables.{every, start_at, start_right, chunk_table_right}
use Rattle.stream.proofs.tables.chunk_table_right.Given as goal

abbrev pub invariant-loop-j : goal.invariant-loop-j
invariant-loop-j l = (l.last ≡ start_at l.h l.bytes l.j) × (chunk_table_right l.h l.bytes ≡ every (start_right l.h l.bytes) (l.h.chunks - l.j) l.j)
