use Rattle.std.proofs.Common.{◌≡◌, ◌-◌}
use Rattle.stream.specs.Tables.{ids_from, ids_in, first_high}
use Rattle.stream.proofs.tables.first_high.Given as goal

abbrev pub invariant-loop-i : goal.invariant-loop-i
invariant-loop-i l = first_high (ids_in l.h l.bytes) ≡ first_high (ids_from l.h l.bytes (l.h.sides - l.i) l.i)
