use Rattle.std.proofs.Common.{◌≡◌, ◌≤◌, ◌+◌, ◌*◌, ◌-◌, ◌&&◌, eqb, length}
use Rattle.stream.specs.Tables.{every, id_floor, part_at, entry_right, side_table_right}
use Rattle.stream.proofs.tables.side_table_right.Given as goal

abbrev pub invariant-loop-i : goal.invariant-loop-i
invariant-loop-i l =
    (l.floor ≡ id_floor l.h l.bytes l.i)
    × (l.place ≡ part_at l.h l.bytes l.i)
    × (l.place ≤ l.h.end + 12 * l.h.sides + l.i * 4294967296)
    × (side_table_right l.h l.bytes ≡ every (entry_right l.h l.bytes) (l.h.sides - l.i) l.i && eqb (part_at l.h l.bytes l.h.sides) (length l.bytes))
