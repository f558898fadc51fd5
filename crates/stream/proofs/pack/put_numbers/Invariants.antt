use Rattle.std.proofs.Common.{◌≡◌, ◌++◌, ◌*◌, length, take, drop}
use Rattle.stream.specs.Writing.{spell}
use Rattle.stream.proofs.Law.Written.Numbers.{padded}
use Rattle.stream.proofs.pack.put_numbers.Given as goal

abbrev pub invariant-loop-i : goal.invariant-loop-i
invariant-loop-i l = (length l.out ≡ length l.initial.out) × (l.out ≡ spell (take l.i (padded l.numbers l.count)) ++ drop (4 * l.i) l.initial.out)
