use Rattle.std.proofs.Common.{◌≡◌, ◌++◌, ◌+◌, ◌/◌, ◌^◌, length, take, drop}
use Rattle.blocks.specs.Bytes.{digits}
use Rattle.stream.proofs.group_written.tail.Given as goal

abbrev pub invariant-loop-k : goal.invariant-loop-k
invariant-loop-k l =
    (length l.out ≡ length l.initial.out) × (l.word ≡ l.initial.word / 256 ^ l.k) × (l.out ≡ take l.at l.initial.out ++ digits 256 l.k l.initial.word ++ drop (l.at + l.k) l.initial.out)
