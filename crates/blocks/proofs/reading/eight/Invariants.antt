use Rattle.std.proofs.Common.{◌≡◌, ◌/◌, ◌^◌, map}
use lib.Seq.{paste}
use Rattle.blocks.specs.Bytes.{number, digits}
use Rattle.blocks.proofs.reading.eight.Given as goal

abbrev pub invariant-loop-i : goal.invariant-loop-i
invariant-loop-i g l = l.c ≡ paste l.initial.c l.at (map g.T.Code.of_nat (digits (2 ^ l.w) 8 (number 256 l.s / 2 ^ l.bit))) l.i
