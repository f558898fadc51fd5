use Rattle.std.proofs.Common.{◌≡◌, ◌/◌, ◌^◌, length, take}
use Rattle.blocks.specs.Bytes.{number, digits}
use Rattle.stream.proofs.group_read.opened.Given as goal

abbrev pub invariant-loop-i : goal.invariant-loop-i
invariant-loop-i l = (length l.codes ≡ 32) × (take l.i l.codes ≡ digits (2 ^ l.w) l.i (number 256 l.s / 256))
