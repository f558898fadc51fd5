use Rattle.std.proofs.Common.{◌≡◌, ◌+◌, ◌*◌, ◌/◌, ◌%◌, ◌^◌}
use Rattle.blocks.specs.Bytes.{number}
use Rattle.blocks.proofs.block32.word32.Given as goal

abbrev pub invariant-loop-i : goal.invariant-loop-i
invariant-loop-i l = (l.fill + 64 * l.k ≡ l.w * l.i) × (l.word ≡ number (2 ^ l.w) l.c / 2 ^ (64 * l.k) % 2 ^ l.fill % 2 ^ 64)
