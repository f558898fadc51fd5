use Rattle.std.proofs.Common.{◌≡◌, length, take}
use Rattle.stream.specs.Partway.{Partway}
use Rattle.stream.proofs.group_written.words.Given as goal

abbrev pub invariant-loop-code : goal.invariant-loop-code
invariant-loop-code l =
    (length l.out ≡ length l.initial.out) × Partway l.w l.initial.out (take l.code-index l.codes) l.word l.fill l.at l.out
