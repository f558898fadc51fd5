use Rattle.std.proofs.Common.{◌≡◌, length, take}
use Rattle.numbers.specs.Difference.{difference_codes, last_of}
use Rattle.stream.proofs.differences.coded.Given as goal

abbrev pub invariant-loop-i : goal.invariant-loop-i
invariant-loop-i g l =
    let w = g.T.Word in
    (length l.codes ≡ 32) × (take l.i (w.values l.codes) ≡ difference_codes w.width (w.value l.fn.before) (take l.i (w.values l.values)))
    × (w.value l.last ≡ last_of (w.value l.fn.before) (take l.i (w.values l.values)))
