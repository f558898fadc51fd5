-- `summary::entry::put_entry` meets its contract: three pieces side by side.
use Prim.Native.Nat.{◌/◌}
use native.Mathlib.Omega.{arith}
use borrow.Author.Rules.{rules}
use Rattle.blocks.specs.Bytes.{digits}
use Rattle.blocks.proofs.Law.Digits.{length_digits}
use Rattle.summary.specs.Entry.{entry_length}
use Rattle.summary.proofs.Law.Pieces.{three_pieces}
use Rattle.summary.proofs.entry.put_entry.Goals as goal

pub half-requires : goal.half-requires
unfolding entry_length
half-requires c = search rules

pub put_pattern-requires : goal.put_pattern-requires
unfolding entry_length
put_pattern-requires c = search rules

pub put_pattern-requires-2 : goal.put_pattern-requires-2
unfolding entry_length
put_pattern-requires-2 c = search rules

pub returns : goal.returns
unfolding entry_length
returns c =
    let third = c.before.before.before in
    let second = third.before.before.before.before in
    let first = second.before.before.before.before in
    let s = first in
    let a = s.args in
    let e = a.e in
    let k = a.width / 8 in
    three_pieces a.at 4 k a.out.now first.half.new.out second.put_pattern.new.out third.put_pattern-2.new.out
    (digits 256 4 e.nans) (digits 256 k e.smallest) (digits 256 k e.largest)
    (omega (arith, s.requires.1)) (length_digits 256 4 e.nans) (length_digits 256 k e.smallest)
    first.half.ensures second.put_pattern.ensures third.put_pattern-2.ensures
