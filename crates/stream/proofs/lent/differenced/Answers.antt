-- The differences of a part go on from the value before it.
use Rattle.std.proofs.Common.{◌+◌, ◌-◌, ◌≤◌, take, drop, length, length-take, length-drop, ap, ap₂, ◌∙◌, arith}
use Rattle.words.proofs.Lists.{length_of, take_of, drop_of}
use Rattle.numbers.specs.Difference.{difference_codes}
use Rattle.stream.proofs.Law.Lent.Codes.{differences_part}
use Rattle.stream.proofs.lent.differenced.Goals as goal

pub returns : goal.returns
returns g c =
    let w = g.T.Word in
    let L = g.met.T.Word.values_law in
    let a = c.args in
    let vs = a.values.now in
    let n = a.end - a.at in
    let room : a.at + n ≤ length (w.values vs) = rw (length_of L vs) (omega (arith, c.requires)) in (
      c.coded.ensures.0 ∙ rw (length-take, length-drop) (omega (arith, c.requires)),
      c.coded.ensures.1
          ∙ ap₂ (difference_codes w.width) c.pattern_before.ensures (take_of L n (drop a.at vs) ∙ ap (take n) (drop_of L a.at vs))
          ∙ differences_part w.width (w.values vs) n a.at room,
    )
