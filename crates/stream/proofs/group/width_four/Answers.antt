use Rattle.std.proofs.Common.{arith, take}
use Rattle.stream.proofs.Law.Group.Parts.{width_of_four}
use Rattle.stream.proofs.group.width_four.Goals as goal

pub returns : goal.returns
returns g c =
    let v = g.T.Word.values in
    let a = c.args in
    let all = width_of_four (take a.a.count (v a.a.codes)) (take a.b.count (v a.b.codes)) (take a.c.count (v a.c.codes)) (take a.d.count (v a.d.codes)) in
    let of_a = c.width_in.ensures in
    let of_b = c.width_in-2.ensures in
    let of_c = c.width_in-3.ensures in
    let of_d = c.width_in-4.ensures in
    let pair = c.max-front.ensures in
    let other = c.max-back.ensures in
    (omega (arith, all, of_a, of_b, of_c, of_d, pair, other, c.max.ensures), omega (arith, of_a, of_b, of_c, of_d, pair, other, c.max.ensures))
