-- The codes of a part are a part of the codes.
use Rattle.std.proofs.Common.{◌-◌, length-take, length-drop, ◌∙◌, arith}
use Rattle.stream.proofs.Law.Lent.Codes.{codes_part}
use Rattle.stream.proofs.lent.U64Lent.each.Goals as goal

pub returns : goal.returns
returns c =
    let a = c.args in
    let g = c.group in
    (g.ensures.0 ∙ rw (length-take, length-drop) (omega (arith, c.requires.bounds)), g.ensures.1 ∙ codes_part a.t a.values.now (a.end - a.at) a.at)
