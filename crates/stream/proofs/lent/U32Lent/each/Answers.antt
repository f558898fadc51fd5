-- The codes of a part are a part of the codes, which may stand in the scratch already.
use Rattle.std.proofs.Common.{◌-◌, length-take, length-drop, ◌∙◌, arith}
use Rattle.stream.proofs.Law.Lent.Codes.{codes_part, staged_part}
use Rattle.stream.proofs.lent.U32Lent.each.Goals as goal

pub returns-then-t-eq0 : goal.returns-then-t-eq0
returns-then-t-eq0 c =
    let a = c.args in
    let g = c.lossless_group in
    (g.ensures.0 ∙ rw (length-take, length-drop) (omega (arith, c.requires.bounds)), g.ensures.1 ∙ codes_part a.t a.values.now (a.end - a.at) a.at)

pub returns-else-t-eq0 : goal.returns-else-t-eq0
returns-else-t-eq0 c =
    let a = c.args in
    let g = c.grouped32 in
    let p = c.requires in (
      g.ensures.0 ∙ rw (length-take, length-drop) (omega (arith, p.bounds, p.scratch.0.0 p.bounds.0)),
      g.ensures.1 ∙ staged_part a.t a.values.now (a.end - a.at) a.at a.staged.now (p.scratch.0.1 p.bounds.0 c.if-t-eq0.false p.scratch.1) (omega (arith, p.bounds)),
    )
