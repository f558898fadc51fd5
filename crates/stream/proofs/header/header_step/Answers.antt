-- `stream::header::header_step` meets its contract.
use Rattle.stream.specs.Operations.{header_rows}
use Rattle.stream.specs.Rows.{first}
use borrow.Author.Tests.{eq-eqb, ne_eqb, lt-ltb, le-ltb}
use Rattle.stream.proofs.header.header_step.Goals as goal

pub returns-then-h-ne1 : goal.returns-then-h-ne1
unfolding first header_rows
returns-then-h-ne1 c = rw (ne_eqb c.args.h.major 1 c.if-h-ne1.true)

pub returns-then-level-needed : goal.returns-then-level-needed
unfolding first header_rows
returns-then-level-needed c =
    let start = c in
    rw (eq-eqb start.args.h.major 1 c.if-h-ne1.false, lt-ltb start.args.level start.args.h.needed c.if-level-needed.true)

pub returns-then-setting_right-layout_right : goal.returns-then-setting_right-layout_right
unfolding first header_rows
returns-then-setting_right-layout_right c =
    let a = c.args in
    rw (eq-eqb a.h.major 1 c.if-h-ne1.false, le-ltb a.level a.h.needed c.if-level-needed.false, ← c.setting_right.ensures, ← c.layout_right.ensures, c.if-setting_right-layout_right.true)

pub returns : goal.returns
unfolding first header_rows
returns c =
    let a = c.args in
    rw (eq-eqb a.h.major 1 c.if-h-ne1.false, le-ltb a.level a.h.needed c.if-level-needed.false, ← c.setting_right.ensures, ← c.layout_right.ensures, c.if-setting_right-layout_right.false)
