use Rattle.std.proofs.Common.{sym, ◌∙◌, arith}
use Rattle.stream.specs.Tables.{side_id}
use Rattle.stream.proofs.Law.Rows.Ids.{ids_start, ids_on, ids_done, ids_stop}
use Rattle.stream.proofs.tables.first_high.Goals as goal

pub loop-i-init : goal.loop-i-init
loop-i-init c = ids_start c.args.h c.args.bytes.now

pub returns-then-id-ge-FIRST_HIGH_ID : goal.returns-then-id-ge-FIRST_HIGH_ID
unfolding side_id
returns-then-id-ge-FIRST_HIGH_ID c =
    let i = c.loop-i.i in
    c.word_at-id.ensures.0
    ∙ sym (c.loop-i.invariant ∙ ids_stop c.args.h c.args.bytes.now i c.loop-i-test.true (omega (arith, c.word_at-id.ensures.0, c.if-id-ge-FIRST_HIGH_ID.true)))

pub loop-i-preserved : goal.loop-i-preserved
unfolding side_id
loop-i-preserved c =
    c.loop-i.invariant
    ∙ ids_on c.args.h c.args.bytes.now c.loop-i.i c.loop-i-test.true (omega (arith, c.word_at-id.ensures.0, c.if-id-ge-FIRST_HIGH_ID.false))

pub returns : goal.returns
returns c = sym (c.loop-i.invariant ∙ ids_done c.args.h c.args.bytes.now c.loop-i.i c.loop-i-test.false)
