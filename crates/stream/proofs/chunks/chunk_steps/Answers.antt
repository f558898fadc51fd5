use Rattle.std.proofs.Common.{sym, ap, ◌∙◌}
use Rattle.stream.specs.Operations.{chunk_row, chunk_rows}
use Rattle.stream.specs.Rows.{rows_from, first}
use Rattle.stream.proofs.Law.Plain.Scan.{all_left, rows_on, rows_stop, rows_done}
use Rattle.stream.proofs.Law.Rows.First.{handed_on}
use Rattle.stream.proofs.chunks.chunk_steps.Goals as goal

pub loop-j-init : goal.loop-j-init
unfolding chunk_rows
loop-j-init c = ap first (all_left (rows_from (chunk_row c.args.h c.args.bytes.now)) c.args.h.chunks)

pub returns-in_err-chunk_step : goal.returns-in_err-chunk_step
returns-in_err-chunk_step c =
    let h = c.args.h in
    handed_on c.from_residual.ensures.1
    ∙ sym (c.loop-j.invariant ∙ rows_stop (chunk_row h c.args.bytes.now) _ h.chunks c.loop-j.j c.loop-j-test.true (sym c.chunk_step.ensures ∙ c.in_err-chunk_step.was))

pub loop-j-preserved : goal.loop-j-preserved
loop-j-preserved c =
    let h = c.args.h in
    c.loop-j.invariant ∙ rows_on (chunk_row h c.args.bytes.now) h.chunks c.loop-j.j c.loop-j-test.true (sym c.chunk_step.ensures ∙ c.in_ok-chunk_step.was)

pub returns : goal.returns
returns c =
    let h = c.args.h in
    sym (c.loop-j.invariant ∙ rows_done (chunk_row h c.args.bytes.now) h.chunks c.loop-j.j c.loop-j-test.false)
