-- `stream::chunks::content_step` meets its contract.
use Rattle.stream.proofs.Law.Rows.Passed.{tables}
use Rattle.stream.proofs.Law.Rows.First.{opened, shut, handed_on}
use Rattle.stream.specs.Operations.{table_rows, chunk_rows, content_rows}
use mathlib.Core.Path.{sym, ◌∙◌}
use Rattle.stream.proofs.chunks.content_step.Goals as goal

pub returns-in_err-table_step : goal.returns-in_err-table_step
unfolding content_rows
returns-in_err-table_step c =
    let a = c.args in
    handed_on c.from_residual.ensures.1 ∙ sym (shut _ (table_rows a.h a.bytes.now) (chunk_rows a.h a.bytes.now) (sym c.table_step.ensures ∙ c.in_err-table_step.was))

pub chunk_steps-requires : goal.chunk_steps-requires
chunk_steps-requires c = (c.requires, (tables c.args.h c.args.bytes.now (sym c.table_step.ensures ∙ c.in_ok-table_step.was)).chunks)

pub returns : goal.returns
unfolding content_rows
returns c =
    let a = c.args in
    c.chunk_steps.ensures ∙ sym (opened (table_rows a.h a.bytes.now) (chunk_rows a.h a.bytes.now) (sym c.table_step.ensures ∙ c.in_ok-table_step.was))
