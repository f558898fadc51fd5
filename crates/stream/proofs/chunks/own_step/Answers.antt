-- `stream::chunks::own_step` meets its contract.
use Rattle.stream.proofs.Law.Rows.Passed.{tables}
use Rattle.stream.proofs.Law.Rows.First.{opened, shut, handed_on}
use Rattle.stream.specs.Operations.{table_rows, chunk_row, own_rows}
use native.Mathlib.Omega.{arith}
use Prim.Native.Nat.{◌/◌}
use mathlib.Core.List.{[], ◌∷◌}
use mathlib.Core.Path.{sym, ◌∙◌}
use Rattle.stream.proofs.chunks.own_step.Goals as goal

pub returns-in_err-table_step : goal.returns-in_err-table_step
unfolding own_rows
returns-in_err-table_step c =
    let a = c.args in
    handed_on c.from_residual.ensures.1
    ∙ sym (shut _ (table_rows a.h a.bytes.now) (chunk_row a.h a.bytes.now (a.index / 1024) ∷ []) (sym c.table_step.ensures ∙ c.in_err-table_step.was))

pub chunk_step-requires : goal.chunk_step-requires
chunk_step-requires c =
    (c.requires.0, (tables c.args.h c.args.bytes.now (sym c.table_step.ensures ∙ c.in_ok-table_step.was)).chunks, omega arith)

pub returns : goal.returns
unfolding own_rows
returns c =
    let a = c.args in
    c.chunk_step.ensures ∙ sym (opened (table_rows a.h a.bytes.now) (chunk_row a.h a.bytes.now (a.index / 1024) ∷ []) (sym c.table_step.ensures ∙ c.in_ok-table_step.was))
