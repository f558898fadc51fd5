-- `stream::tables::table_step` meets its contract.
use Rattle.stream.proofs.Law.Rows.Chunks.{tables_pass, tables_stop}
use Rattle.stream.proofs.Law.Tables.Sides.{table_within}
use Rattle.stream.proofs.Law.Plain.Truth.{and_right}
use mathlib.Core.Path.{sym, ◌∙◌}
use Rattle.stream.proofs.tables.table_step.Goals as goal

pub side_step-requires : goal.side_step-requires
side_step-requires c =
    let start = c.before in
    let h = start.args.h in
    let s = start.args.bytes.now in
    let right = sym c.side_table_right.ensures ∙ and_right c.chunk_table_right.result c.side_table_right.result c.if-chunk_table_right-side_table_right.true in
    (start.requires, table_within h s right)

pub returns-then-chunk_table_right-side_table_right : goal.returns-then-chunk_table_right-side_table_right
returns-then-chunk_table_right-side_table_right c =
    let at-if = c.before.before in
    let start = at-if.before.before.before.before in
    c.side_step.ensures
    ∙ tables_pass start.args.h start.args.bytes.now at-if.before.before.chunk_table_right.result at-if.before.side_table_right.result at-if.before.before.chunk_table_right.ensures at-if.before.side_table_right.ensures at-if.if-chunk_table_right-side_table_right.true

pub returns : goal.returns
returns c =
    let start = c.before in
    tables_stop start.args.h start.args.bytes.now c.chunk_table_right.result c.side_table_right.result c.chunk_table_right.ensures c.side_table_right.ensures c.if-chunk_table_right-side_table_right.false
