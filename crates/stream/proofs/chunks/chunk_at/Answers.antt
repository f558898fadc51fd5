-- `stream::chunks::chunk_at` meets its contract.
use native.Mathlib.Omega.{arith}
use Rattle.stream.proofs.Law.Tables.Starts.{ends_are}
use Rattle.stream.proofs.chunks.chunk_at.Goals as goal

pub overflow_add-from : goal.overflow_add-from
overflow_add-from c =
    let start = c.before in
    omega (arith, start.requires.0, start.requires.1)

pub overflow_add-to : goal.overflow_add-to
overflow_add-to c =
    let start = c.before in
    omega (arith, start.requires.0, start.requires.1)

pub slice_bounds-result-count : goal.slice_bounds-result-count
slice_bounds-result-count c =
    let start = c.before in
    omega (arith, start.requires.0, start.requires.1)

pub slice_bounds-result-start : goal.slice_bounds-result-start
slice_bounds-result-start c =
    let start = c.before in
    omega (arith, start.requires.0, start.requires.1)

pub slice_bounds-result-end : goal.slice_bounds-result-end
slice_bounds-result-end c =
    let start = c.before in
    omega (arith, start.requires.0, start.requires.1)

pub returns : goal.returns
returns c =
    let at-start-at = c.before.before.before.before.before in
    let start = at-start-at.before.before in
    ends_are start.args.h start.args.bytes.now start.args.j at-start-at.start_at.result c.start_at-2.result at-start-at.start_at.ensures c.start_at-2.ensures
