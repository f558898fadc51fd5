-- `stream::tables::side_step` meets its contract.
use borrow.Author.Tests.{le-leb, lt-leb}
use Rattle.stream.proofs.Law.Rows.Ids.{side_need, side_high, side_low}
use Rattle.stream.specs.Setting.{stream_need}
use Rattle.stream.specs.Header.{setting_in}
use Rattle.stream.specs.Tables.{ids_in}
use Rattle.stream.specs.declared.setting.Setting.{Setting}
use Prim.Native.Nat.{◌^◌}
use lib.Dec.{leb}
use mathlib.Core.Path.{◌≡◌, ap, ◌∙◌}
use Rattle.stream.proofs.tables.side_step.Goals as goal
use Rattle.stream.proofs.tables.side_step.Lts as lts
use Rattle.stream.proofs.tables.side_step.Reads as reads
use Rattle.stream.proofs.tables.side_step.Tie as tie

abbrev After-stream_need : Type 0
After-stream_need = lts.After-stream_need tie.the-claims reads.Pre reads.Post

-- the need that the first high id asks for
need_is : (c : After-stream_need)
    → let at_first = c in
    c.stream_need.result ≡ stream_need (setting_in at_first.args.h) (leb (2 ^ 31) at_first.first_high-id.result)
need_is c = c.stream_need.ensures ∙ ap (λ (t : Setting). stream_need t (leb (2 ^ 31) c.first_high-id.result)) c.setting_in.ensures.0

pub returns-then-h-stream_need : goal.returns-then-h-stream_need
returns-then-h-stream_need c =
    let at-need = c.before.before.before in
    let at_first = at-need.before.before in
    let a = at_first.args in
    side_need a.h (ids_in a.h a.bytes.now) at_first.first_high-id.result at-need.stream_need.result at_first.first_high-id.ensures (need_is at-need) c.if-h-stream_need.true

pub returns-then-high : goal.returns-then-high
returns-then-high c =
    let at-need = c.before.before.before.before in
    let at_first = at-need.before.before in
    let a = at_first.args in
    side_high a.h (ids_in a.h a.bytes.now) at_first.first_high-id.result at-need.stream_need.result at_first.first_high-id.ensures (need_is at-need) c.if-h-stream_need.false (le-leb _ _ c.if-high.true)

pub returns : goal.returns
returns c =
    let at-need = c.before.before.before.before in
    let at_first = at-need.before.before in
    let a = at_first.args in
    side_low a.h (ids_in a.h a.bytes.now) at_first.first_high-id.result at-need.stream_need.result at_first.first_high-id.ensures (need_is at-need) c.if-h-stream_need.false (lt-leb _ _ c.if-high.false)
