-- `stream::setting::stream_need` meets its contract.
use mathlib.Core.Path.{ap, ◌∙◌}
use Prim.Native.Nat.{ℕ, max}
use Rattle.stream.specs.Setting.{stream_need}
use Rattle.stream.proofs.setting.stream_need.Goals as goal

pub returns-then-high : goal.returns-then-high
unfolding stream_need
returns-then-high c = rw c.if-high.true (c.max.ensures ∙ ap (λ (n : ℕ). max n 12) c.need_of.ensures)

pub returns-else-high : goal.returns-else-high
unfolding stream_need
returns-else-high c = rw c.if-high.false c.need_of-else-high.ensures
