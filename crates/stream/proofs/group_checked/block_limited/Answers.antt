-- `stream::group_checked::block_limited` meets its contract: a full block is opened at once, and else its codes are read.
-- Assumes nothing.
use mathlib.Core.Path.{ap, ◌∙◌}
use Rattle.stream.specs.Group.{within}
use Rattle.stream.proofs.Law.Group.Blocks.{opened_codes}
use Rattle.stream.proofs.group_checked.block_limited.Goals as goal

pub returns-then-w-s : goal.returns-then-w-s
returns-then-w-s c =
    let full = c.before in
    let a = full.args in
    c.limited.ensures
    ∙ ap (within a.limit) (c.opened64.ensures ∙ opened_codes a.w a.n a.s.now full.if-n-eq32.true)

pub returns : goal.returns
returns c =
    let a = c.args in
    c.limited-2.ensures ∙ ap (within a.limit) (c.counted.ensures ∙ c.codes_of-g.ensures.1)
