-- `stream::group_checked::block_width` meets its contract: a full block is opened at once, and else its codes are read.
-- Assumes nothing.
use mathlib.Core.Path.{ap, ◌∙◌}
use Rattle.stream.specs.Group.{width_of}
use Rattle.stream.proofs.Law.Group.Blocks.{opened_codes}
use Rattle.stream.proofs.group_checked.block_width.Goals as goal

pub returns-then-w-le32 : goal.returns-then-w-le32
returns-then-w-le32 c =
    let full = c.before in
    let a = full.args in
    c.width.ensures.0 ∙ ap width_of (c.opened32.ensures ∙ opened_codes a.w a.n a.s.now full.if-n-eq32.true)

pub returns-then-w-s : goal.returns-then-w-s
returns-then-w-s c =
    let full = c.before in
    let a = full.args in
    c.width-then-w-s.ensures.0 ∙ ap width_of (c.opened64.ensures ∙ opened_codes a.w a.n a.s.now full.if-n-eq32.true)

pub returns : goal.returns
returns c =
    c.width-2.ensures.0 ∙ ap width_of (c.counted.ensures ∙ c.codes_of-g.ensures.1)
