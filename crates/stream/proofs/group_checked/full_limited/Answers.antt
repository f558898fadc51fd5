-- `stream::group_checked::full_limited` meets its contract: what is opened is the block's codes.
-- Assumes nothing.
use mathlib.Core.Path.{refl, ap, ◌∙◌}
use Rattle.stream.specs.Group.{within}
use Rattle.stream.proofs.Law.Group.Blocks.{opened_codes}
use Rattle.stream.proofs.group_checked.full_limited.Goals as goal

pub returns-then-w-le32 : goal.returns-then-w-le32
returns-then-w-le32 c =
    let f = c.before in
    c.limited.ensures
    ∙ ap (within f.args.limit) (c.opened32.ensures ∙ opened_codes f.args.w 32 f.args.s.now refl)

pub returns : goal.returns
returns c =
    let f = c.before in
    c.limited-2.ensures
    ∙ ap (within f.args.limit) (c.opened64.ensures ∙ opened_codes f.args.w 32 f.args.s.now refl)
