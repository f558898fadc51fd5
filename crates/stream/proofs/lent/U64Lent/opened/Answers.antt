use Rattle.stream.specs.Block.{block_codes}
use Rattle.stream.proofs.lent.U64Lent.opened.Goals as goal

pub returns : goal.returns
unfolding block_codes
returns c = c.opened64.ensures
