-- `stream::header::word_at` meets its contract.
use Rattle.stream.specs.Header.{word}
use Rattle.stream.proofs.header.word_at.Goals as goal

pub returns : goal.returns
unfolding word
returns c = c.quad.ensures
