use Rattle.words.proofs.Lists.{take_of}
use Rattle.stream.proofs.group.counted.Goals as goal

pub returns : goal.returns
returns g c = take_of g.met.T.Word.values_law c.args.n c.args.codes.now
