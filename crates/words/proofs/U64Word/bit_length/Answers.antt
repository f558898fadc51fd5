use Rattle.std.proofs.Common.{arith}
use Rattle.words.proofs.Bits.{size_leading}
use Rattle.words.proofs.U64Word.bit_length.Goals as goal

pub returns : goal.returns
returns c = (size_leading 64 c.args.self c.ranges.self.fits, omega arith)
