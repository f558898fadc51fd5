-- `load` meets its contract: the library's sum of eight bytes is the number that they spell.
use mathlib.Core.Path.{◌∙◌}
use Rattle.blocks.proofs.Law.Reading.{load_read}
use Rattle.blocks.proofs.bytes.load.Goals as goal

pub returns : goal.returns
returns c = c.from_le_bytes.ensures ∙ load_read c.args.s.now c.args.at c.requires
