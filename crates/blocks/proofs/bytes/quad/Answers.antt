-- `quad` meets its contract: the library's sum of four bytes is the number that they spell.
use mathlib.Core.Path.{◌∙◌}
use Rattle.blocks.proofs.Law.Reading.{quad_read}
use borrow.Author.Rules.{rules}
use Rattle.blocks.proofs.bytes.quad.Goals as goal

pub returns : goal.returns
returns c = (c.from_le_bytes.ensures ∙ quad_read c.args.s.now c.args.at c.requires, search rules)
