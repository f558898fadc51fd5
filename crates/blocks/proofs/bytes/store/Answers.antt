-- `store` meets its contract: the bytes of the word are its eight digits.
use mathlib.Core.Path.{◌∙◌}
use Rattle.blocks.proofs.Law.Storing.{eight_digits, stored}
use Rattle.blocks.proofs.bytes.store.Goals as goal

pub returns : goal.returns
returns c = stored c.args.out.now _ _ c.args.at 8 (c.copy_from_slice.ensures.after ∙ c.to_le_bytes.ensures ∙ eight_digits c.args.word)
