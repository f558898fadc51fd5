-- `half` meets its contract: the first four bytes of the word are its four digits.
use mathlib.Core.Path.{ap, ◌∙◌}
use lib.ListN.{take}
use Rattle.blocks.proofs.Law.Storing.{four_digits, stored}
use Rattle.blocks.proofs.bytes.half.Goals as goal

pub returns : goal.returns
returns c = stored c.args.out.now _ _ c.args.at 4 (c.copy_from_slice.ensures.after ∙ ap (take 4) c.to_le_bytes.ensures ∙ four_digits c.args.word)
