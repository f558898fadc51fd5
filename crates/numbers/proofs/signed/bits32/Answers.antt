use Rattle.std.proofs.Common.{ap, ◌∙◌, of_z, w32, to_z-of_z}
use Rattle.numbers.proofs.Law.Signed.{bits_are}
use Rattle.numbers.proofs.signed.bits32.Goals as goal

pub returns : goal.returns
returns c = c.cast_unsigned.ensures ∙ ap (of_z w32) (to_z-of_z c.ranges.x) ∙ bits_are c.args.x
