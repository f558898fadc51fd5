use Rattle.std.proofs.Common.{◌∙◌, w32, to_z-of_z}
use Rattle.numbers.proofs.Law.Signed.{view_is}
use Rattle.numbers.proofs.signed.view32.Goals as goal

pub returns : goal.returns
returns c = to_z-of_z {w = w32} (record { sfits = c.cast_signed.type_inv }) ∙ c.cast_signed.ensures ∙ view_is c.args.s
