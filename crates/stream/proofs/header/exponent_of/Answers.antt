-- `stream::header::exponent_of` meets its contract.
use mir.Syntax.{w32}
use Rattle.stream.specs.Header.{k_of}
use mir.Facts.{to_z-of_z}
use mathlib.Core.Path.{◌∙◌}
use Rattle.stream.proofs.header.exponent_of.Goals as goal

pub returns : goal.returns
unfolding k_of
returns c = to_z-of_z {w = w32} (record { sfits = c.view32.type_inv }) ∙ c.view32.ensures
