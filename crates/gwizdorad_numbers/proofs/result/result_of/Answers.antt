-- `gwizdorad_numbers::result::result_of` meets its contract.
use mathlib.Core.Path.{refl}
use Rattle.gwizdorad_numbers.specs.Result.{result_of}
use Rattle.gwizdorad_numbers.proofs.result.result_of.Goals as goal

pub returns : goal.returns
unfolding result_of
returns c = refl
