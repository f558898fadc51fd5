-- `summary::entry::entry_length` meets its contract.
use mathlib.Core.Path.{refl}
use Rattle.summary.specs.Entry.{entry_length}
use Rattle.summary.proofs.entry.entry_length.Goals as goal

pub returns : goal.returns
unfolding entry_length
returns c = refl
