-- `summary::entry::entry_at` meets its contract: three numbers side by side.
use borrow.Author.Rules.{rules}
use Rattle.summary.specs.Entry.{entry_length}
use Rattle.summary.proofs.entry.entry_at.Goals as goal

pub quad-requires : goal.quad-requires
unfolding entry_length
quad-requires c = search rules

pub pattern_at-requires : goal.pattern_at-requires
unfolding entry_length
pattern_at-requires c = search rules

pub pattern_at-requires-2 : goal.pattern_at-requires-2
unfolding entry_length
pattern_at-requires-2 c = search rules
