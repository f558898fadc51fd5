-- `summary::listed::summary_place` meets its contract: a true summary is the side part 1.
use Rattle.std.specs.Option.{is_some}
use mathlib.Core.Path.{sym, ap, ◌∙◌}
use Rattle.summary.specs.Summary.{summary_id}
use Rattle.summary.proofs.Law.True.{summary_part, summary_lies}
use Rattle.summary.proofs.listed.summary_place.Goals as goal

pub unwrap-requires : goal.unwrap-requires
unfolding summary_id
unwrap-requires c = ap is_some (c.part.ensures ∙ summary_part c.args.h c.args.bytes.now c.requires.0 c.requires.1)

pub returns : goal.returns
unfolding summary_id
returns c = summary_lies c.args.h c.args.bytes.now c.requires.0 c.requires.1 _ (sym c.part.ensures ∙ c.unwrap.ensures)
