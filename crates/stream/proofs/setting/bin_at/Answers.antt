-- `stream::setting::bin_at` meets its contract.
use Rattle.stream.proofs.Law.Setting.Allowed.{width_other}
use Rattle.stream.specs.Setting.{fraction_bits}
use Rattle.bins.specs.Answers.{bin_answer}
use mir.Facts.{to_z-of_z}
use mathlib.Core.Path.{◌∙◌, ap}
use Rattle.stream.proofs.setting.bin_at.Goals as goal

pub returns-then-width-eq32 : goal.returns-then-width-eq32
unfolding fraction_bits
returns-then-width-eq32 c = rw c.if-width-eq32.true (c.bin.ensures ∙ ap (bin_answer 32 23) (to_z-of_z c.ranges.k))

pub returns : goal.returns
unfolding fraction_bits
returns c = rw (width_other c.args.width c.requires c.if-width-eq32.false) (c.bin-2.ensures ∙ ap (bin_answer 64 52) (to_z-of_z c.ranges.k))
