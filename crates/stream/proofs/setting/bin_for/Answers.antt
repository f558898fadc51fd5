-- `stream::setting::bin_for` meets its contract.
use Rattle.std.specs.Prelude.{ℕ, Option, unwrap_or}
use Rattle.stream.proofs.Law.Setting.Allowed.{setting_bin}
use Rattle.stream.specs.Setting.{fraction_bits, bin_for}
use Rattle.bins.specs.Answers.{bin_answer}
use mir.Facts.{to_z-of_z}
use borrow.Author.Tests.{ne_eqb}
use mathlib.Core.Path.{◌∙◌, ap}
use Rattle.stream.proofs.setting.bin_for.Goals as goal

pub returns-then-mode-ne1 : goal.returns-then-mode-ne1
unfolding bin_for
returns-then-mode-ne1 c = rw (ne_eqb c.args.mode 1 c.if-mode-ne1.true)

pub returns : goal.returns
returns c =
    let a = c.args in
    c.unwrap_or.ensures ∙ ap (λ (j : Option ℕ). unwrap_or j 0) (c.bin_at.ensures ∙ ap (bin_answer a.width (fraction_bits a.width)) (to_z-of_z c.ranges.k))
    ∙ setting_bin a.width a.mode a.k c.requires.1 c.if-mode-ne1.false
