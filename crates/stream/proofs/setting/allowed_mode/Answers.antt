-- `stream::setting::allowed_mode` meets its contract.
use Rattle.std.specs.Prelude.{is_some}
use Rattle.stream.specs.Setting.{fraction_bits, lossless_mode, allowed_mode}
use Rattle.bins.specs.Answers.{bin_answer}
use mir.Facts.{to_z-of_z}
use Rattle.stream.proofs.Law.Setting.Allowed.{zero_test, bin_some}
use borrow.Author.Tests.{eq-eqb, ne_eqb}
use mathlib.Core.Bool.{Bool, ◌&&◌}
use mathlib.Core.Path.{◌∙◌, ap}
use Rattle.stream.proofs.setting.allowed_mode.Goals as goal

pub returns-then-mode-eq1 : goal.returns-then-mode-eq1
unfolding allowed_mode
returns-then-mode-eq1 c =
    let a = c.args in
    rw (eq-eqb a.mode 1 c.if-mode-eq1.true)
    (c.is_some.ensures ∙ ap is_some (c.bin_at.ensures ∙ ap (bin_answer a.width (fraction_bits a.width)) (to_z-of_z c.ranges.k)) ∙ bin_some a.width (fraction_bits a.width) a.k)

pub returns : goal.returns
unfolding allowed_mode lossless_mode
returns c =
    let a = c.args in
    rw (ne_eqb a.mode 1 c.if-mode-eq1.false) (ap (λ (b : Bool). lossless_mode a.mode && b) (zero_test a.k c.ranges.k))
