-- `stream::pack::measured_or_refused` meets its contract.
use Prim.Native.Nat.{ℕ}
use Rattle.stream.proofs.Law.Rows.First.{handed_on}
use Rattle.stream.proofs.Law.Rows.Packing.{length_passed, asked, length_refused, length_done}
use Rattle.stream.specs.Header.{chunks_in}
use Rattle.stream.specs.Lent.{chosen}
use Rattle.stream.specs.Setting.{allowed_setting, setting_at}
use Rattle.stream.specs.Writing.{end_of}
use Rattle.stream.specs.declared.setting.Setting.{Setting}
use lib.IntN.{ℤ}
use lib.ListN.{length}
use mathlib.Core.List.{List}
use mathlib.Core.Path.{sym, ap, ap₂, ◌∙◌}
use mir.Facts.{to_z-of_z}
use native.Mathlib.Omega.{arith}
use Rattle.stream.proofs.pack.measured_or_refused.Goals as goal

pub returns-in_err-length_step : goal.returns-in_err-length_step
returns-in_err-length_step c =
    let a = c.args in
    let vs = chosen a.width a.v32.now a.v64.now in
    let rows = asked a.width a.level a.mode a.k a.size vs c.ranges.k a.n c.requires.1 _ c.length_step.ensures in
    handed_on c.from_residual.ensures.1 ∙ length_refused a.width a.level a.mode a.k a.size vs _ (rows ∙ c.in_err-length_step.was)

pub setting_at-t-requires : goal.setting_at-t-requires
setting_at-t-requires c =
    let a = c.args in
    let vs = chosen a.width a.v32.now a.v64.now in
    let rows = asked a.width a.level a.mode a.k a.size vs c.ranges.k a.n c.requires.1 _ c.length_step.ensures in
    let passed = length_passed a.width a.level a.mode a.k a.size (length vs) (rows ∙ c.in_ok-length_step.was) in
    (c.requires.0, ap (λ (z : ℤ). allowed_setting a.width a.mode z a.size) (to_z-of_z c.ranges.k) ∙ passed.allowed)

pub measured-requires : goal.measured-requires
measured-requires c =
    let a = c.args in
    let vs = chosen a.width a.v32.now a.v64.now in
    let rows = asked a.width a.level a.mode a.k a.size vs c.ranges.k a.n c.requires.1 _ c.length_step.ensures in
    let passed = length_passed a.width a.level a.mode a.k a.size (length vs) (rows ∙ c.in_ok-length_step.was) in
    let setting_is = c.setting_at-t.ensures.0 ∙ ap (λ (z : ℤ). setting_at a.level a.width a.mode z a.size) (to_z-of_z c.ranges.k) in
    let list_is = ap (λ (t : Setting). chosen t.width a.v32.now a.v64.now) setting_is in
    (c.setting_at-t.ensures.1, c.requires.1 ∙ sym (ap length list_is), omega (arith, passed.few, c.requires.1), c.requires.2)

pub returns : goal.returns
returns c =
    let a = c.args in
    let vs = chosen a.width a.v32.now a.v64.now in
    let rows = asked a.width a.level a.mode a.k a.size vs c.ranges.k a.n c.requires.1 _ c.length_step.ensures in
    let setting_is = c.setting_at-t.ensures.0 ∙ ap (λ (z : ℤ). setting_at a.level a.width a.mode z a.size) (to_z-of_z c.ranges.k) in
    let list_is = ap (λ (t : Setting). chosen t.width a.v32.now a.v64.now) setting_is in
    length_done a.width a.level a.mode a.k a.size vs c.measured.result (rows ∙ c.in_ok-length_step.was)
    (c.measured.ensures ∙ ap₂ (λ (t : Setting) (xs : List ℕ). end_of t xs (chunks_in (length xs))) setting_is list_is)
