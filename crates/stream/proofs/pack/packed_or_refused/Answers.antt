-- `stream::pack::packed_or_refused` meets its contract.
use Prim.Native.Nat.{ℕ, ◌≤◌}
use Rattle.stream.proofs.Law.Rows.First.{handed_on}
use Rattle.stream.proofs.Law.Rows.Packing.{length_passed, asked, enough_room, pack_refused, pack_short, pack_done}
use Rattle.stream.specs.Header.{chunks_in}
use Rattle.stream.specs.Lent.{chosen}
use Rattle.stream.specs.Packing.{short_row}
use Rattle.stream.specs.Rows.{first}
use Rattle.stream.specs.Setting.{allowed_setting, setting_at}
use Rattle.stream.specs.Writing.{end_of, stream}
use Rattle.stream.specs.declared.setting.Setting.{Setting}
use lib.IntN.{ℤ}
use lib.ListN.{length, drop}
use mathlib.Core.List.{List, [], ◌∷◌, ◌++◌}
use mathlib.Core.Path.{sym, ap, ap₂, subst, ◌∙◌}
use mir.Facts.{to_z-of_z}
use native.Mathlib.Omega.{arith}
use Rattle.stream.proofs.pack.packed_or_refused.Goals as goal

pub returns-in_err-length_step : goal.returns-in_err-length_step
returns-in_err-length_step c =
    let a = c.args in
    let vs = chosen a.width a.v32.now a.v64.now in
    let rows = asked a.width a.level a.mode a.k a.size vs c.ranges.k a.n c.requires.1 _ c.length_step.ensures in
    let p = pack_refused a.width a.level a.mode a.k a.size vs a.out.now _ (rows ∙ c.in_err-length_step.was) in
    record { value = handed_on c.from_residual.ensures.1 ∙ p.0; out_after = p.1 }

pub setting_at-t-requires : goal.setting_at-t-requires
setting_at-t-requires c =
    let a = c.args in
    let vs = chosen a.width a.v32.now a.v64.now in
    let rows = asked a.width a.level a.mode a.k a.size vs c.ranges.k a.n c.requires.1 _ c.length_step.ensures in
    let passed = length_passed a.width a.level a.mode a.k a.size (length vs) (rows ∙ c.in_ok-length_step.was) in
    (c.requires.0, ap (λ (z : ℤ). allowed_setting a.width a.mode z a.size) (to_z-of_z c.ranges.k) ∙ passed.allowed)

pub room_step-requires : goal.room_step-requires
room_step-requires c =
    let a = c.args in
    let vs = chosen a.width a.v32.now a.v64.now in
    let rows = asked a.width a.level a.mode a.k a.size vs c.ranges.k a.n c.requires.1 _ c.length_step.ensures in
    let passed = length_passed a.width a.level a.mode a.k a.size (length vs) (rows ∙ c.in_ok-length_step.was) in
    let setting_is = c.setting_at-t.ensures.0 ∙ ap (λ (z : ℤ). setting_at a.level a.width a.mode z a.size) (to_z-of_z c.ranges.k) in
    let list_is = ap (λ (t : Setting). chosen t.width a.v32.now a.v64.now) setting_is in
    (c.setting_at-t.ensures.1, c.requires.1 ∙ sym (ap length list_is), omega (arith, passed.few, c.requires.1), c.requires.2)

pub returns-in_err-room_step : goal.returns-in_err-room_step
returns-in_err-room_step c =
    let a = c.args in
    let vs = chosen a.width a.v32.now a.v64.now in
    let rows = asked a.width a.level a.mode a.k a.size vs c.ranges.k a.n c.requires.1 _ c.length_step.ensures in
    let setting_is = c.setting_at-t.ensures.0 ∙ ap (λ (z : ℤ). setting_at a.level a.width a.mode z a.size) (to_z-of_z c.ranges.k) in
    let list_is = ap (λ (t : Setting). chosen t.width a.v32.now a.v64.now) setting_is in
    let short = sym (c.room_step.ensures ∙ ap₂ (λ (t : Setting) (xs : List ℕ). first (short_row t xs (length a.out.now) ∷ [])) setting_is list_is) in
    let p = pack_short a.width a.level a.mode a.k a.size vs a.out.now (rows ∙ c.in_ok-length_step.was) _ (short ∙ c.in_err-room_step.was) in
    record { value = handed_on c.from_residual-in_err-room_step.ensures.1 ∙ p.0; out_after = p.1 }

pub written-requires : goal.written-requires
written-requires c =
    let a = c.args in
    let vs = chosen a.width a.v32.now a.v64.now in
    let rows = asked a.width a.level a.mode a.k a.size vs c.ranges.k a.n c.requires.1 _ c.length_step.ensures in
    let passed = length_passed a.width a.level a.mode a.k a.size (length vs) (rows ∙ c.in_ok-length_step.was) in
    let setting_is = c.setting_at-t.ensures.0 ∙ ap (λ (z : ℤ). setting_at a.level a.width a.mode z a.size) (to_z-of_z c.ranges.k) in
    let list_is = ap (λ (t : Setting). chosen t.width a.v32.now a.v64.now) setting_is in
    let short = sym (c.room_step.ensures ∙ ap₂ (λ (t : Setting) (xs : List ℕ). first (short_row t xs (length a.out.now) ∷ [])) setting_is list_is) in
    record {
      allowed = (c.setting_at-t.ensures.1, c.requires.1 ∙ sym (ap length list_is), omega (arith, passed.few, c.requires.1), omega (arith, c.requires.2, c.room_step.auto.c32));
      v64_in_bounds = subst (λ (n : ℕ). n ≤ length a.out.now) (sym (ap₂ (λ (t : Setting) (xs : List ℕ). end_of t xs (chunks_in (length xs))) setting_is list_is))
          (enough_room (setting_at a.level a.width a.mode a.k a.size) vs (length a.out.now) (short ∙ c.in_ok-room_step.was));
    }

pub returns : goal.returns
returns c =
    let a = c.args in
    let vs = chosen a.width a.v32.now a.v64.now in
    let rows = asked a.width a.level a.mode a.k a.size vs c.ranges.k a.n c.requires.1 _ c.length_step.ensures in
    let setting_is = c.setting_at-t.ensures.0 ∙ ap (λ (z : ℤ). setting_at a.level a.width a.mode z a.size) (to_z-of_z c.ranges.k) in
    let list_is = ap (λ (t : Setting). chosen t.width a.v32.now a.v64.now) setting_is in
    let short = sym (c.room_step.ensures ∙ ap₂ (λ (t : Setting) (xs : List ℕ). first (short_row t xs (length a.out.now) ∷ [])) setting_is list_is) in
    let w = c.written in
    let p =
    pack_done a.width a.level a.mode a.k a.size vs a.out.now (rows ∙ c.in_ok-length_step.was) w.result _ (short ∙ c.in_ok-room_step.was)
    (w.ensures.value ∙ ap₂ (λ (t : Setting) (xs : List ℕ). length (stream a.level t xs)) setting_is list_is)
    (w.ensures.out_after ∙ ap₂ (λ (t : Setting) (xs : List ℕ). stream a.level t xs ++ drop w.result a.out.now) setting_is list_is) in
    record { value = p.0; out_after = p.1 }
