-- `stream::setting::setting_of` meets its contract.
use Prim.Native.Nat.{ℕ}
use Rattle.stream.proofs.Law.Setting.Allowed.{width_most, known_most, mode_allowed, size_known, mode_small, made_allowed}
use Rattle.stream.specs.Relied.{Allowed}
use Rattle.stream.specs.Setting.{allowed_mode, bin_for, setting_of}
use mir.Facts.{to_z-of_z}
use mathlib.Core.Path.{◌≡◌, ap, subst, sym, ◌∙◌}
use native.Mathlib.Omega.{arith}
use Rattle.stream.proofs.setting.setting_of.Goals as goal
use Rattle.stream.proofs.setting.setting_of.Lts as lts
use Rattle.stream.proofs.setting.setting_of.Reads as reads
use Rattle.stream.proofs.setting.setting_of.Tie as tie

abbrev After-bin_for : Type 0
After-bin_for = lts.After-bin_for tie.the-claims reads.Pre reads.Post

made : (c : After-bin_for) → let a = c.args in record { width = a.width; mode = a.mode; bin = c.bin_for.result; size = a.size; halves = 0 } ≡ setting_of a.width a.mode a.k a.size
made c = let a = c.args in ap (λ (b : ℕ). record { width = a.width; mode = a.mode; bin = b; size = a.size; halves = 0 }) (c.bin_for.ensures ∙ ap (bin_for a.width a.mode) (to_z-of_z c.ranges.k))

pub overflow_cast-result : goal.overflow_cast-result
overflow_cast-result c = omega (arith, width_most c.args.width c.requires.0)

pub overflow_cast-result-2 : goal.overflow_cast-result-2
overflow_cast-result-2 c = let a = c.args in omega (arith, mode_small a.width a.mode a.k (mode_allowed a.width a.mode a.k a.size c.requires.1))

pub bin_for-requires : goal.bin_for-requires
bin_for-requires c =
    let a = c.args in
    (c.requires.0, ap (allowed_mode a.width a.mode) (to_z-of_z c.ranges.k) ∙ mode_allowed a.width a.mode a.k a.size c.requires.1)

pub overflow_cast-result-3 : goal.overflow_cast-result-3
overflow_cast-result-3 c =
    let a = c.args in
    omega (arith, known_most a.size (size_known a.width a.mode a.k a.size c.requires.1))

pub returns : goal.returns
returns c = let s = c in (made c, subst Allowed (sym (made c)) (made_allowed s.args.width s.args.mode s.args.k s.args.size s.requires.0 s.requires.1))
