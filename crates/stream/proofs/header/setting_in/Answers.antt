-- `stream::header::setting_in` meets its contract.
use Prim.Native.Nat.{ℕ}
use Rattle.stream.specs.Header.{k_of, setting_in}
use Rattle.stream.specs.Setting.{allowed_setting, setting_of}
use lib.IntN.{ℤ}
use mathlib.Core.Path.{◌≡◌, ◌∙◌}
use mir.Facts.{to_z-of_z}
use mir.Val.{to_z, of_z}
use mir.Syntax.{w32}
use Rattle.stream.proofs.header.setting_in.Goals as goal
use Rattle.stream.proofs.header.setting_in.Lts as lts
use Rattle.stream.proofs.header.setting_in.Reads as reads
use Rattle.stream.proofs.header.setting_in.Tie as tie

abbrev Start : Type 0
Start = lts.Start tie.the-claims reads.Pre reads.Post

abbrev After-exponent_of : Type 0
After-exponent_of = lts.After-exponent_of tie.the-claims reads.Pre reads.Post

-- a setting by its numbers
same : (W : ℕ) {m m' : ℕ} {k k' : ℤ} {z z' : ℕ} → m ≡ m' → k ≡ k' → z ≡ z' → (allowed_setting W m k z ≡ allowed_setting W m' k' z') × (setting_of W m k z ≡ setting_of W m' k' z')
same W e f g = (rw (e, f, g), rw (e, f, g))

abbrev entry : After-exponent_of → Start
entry c = c.before.before.before

k_is : (c : After-exponent_of) → to_z w32 (of_z w32 c.exponent_of.result) ≡ k_of (entry c).args.h
k_is c = to_z-of_z {w = w32} (record { sfits = c.exponent_of.type_inv }) ∙ c.exponent_of.ensures

pub setting_of-requires : goal.setting_of-requires
setting_of-requires c =
    ((entry c).requires.1.known, (same _ c.said_mode-mode.ensures (k_is c) c.said_size-size.ensures).0 ∙ (entry c).requires.1.allowed)

pub returns : goal.returns
returns c =
    let e = c.before in
    let is : c.setting_of.result ≡ setting_in (entry e).args.h =
    c.setting_of.ensures.0 ∙ (same _ e.said_mode-mode.ensures (k_is e) e.said_size-size.ensures).1 in
    (is, c.setting_of.ensures.1)
