-- `stream::header::setting_right` meets its contract. A setting that is not allowed is refused before its need is asked for.
use Rattle.stream.proofs.Law.Plain.Truth.{and_false, and_true}
use Rattle.stream.specs.Header.{k_of, said_mode, said_size, setting_in, need_right, setting_right}
use Rattle.stream.specs.Setting.{known_width, allowed_setting, setting_of, need}
use Rattle.stream.specs.declared.header.Header.{Header}
use mathlib.Core.Bool.{Bool, true, ◌&&◌}
use Prim.Native.Nat.{ℕ}
use lib.IntN.{ℤ}
use mathlib.Core.Path.{◌≡◌, sym, ap, ◌∙◌}
use mir.Facts.{to_z-of_z}
use mir.Val.{to_z, of_z}
use mir.Syntax.{w32}
use Rattle.stream.proofs.header.setting_right.Goals as goal
use Rattle.stream.proofs.header.setting_right.Lts as lts
use Rattle.stream.proofs.header.setting_right.Reads as reads
use Rattle.stream.proofs.header.setting_right.Tie as tie

abbrev After-known_width : Type 0
After-known_width = lts.After-known_width tie.the-claims reads.Pre reads.Post

abbrev Else1 : Type 0
Else1 = lts.Else1 tie.the-claims reads.Pre reads.Post

abbrev After-exponent_of : Type 0
After-exponent_of = lts.After-exponent_of tie.the-claims reads.Pre reads.Post

abbrev After-allowed : Type 0
After-allowed = lts.After-allowed tie.the-claims reads.Pre reads.Post

-- a setting by its numbers
same : (W : ℕ) {m m' : ℕ} {k k' : ℤ} {z z' : ℕ} → m ≡ m' → k ≡ k' → z ≡ z' → (allowed_setting W m k z ≡ allowed_setting W m' k' z') × (setting_of W m k z ≡ setting_of W m' k' z')
same W e f g = (rw (e, f, g), rw (e, f, g))

-- the header, where the width is tested, and where k is known
abbrev header : After-known_width → Header
header c = c.args.h

abbrev tested : After-exponent_of → After-known_width
tested c = c.before.before

known : (c : Else1) → known_width (header c.before).width ≡ true
known c = sym c.known_width.ensures ∙ c.if-not-known_width.false

-- k, as it is handed on
k_is : (c : After-exponent_of) → to_z w32 (of_z w32 c.exponent_of-k.result) ≡ k_of (header (tested c))
k_is c = to_z-of_z {w = w32} (record { sfits = c.exponent_of-k.type_inv }) ∙ c.exponent_of-k.ensures

-- the header's own setting is allowed or not
abbrev allowed_in : Header → Bool
allowed_in h = allowed_setting h.width (said_mode h.mode) (k_of h) (said_size h.mode)

allowed_is : (c : After-allowed) → c.allowed.result ≡ allowed_in (header (tested c.before))
allowed_is c =
    let w = tested c.before in
    c.allowed.ensures ∙ (same _ w.said_mode-mode.ensures (k_is c.before) w.said_size-size.ensures).0

pub returns-then-not-known_width : goal.returns-then-not-known_width
unfolding setting_right
returns-then-not-known_width c = rw (sym c.known_width.ensures ∙ c.if-not-known_width.true)

pub allowed-requires : goal.allowed-requires
allowed-requires c = known c.before

pub returns-then-not-allowed : goal.returns-then-not-allowed
unfolding setting_right
returns-then-not-allowed c =
    let h = header (tested c.before.before) in
    rw (sym (allowed_is c.before) ∙ c.if-not-allowed.true) (sym (and_false (known_width h.width && need_right h)))

pub setting_of-requires : goal.setting_of-requires
setting_of-requires c =
    (known c.before.before.before, sym c.allowed.ensures ∙ c.if-not-allowed.false)

pub returns : goal.returns
unfolding setting_right need_right
returns c =
    let at-allowed = c.before.before.before.before in
    let w = tested at-allowed.before in
    let h = header w in
    let setting : c.setting_of.result ≡ setting_in h =
    c.setting_of.ensures.0 ∙ (same _ w.said_mode-mode.ensures (k_is at-allowed.before) w.said_size-size.ensures).1 in
    rw (known at-allowed.before.before, sym (allowed_is at-allowed) ∙ c.if-not-allowed.false)
    (rw (c.need_of-need.ensures ∙ ap need setting, and_true))
