-- A known width is a format of the number rules, and a whole number of bytes. What a setting needs is a known level.
use mathlib.Core.Path.{◌≡◌, refl, sym, subst}
use mathlib.Core.Logic.{⊎_elim}
use mathlib.Core.Bool.{Bool, true, false, cond}
use Prim.Native.Nat.{ℕ, ◌*◌, ◌≤◌, max}
use native.Mathlib.Nat.{max-le}
use native.Mathlib.Omega.{arith}
use lib.Dec.{eqb, lit≤}
use Rattle.numbers.specs.Theorem.{Format}
use Rattle.numbers.proofs.Theorems.{format_32, format_64}
use Rattle.stream.specs.Setting.{known_width, fraction_bits, width_need, mode_need, size_need, need, stream_need}
use Rattle.stream.specs.declared.setting.Setting.{Setting}
use Rattle.stream.proofs.Law.Setting.Allowed.{width_cases, other_need_small}

pub record WidthBytes (W : ℕ) : Type 0 where
  pub bytes : ℕ
  pub whole : W ≡ 8 * bytes
  pub few : bytes ≤ 8
  pub format : Format W (fraction_bits W)

pub width_bytes : (W : ℕ) → known_width W ≡ true → WidthBytes W
unfolding fraction_bits
width_bytes W known =
    ⊎_elim
    (λ e. subst WidthBytes (sym e) (record { bytes = 4; whole = refl; few = lit≤ tt; format = format_32 }))
    (λ e. subst WidthBytes (sym e) (record { bytes = 8; whole = refl; few = lit≤ tt; format = format_64 }))
    (width_cases W known)

pub known_32 : known_width 32 ≡ true
unfolding known_width
known_32 = refl

pub known_64 : known_width 64 ≡ true
unfolding known_width
known_64 = refl

-- no setting needs less than 8
pub need_least : (t : Setting) → 8 ≤ need t
unfolding need width_need
need_least t = go (eqb t.width 64)
  where
    go : (a : Bool) → 8 ≤ max (max (cond a 10 8) (mode_need t.mode)) (size_need t.size)
    go true = omega arith
    go false = omega arith

-- nor more than 13
pub need_small : (t : Setting) → need t ≤ 13
unfolding need width_need mode_need size_need
need_small t =
    max-le (other_need_small (eqb t.width 64) (eqb t.mode 1) (eqb t.mode 2)) (go (eqb t.size 128))
  where
    go : (b : Bool) → cond b 13 8 ≤ 13
    go true = lit≤ tt
    go false = lit≤ tt

-- a stream needs no less than its setting
pub need_most : (t : Setting) (high : Bool) → need t ≤ stream_need t high
unfolding stream_need
need_most t true = omega arith
need_most t false = omega arith

-- a stream needs what its setting does where no id is high
pub low_need : (t : Setting) → stream_need t false ≡ need t
unfolding stream_need
low_need t = refl
