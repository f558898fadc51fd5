-- A number and a detail of 32 bits each, in one number.
use mathlib.Core.Path.{◌≡◌, refl, sym, ap, ap₂, ◌∙◌}
use mathlib.Core.Bool.{Bool, true, false, cond}
use Prim.Native.Nat.{ℕ, suc, ◌+◌, ◌-◌, ◌*◌, ◌/◌, ◌%◌, ◌^◌, ◌≤◌, ◌<◌}
use native.Mathlib.Nat.{mod-eq_of_lt}
use native.Mathlib.Omega.{arith}
use lib.Dec.{ltb, eqb, lit<, lit≤}
use lib.IntN.{ℤ, pos, negsuc, sub_ℕ}
use mir.Syntax.{w32}
use mir.Val.{SFits, to_z, of_z}
use mir.Facts.{to_z-of_z}
use Rattle.numbers.specs.Signed.{signed_view, folded, bits_of}
use Rattle.bins.specs.Tolerance.{k_offset, last_bin, bin_of}
use Rattle.numbers.specs.Bound.{exponent_of, bound_at, bound_answer, bound_number, bound_detail}
use Rattle.numbers.specs.Theorem.{Format}
use Rattle.std.specs.Prelude.{Result, Ok, Err}
use Rattle.numbers.specs.declared.bound.BoundError.{BoundError}
use Rattle.numbers.specs.declared.bound.BoundError.TheVariants.{UnknownWidth, NoTolerance, TooSmall}
use Rattle.numbers.proofs.Law.Signed.{unfolded_folded, view_of_bits, bits_below}
use Rattle.numbers.proofs.Theorems.{format_32, format_64, the_k_of_its_bin, an_allowed_k_has_a_bin, bound_is_the_largest}
use Rattle.gwizdorad_numbers.specs.Result.{result_of}
use Rattle.gwizdorad_numbers.specs.Theorem.{Uncut}

-- A signed argument arrives as the number that its bits spell, which is itself.
pub told : {A : Type 0} (f : ℤ → A) (k : ℤ) → SFits w32 k → (r e : A) → r ≡ f (to_z w32 (of_z w32 k)) → r ≡ e → f k ≡ e
told f k s r e a b = ap f (sym (to_z-of_z s)) ∙ sym a ∙ b

pub uncut : (number detail : ℕ) → number < 2 ^ 32 → detail < 2 ^ 32 → Uncut number detail (result_of number detail)
unfolding result_of
uncut number detail n d =
    record {
      number_fits = n;
      detail_fits = d;
      whole = ap₂ (λ (x y : ℕ). x * 2 ^ 32 + y) (mod-eq_of_lt n) (mod-eq_of_lt d);
    }

pub apart : {number detail r : ℕ} → Uncut number detail r → (r / 2 ^ 32 ≡ number) × (r % 2 ^ 32 ≡ detail)
apart u = (omega arith, omega arith)

-- ---- bound's k, in two's complement of 32 bits

-- a signed number whose fold has 32 bits is spelled whole, and read back
pub signed_fits : (k : ℤ) → folded k < 2 ^ 32 → (bits_of 32 k < 2 ^ 32) × (signed_view 32 (bits_of 32 k) ≡ k)
signed_fits k h = (
  rw (unfolded_folded k) at (bits_below 32 (lit< tt) (folded k) h),
  rw (unfolded_folded k) at (view_of_bits 32 (lit< tt) (folded k) h),
)

difference_folded : (a b : ℕ) → a < 2 ^ 31 → b ≤ 2 ^ 31 → folded (sub_ℕ a b) < 2 ^ 32
unfolding folded
difference_folded a b h l = go (ltb a b)
  where
    go : (less : Bool) → folded (cond less (negsuc (b - suc a)) (pos (a - b))) < 2 ^ 32
    go true = omega arith
    go false = omega arith

module _ (W m : ℕ) (format : Format W m) (last : last_bin W m < 2 ^ 31) (least : k_offset W m ≤ 2 ^ 31) (t : ℕ) where
  folded_at : folded (bound_detail (bound_at W m t)) < 2 ^ 32
  unfolding bound_detail folded exponent_of
  folded_at = go (bound_at W m t) refl
    where
      go : (a : Result ℤ BoundError) → bound_at W m t ≡ a → folded (bound_detail a) < 2 ^ 32
      go (Ok k) e =
          let allowed = (bound_is_the_largest W m format t k e).allowed in
          rw (← (the_k_of_its_bin W m format k allowed)) (difference_folded (bin_of W m k) (k_offset W m) (omega (arith, an_allowed_k_has_a_bin W m format k allowed)) least)
      go (Err UnknownWidth) e = lit< tt
      go (Err NoTolerance) e = lit< tt
      go (Err TooSmall) e = lit< tt

pub bound_folded : (width t : ℕ) → folded (bound_detail (bound_answer width t)) < 2 ^ 32
unfolding bound_answer last_bin k_offset bound_detail folded
bound_folded width t = go (eqb width 32) (eqb width 64)
  where
    go : (a b : Bool) → folded (bound_detail (cond a (bound_at 32 23 t) (cond b (bound_at 64 52 t) (Err UnknownWidth)))) < 2 ^ 32
    go true b = folded_at 32 23 format_32 (lit< tt) (lit≤ tt) t
    go false true = folded_at 64 52 format_64 (lit< tt) (lit≤ tt) t
    go false false = lit< tt

-- so its k is a number of 32 bits
pub bound_signed : (width t : ℕ) (k : ℤ) → Ok k ≡ bound_answer width t → SFits w32 k
unfolding bound_detail folded
bound_signed width t k e = small k (rw (sym e) at (bound_folded width t))
  where
    small : (k : ℤ) → folded k < 2 ^ 32 → SFits w32 k
    small (pos n) h = record { sfits = omega arith }
    small (negsuc n) h = record { sfits = omega arith }

pub bound_number_small : (a : Result ℤ BoundError) → bound_number a < 2 ^ 32
unfolding bound_number
bound_number_small (Ok k) = lit< tt
bound_number_small (Err UnknownWidth) = lit< tt
bound_number_small (Err NoTolerance) = lit< tt
bound_number_small (Err TooSmall) = lit< tt

-- bound's answer by its number and k
named : ℕ → ℤ → Result ℤ BoundError
named number k = cond (eqb number 0) (Ok k) (cond (eqb number 2) (Err UnknownWidth) (cond (eqb number 12) (Err NoTolerance) (Err TooSmall)))

named_is : (a : Result ℤ BoundError) → named (bound_number a) (bound_detail a) ≡ a
unfolding named bound_number bound_detail
named_is (Ok k) = refl
named_is (Err UnknownWidth) = refl
named_is (Err NoTolerance) = refl
named_is (Err TooSmall) = refl

pub bound_told : (a b : Result ℤ BoundError) → bound_number a ≡ bound_number b → bound_detail a ≡ bound_detail b → a ≡ b
bound_told a b number detail = sym (named_is a) ∙ ap₂ named number detail ∙ named_is b
