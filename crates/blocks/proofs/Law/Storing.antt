-- The bytes of a word in one store.
-- Assumes nothing.
use mathlib.Core.Path.{◌≡◌, sym, ap, ap₂, ◌∙◌}
use mathlib.Core.List.{List, ◌++◌, append_assoc}
use Prim.Native.Nat.{ℕ, ◌+◌, ◌-◌}
use native.Mathlib.Nat.{div-div-eq-div-mul}
use native.Mathlib.Omega.{arith}
use borrow.Rule.Slice.PartMut.{put_mid}
use lib.ListN.{take, drop}
use lib.Seq.{drop-drop}
use mir.Syntax.{w64}
use Rattle.std.specs.Int.{to_le_bytes}
use Rattle.blocks.specs.Bytes.{digits}

pub eight_digits : (x : ℕ) → to_le_bytes w64 x ≡ digits 256 8 x
unfolding digits
eight_digits x = simp div-div-eq-div-mul

pub four_digits : (x : ℕ) → take 4 (to_le_bytes w64 x) ≡ digits 256 4 x
unfolding digits
four_digits x = simp div-div-eq-div-mul

-- what stands after k bytes were put at a place
pub stored : (out ys zs : List ℕ) (at k : ℕ) → ys ≡ zs → put_mid at ((at + k) - at) out ys ≡ take at out ++ zs ++ drop (at + k) out
stored out ys zs at k e =
    let whole : at + (at + k - at) ≡ at + k = omega arith in
    ap₂ (λ (xs rest : List ℕ). take at out ++ (xs ++ rest)) e (drop-drop (at + k - at) at out ∙ ap (λ (n : ℕ). drop n out) whole)
    ∙ sym (append_assoc (take at out) zs (drop (at + k) out))
