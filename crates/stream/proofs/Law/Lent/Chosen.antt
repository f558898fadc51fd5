-- The list of the stream's width, of those that are lent.
use mathlib.Core.Path.{◌≡◌, refl, sym, subst, ap}
use mathlib.Core.Logic.{⊎_elim}
use mathlib.Core.Bool.{Bool, true, false, cond}
use mathlib.Core.List.{List}
use Prim.Native.Nat.{ℕ, ◌^◌}
use lib.Dec.{eqb}
use lib.ListN.{length}
use borrow.Author.Tests.{eq-eqb, ne_eqb}
use Rattle.blocks.specs.Bytes.{Below}
use Rattle.stream.specs.Setting.{known_width}
use Rattle.stream.specs.Lent.{chosen}
use Rattle.stream.specs.Writing.{piece}
use Rattle.stream.proofs.Law.Setting.Allowed.{width_cases}

module _ (W : ℕ) (a b : List ℕ) where
  pub at_32 : W ≡ 32 → chosen W a b ≡ a
  unfolding chosen
  at_32 e = ap (λ (x : Bool). cond x a b) (eq-eqb W 32 e)

  pub at_other : (W ≡ 32 → ⊥) → chosen W a b ≡ b
  unfolding chosen
  at_other n = ap (λ (x : Bool). cond x a b) (ne_eqb W 32 n)

  pub chosen_piece : (j : ℕ) → chosen W (piece a j) (piece b j) ≡ piece (chosen W a b) j
  unfolding chosen
  chosen_piece j = go (eqb W 32)
    where
      go : (x : Bool) → cond x (piece a j) (piece b j) ≡ piece (cond x a b) j
      go true = refl
      go false = refl

  pub chosen_below : known_width W ≡ true → Below (2 ^ 32) a → Below (2 ^ 64) b → Below (2 ^ W) (chosen W a b)
  unfolding chosen
  chosen_below known under-a under-b =
      ⊎_elim
      (λ e. subst (λ (w : ℕ). Below (2 ^ w) (cond (eqb w 32) a b)) (sym e) under-a)
      (λ e. subst (λ (w : ℕ). Below (2 ^ w) (cond (eqb w 32) a b)) (sym e) under-b)
      (width_cases W known)

-- lists that keep their lengths
pub chosen_long : (W : ℕ) (a b x y : List ℕ) → length x ≡ length a → length y ≡ length b → length (chosen W x y) ≡ length (chosen W a b)
unfolding chosen
chosen_long W a b x y e f = go (eqb W 32)
  where
    go : (z : Bool) → length (cond z x y) ≡ length (cond z a b)
    go true = e
    go false = f
