-- What the numbers of a list of words keep of it: `values` is a map, so parts, joins and lengths of lists go through it.
use Rattle.std.proofs.Common.{◌≡◌, ℕ, ◌-◌, ◌<◌, List, ◌++◌, map, length, take, drop, get_or, ap, ap₂, sym, ◌∙◌}
use Rattle.std.proofs.Math.ListN.{set}
use Rattle.std.proofs.lemmas.List.{map-set, get_or-map, length-map, take-map, drop-map}
use borrow.Rule.Slice.PartMut.{put_mid}
use mathlib.Core.List.{map-append}

module _ {A : Type 0} {value : A → ℕ} {values : List A → List ℕ} (law : (xs : List A) → values xs ≡ map value xs) where
  pub length_of : (xs : List A) → length (values xs) ≡ length xs
  length_of xs = ap length (law xs) ∙ length-map xs value

  pub take_of : (n : ℕ) (xs : List A) → values (take n xs) ≡ take n (values xs)
  take_of n xs = law (take n xs) ∙ sym (take-map value n xs) ∙ ap (take n) (sym (law xs))

  pub drop_of : (n : ℕ) (xs : List A) → values (drop n xs) ≡ drop n (values xs)
  drop_of n xs = law (drop n xs) ∙ sym (drop-map value n xs) ∙ ap (drop n) (sym (law xs))

  pub join_of : (xs ys : List A) → values (xs ++ ys) ≡ values xs ++ values ys
  join_of xs ys = law (xs ++ ys) ∙ map-append value xs ys ∙ ap₂ ◌++◌ (sym (law xs)) (sym (law ys))

  pub set_of : (xs : List A) (i : ℕ) (x : A) → values (set xs i x) ≡ set (values xs) i (value x)
  set_of xs i x = law (set xs i x) ∙ map-set value xs i x ∙ ap (λ (l : List ℕ). set l i (value x)) (sym (law xs))

  pub get_of : (xs : List A) (i : ℕ) (d : A) → i < length xs → get_or (values xs) i 0 ≡ value (get_or xs i d)
  get_of xs i d h = ap (λ (l : List ℕ). get_or l i 0) (law xs) ∙ get_or-map value xs i d 0 h

  -- the number of a word that was read
  pub read_of : (xs : List A) (i : ℕ) (x : A) → x ≡ get_or xs i x → i < length xs → value x ≡ get_or (values xs) i 0
  read_of xs i x e h = ap value e ∙ sym (get_of xs i x h)

  -- those from a place on, and a list with others in the place of those
  pub tail_of : (i : ℕ) (xs : List A) → values (take (length xs - i) (drop i xs)) ≡ take (length (values xs) - i) (drop i (values xs))
  tail_of i xs = take_of (length xs - i) (drop i xs) ∙ ap₂ take (ap (λ (n : ℕ). n - i) (sym (length_of xs))) (drop_of i xs)

  pub mid_of : (i : ℕ) (xs ys : List A) → values (put_mid i (length xs - i) xs ys) ≡ put_mid i (length (values xs) - i) (values xs) (values ys)
  mid_of i xs ys =
      let rest = drop (length xs - i) (drop i xs) in
      join_of (take i xs) (ys ++ rest)
      ∙ ap₂ ◌++◌ (take_of i xs)
      (join_of ys rest
      ∙ ap (λ (l : List ℕ). values ys ++ l) (drop_of (length xs - i) (drop i xs) ∙ ap₂ drop (ap (λ (n : ℕ). n - i) (sym (length_of xs))) (drop_of i xs)))
