-- A list filled from the front: by a function of another list's elements, or with those elements themselves.
use mathlib.Core.Path.{◌≡◌, refl, sym, ap, ap₂, ◌∙◌}
use mathlib.Core.Logic.{◌⊎◌, inl, inr}
use mathlib.Core.List.{List, [], ◌∷◌, ◌++◌, map, map-append, append_assoc, append-nil}
use Prim.Native.Nat.{ℕ, zero, suc, ◌+◌, ◌-◌, ◌≤◌, ◌<◌}
use native.Mathlib.Numerals.{add-one}
use native.Mathlib.Omega.{arith}
use lib.ListN.{length, take, drop, get_or, set, replicate, length-map, length-append, length-drop, length-replicate, drop_of_length-le}
use lib.Seq.{take-suc, take-suc-set, drop-cons, set_at, length-take-le, take-add, take-take, take_all, drop_at}
use Rattle.blocks.specs.Bytes.{Below}
use Rattle.blocks.proofs.Law.Truth.{le_or_lt}

-- one element more of a list that is filled by f from the elements of xs
pub one_mapped : (f : ℕ → ℕ) (xs ys : List ℕ) (i : ℕ) → i < length xs → i < length ys → take i ys ≡ map f (take i xs)
    → take (i + 1) (set ys i (f (get_or xs i 0))) ≡ map f (take (i + 1) xs)
one_mapped f xs ys i h l e =
    ap (λ (k : ℕ). take k (set ys i (f (get_or xs i 0)))) (add-one i)
    ∙ take-suc-set ys i (f (get_or xs i 0)) l
    ∙ ap (λ (l : List ℕ). l ++ (f (get_or xs i 0) ∷ [])) e
    ∙ sym (ap (map f) (ap (λ (k : ℕ). take k xs) (add-one i) ∙ take-suc xs i 0 h) ∙ map-append f (take i xs) (get_or xs i 0 ∷ []))

-- the same of a list that is copied
pub one_copied : (xs ys : List ℕ) (i : ℕ) → i < length xs → i < length ys → take i ys ≡ take i xs
    → take (i + 1) (set ys i (get_or xs i 0)) ≡ take (i + 1) xs
one_copied xs ys i h l e =
    ap (λ (k : ℕ). take k (set ys i (get_or xs i 0))) (add-one i)
    ∙ take-suc-set ys i (get_or xs i 0) l
    ∙ ap (λ (l : List ℕ). l ++ (get_or xs i 0 ∷ [])) e
    ∙ sym (ap (λ (k : ℕ). take k xs) (add-one i) ∙ take-suc xs i 0 h)

-- one element more behind those that stand at the front, over what was there
pub one_over_there : (done base : List ℕ) (i x : ℕ) → length done ≡ i → i < length base
    → set (done ++ drop i base) i x ≡ (done ++ (x ∷ [])) ++ drop (i + 1) base
one_over_there done base i x long h =
    ap (λ (t : List ℕ). set (done ++ t) i x) (drop-cons base i 0 h)
    ∙ set_at done (get_or base i 0) (drop (suc i) base) x i long
    ∙ sym (append_assoc done (x ∷ []) (drop (suc i) base))
    ∙ ap (λ (k : ℕ). (done ++ (x ∷ [])) ++ drop k base) (sym (add-one i))

-- the same over what was there: the images so far, and the rest of `base`
pub one_put : (f : ℕ → ℕ) (xs base : List ℕ) (i : ℕ) → i < length xs → i < length base
    → set (map f (take i xs) ++ drop i base) i (f (get_or xs i 0)) ≡ map f (take (i + 1) xs) ++ drop (i + 1) base
one_put f xs base i h l =
    one_over_there (map f (take i xs)) base i (f (get_or xs i 0)) (length-map (take i xs) f ∙ length-take-le i xs (omega arith)) l
    ∙ ap (λ (a : List ℕ). a ++ drop (i + 1) base)
    (sym (ap (map f) (ap (λ (k : ℕ). take k xs) (add-one i) ∙ take-suc xs i 0 h) ∙ map-append f (take i xs) (get_or xs i 0 ∷ [])))

-- the same of a copy
map_same : (l : List ℕ) → map (λ (x : ℕ). x) l ≡ l
map_same [] = refl
map_same (x ∷ xs) = ap (λ (t : List ℕ). x ∷ t) (map_same xs)

pub one_over : (xs base : List ℕ) (i : ℕ) → i < length xs → i < length base
    → set (take i xs ++ drop i base) i (get_or xs i 0) ≡ take (i + 1) xs ++ drop (i + 1) base
one_over xs base i h l =
    ap (λ (t : List ℕ). set (t ++ drop i base) i (get_or xs i 0)) (sym (map_same (take i xs)))
    ∙ one_put (λ (x : ℕ). x) xs base i h l
    ∙ ap (λ (t : List ℕ). t ++ drop (i + 1) base) (map_same (take (i + 1) xs))

pub length_over : (xs base out : List ℕ) (i : ℕ) → i ≤ length xs → i ≤ length base → out ≡ take i xs ++ drop i base → length out ≡ length base
length_over xs base out i h l e =
    ap length e ∙ length-append (take i xs) (drop i base)
    ∙ ap₂ ◌+◌ (length-take-le i xs h) (length-drop i base) ∙ (let q : i + (length base - i) ≡ length base = omega arith in q)

-- the same of one number, repeated
module _ (p : ℕ) where
  replicate_snoc : (i : ℕ) (t : List ℕ) → replicate i p ++ (p ∷ t) ≡ replicate (suc i) p ++ t
  replicate_snoc zero t = refl
  replicate_snoc (suc i) t = ap (λ (r : List ℕ). p ∷ r) (replicate_snoc i t)

  pub one_repeated : (base : List ℕ) (i : ℕ) → i < length base
      → set (replicate i p ++ drop i base) i p ≡ replicate (i + 1) p ++ drop (i + 1) base
  one_repeated base i h =
      one_over_there (replicate i p) base i p (length-replicate i p) h
      ∙ append_assoc (replicate i p) (p ∷ []) (drop (i + 1) base)
      ∙ replicate_snoc i (drop (i + 1) base)
      ∙ ap (λ (k : ℕ). replicate k p ++ drop (i + 1) base) (sym (add-one i))

  pub length_repeated : (base : List ℕ) (i : ℕ) → i ≤ length base → length (replicate i p ++ drop i base) ≡ length base
  length_repeated base i h =
      length-append (replicate i p) (drop i base)
      ∙ ap₂ ◌+◌ (length-replicate i p) (length-drop i base)
      ∙ (let e : i + (length base - i) ≡ length base = omega arith in e)

-- and the length of what is filled by f
pub length_put : (f : ℕ → ℕ) (xs base : List ℕ) (i : ℕ) → i ≤ length xs → i ≤ length base → length (map f (take i xs) ++ drop i base) ≡ length base
length_put f xs base i h l =
    length-append (map f (take i xs)) (drop i base)
    ∙ ap₂ ◌+◌ (length-map (take i xs) f ∙ length-take-le i xs h) (length-drop i base)
    ∙ (let e : i + (length base - i) ≡ length base = omega arith in e)

pub map_take : (f : ℕ → ℕ) (k : ℕ) (xs : List ℕ) → map f (take k xs) ≡ take k (map f xs)
map_take f zero xs = refl
map_take f (suc k) [] = refl
map_take f (suc k) (x ∷ xs) = ap (λ (t : List ℕ). f x ∷ t) (map_take f k xs)

pub map_drop : (f : ℕ → ℕ) (k : ℕ) (xs : List ℕ) → map f (drop k xs) ≡ drop k (map f xs)
map_drop f zero xs = refl
map_drop f (suc k) [] = refl
map_drop f (suc k) (x ∷ xs) = map_drop f k xs

take_none : (k : ℕ) → take {A = ℕ} k [] ≡ []
take_none zero = refl
take_none (suc k) = refl

-- a part of what is at the front
pub part_taken : (n at m : ℕ) (l : List ℕ) → at + n ≤ m → take n (drop at (take m l)) ≡ take n (drop at l)
part_taken n at m l h =
    ap (λ (k : ℕ). take n (drop at (take k l))) (let e : m ≡ at + (m - at) = omega arith in e)
    ∙ ap (λ (x : List ℕ). take n (drop at x)) (take-add at (m - at) l)
    ∙ go (le_or_lt at (length l))
  where
    go : (at ≤ length l) ⊎ (length l < at) → take n (drop at (take at l ++ take (m - at) (drop at l))) ≡ take n (drop at l)
    go (inl k) = ap (take n) (drop_at (take at l) (take (m - at) (drop at l)) at (length-take-le at l k)) ∙ take-take n (m - at) (drop at l) (omega arith)
    go (inr k) =
        ap₂ (λ (x y : List ℕ). take n (drop at (x ++ take (m - at) y))) (take_all at l (omega arith)) (drop_of_length-le l {i = at} (omega arith))
        ∙ ap (λ (x : List ℕ). take n (drop at (l ++ x))) (take_none (m - at))
        ∙ ap (λ (x : List ℕ). take n (drop at x)) (append-nil l)

-- the image at an index
pub map_at : (f : ℕ → ℕ) (xs : List ℕ) (i : ℕ) → i < length xs → get_or (map f xs) i 0 ≡ f (get_or xs i 0)
map_at f [] i h = absurd (omega arith)
map_at f (x ∷ xs) zero h = refl
map_at f (x ∷ xs) (suc i) h = map_at f xs i (omega arith)

-- what holds of every image holds of the list of images
pub map_below : (f : ℕ → ℕ) (a b : ℕ) → 0 < b → ((x : ℕ) → x < a → f x < b) → (xs : List ℕ) → Below a xs → Below b (map f xs)
map_below f a b some h [] below i = some
map_below f a b some h (x ∷ xs) below zero = h x (below 0)
map_below f a b some h (x ∷ xs) below (suc i) = map_below f a b some h xs (λ k. below (suc k)) i
