-- How many values there are: a chunk's bytes, whatever they are, are read as the chunk's count of values, so a stream has n of them, and the
-- value at an index is the one that its own chunk has there.
use mathlib.Core.Path.{◌≡◌, sym, ap, ap₂, ◌∙◌}
use mathlib.Core.Logic.{◌⊎◌, inl, inr}
use mathlib.Core.List.{List, [], ◌++◌, append-nil}
use Prim.Native.Nat.{ℕ, zero, suc, ◌+◌, ◌-◌, ◌*◌, ◌/◌, ◌%◌, ◌≤◌, ◌<◌, min}
use native.Mathlib.Omega.{arith}
use lib.ListN.{length, take, drop, get_or, length-append, length-drop, get_or-append}
use lib.Seq.{get_or-append-add, take_all}
use Rattle.stream.specs.Setting.{group_size}
use Rattle.stream.specs.Header.{setting_in}
use Rattle.stream.specs.Stream.{joined, count_of, chunk_of, chunk_values, values_in, value_in}
use Rattle.stream.specs.Relied.{Layout}
use Rattle.stream.specs.declared.header.Header.{Header}
use Rattle.blocks.proofs.Law.Truth.{le_or_lt}
use Rattle.stream.proofs.Law.Plain.Joined.{joined_part}
use Rattle.stream.proofs.Law.Setting.Allowed.{size_some}
use Rattle.stream.proofs.Law.Chunk.Restoring.{length_restored}

clipped : (n : ℕ) (xs : List ℕ) → take (min n (length xs)) xs ≡ take n xs
clipped n xs = go (le_or_lt (length xs) n)
  where
    go : (length xs ≤ n) ⊎ (n < length xs) → take (min n (length xs)) xs ≡ take n xs
    go (inl h) = take_all (min n (length xs)) xs (omega arith) ∙ sym (take_all n xs h)
    go (inr h) = ap (λ (k : ℕ). take k xs) (let e : min n (length xs) ≡ n = omega arith in e)

module _ (h : Header) (s : List ℕ) where
  pub length_chunk : (j : ℕ) → length (chunk_values h s j) ≡ count_of h j
  unfolding chunk_values
  length_chunk j = length_restored (group_size (setting_in h)) (size_some (setting_in h)) (setting_in h) (count_of h j) (chunk_of h s j)

  length_joined : (j : ℕ) → length (joined (chunk_values h s) j) ≡ min (1024 * j) h.count
  unfolding joined count_of
  length_joined zero = omega arith
  length_joined (suc j) =
      rw length-append (omega (arith, length_joined j, length_chunk j))

  pub length_values : (size : ℕ) → Layout size h → length (values_in h s) ≡ h.count
  unfolding values_in
  length_values size l = omega (arith, length_joined h.chunks, l)

  -- a value in the first j chunks
  joined_at : (j i : ℕ) → i / 1024 < j → i < h.count → get_or (joined (chunk_values h s) j) i 0 ≡ value_in h s i
  unfolding joined value_in
  joined_at zero i l b = absurd (omega arith)
  joined_at (suc j) i l b = go (le_or_lt j (i / 1024)) (λ m. joined_at j i m b)
    where
      f : ℕ → List ℕ
      f = chunk_values h s

      go : (j ≤ i / 1024) ⊎ (i / 1024 < j) → (i / 1024 < j → get_or (joined f j) i 0 ≡ value_in h s i) → get_or (joined f j ++ f j) i 0 ≡ value_in h s i
      go (inl m) earlier =
          let here : i / 1024 ≡ j = omega arith in
          let at : length (joined f j) + i % 1024 ≡ i = omega (arith, length_joined j) in
          sym (ap (λ (n : ℕ). get_or (joined f j ++ f j) n 0) at)
          ∙ get_or-append-add (joined f j) (f j) (i % 1024) 0
          ∙ ap (λ (n : ℕ). get_or (f n) (i % 1024) 0) (sym here)
      go (inr m) earlier = get_or-append (joined f j) (f j) 0 i (omega (arith, length_joined j)) ∙ earlier m

  pub value_of : (size : ℕ) → Layout size h → (i : ℕ) → i < h.count → get_or (values_in h s) i 0 ≡ value_in h s i
  unfolding values_in
  value_of size l i b = joined_at h.chunks i (omega (arith, l)) b

  -- the stretch of a chunk in all values
  pub chunk_stretch : (size : ℕ) → Layout size h → (j : ℕ) → j < h.chunks → chunk_values h s j ≡ take 1024 (drop (1024 * j) (values_in h s))
  unfolding values_in count_of
  chunk_stretch size l j below =
      let f = chunk_values h s in
      let all = joined f h.chunks in
      let at : length (joined f j) ≡ 1024 * j = omega (arith, length_joined j, l) in
      let many : length (joined f (j + 1)) - length (joined f j) ≡ min 1024 (length (drop (1024 * j) all)) =
      omega (arith, length_joined j, length_joined (j + 1), length-drop (1024 * j) all, length_joined h.chunks, l) in
      sym (joined_part f j h.chunks [] below)
      ∙ ap (λ (vs : List ℕ). take (length (joined f (j + 1)) - length (joined f j)) (drop (length (joined f j)) vs)) (append-nil all)
      ∙ ap₂ (λ (k n : ℕ). take k (drop n all)) many at
      ∙ clipped 1024 (drop (1024 * j) all)
