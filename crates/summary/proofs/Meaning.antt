-- What the three numbers of an entry mean, and what a question to a chunk means: theorems over the width W, the fraction bits m and a chunk's values vs. A
-- number is a value that is no not-a-number, an infinity too. `rank` is the order of the summary; proofs/Ieee.antt says it in the words of IEEE 754.
use mathlib.Core.Path.{◌≡◌}
use mathlib.Core.Logic.{◌↔◌}
use mathlib.Core.Bool.{true, false, cond}
use mathlib.Core.List.{List, [], ◌∷◌, ◌++◌}
use Prim.Native.Nat.{ℕ, suc, ◌+◌, ◌^◌, ◌≤◌, ◌<◌}
use lib.ListN.{length, get_or}
use Rattle.blocks.specs.Bytes.{Below}
use Rattle.summary.specs.Order.{not_a_number, rank, at_least}
use Rattle.summary.specs.Entry.{nans_in, others, smallest, largest, holds}
use Rattle.summary.proofs.Law.Entry as entry

module _ (W m : ℕ) (vs : List ℕ) where
  -- ---- the count, and the others: together they are all values, and the others are the numbers

  pub one_value_more : (p : ℕ) → nans_in W m (vs ++ (p ∷ [])) ≡ cond (not_a_number W m p) (suc (nans_in W m vs)) (nans_in W m vs)
  one_value_more = entry.nans_snoc W m vs

  pub the_count_and_the_others_are_all : nans_in W m vs + length (others W m vs) ≡ length vs
  the_count_and_the_others_are_all = entry.nans_count W m vs

  pub a_number_is_among_the_others : (i : ℕ) → i < length vs → not_a_number W m (get_or vs i 0) ≡ false
      → (j : ℕ) × (j < length (others W m vs)) × (get_or (others W m vs) j 0 ≡ get_or vs i 0)
  a_number_is_among_the_others = entry.among_others W m vs

  pub each_of_the_others_is_a_number : (j : ℕ) → j < length (others W m vs)
      → (i : ℕ) × (i < length vs) × (get_or vs i 0 ≡ get_or (others W m vs) j 0) × (not_a_number W m (get_or (others W m vs) j 0) ≡ false)
  each_of_the_others_is_a_number = entry.others_among W m vs

  -- ---- the smallest and the largest, where there is a number: each is one of them, and all numbers stand between the two

  pub the_smallest_is_one_of_the_numbers : nans_in W m vs < length vs
      → (i : ℕ) × (i < length vs) × (get_or vs i 0 ≡ smallest W m vs) × (not_a_number W m (smallest W m vs) ≡ false)
  the_smallest_is_one_of_the_numbers = entry.smallest_among W m vs

  pub the_largest_is_one_of_the_numbers : nans_in W m vs < length vs
      → (i : ℕ) × (i < length vs) × (get_or vs i 0 ≡ largest W m vs) × (not_a_number W m (largest W m vs) ≡ false)
  the_largest_is_one_of_the_numbers = entry.largest_among W m vs

  pub nothing_stands_below_the_smallest : 1 ≤ W → Below (2 ^ W) vs → nans_in W m vs < length vs
      → (k : ℕ) → k < length vs → not_a_number W m (get_or vs k 0) ≡ false → rank W (smallest W m vs) ≤ rank W (get_or vs k 0)
  nothing_stands_below_the_smallest some = entry.smallest_least W m some vs

  pub nothing_stands_behind_the_largest : 1 ≤ W → Below (2 ^ W) vs → nans_in W m vs < length vs
      → (k : ℕ) → k < length vs → not_a_number W m (get_or vs k 0) ≡ false → rank W (get_or vs k 0) ≤ rank W (largest W m vs)
  nothing_stands_behind_the_largest some = entry.largest_most W m some vs

  -- "0 and 0 if none"
  pub both_are_0_where_there_is_no_number : nans_in W m vs ≡ length vs → (smallest W m vs ≡ 0) × (largest W m vs ≡ 0)
  both_are_0_where_there_is_no_number e = (entry.smallest_none W m vs e, entry.largest_none W m vs e)

  -- ---- the question

  pub holds_some : (x : ℕ) → (holds W m x vs ≡ true) ↔ ((i : ℕ) × (i < length vs) × (at_least W m x (get_or vs i 0) ≡ true))
  holds_some x = (entry.holds_found W m x vs, λ f. entry.found_holds W m x vs f.0 f.1 f.2)
