-- The laws of an entry, once over the width W and the fraction bits m: its three numbers as a loop over the values finds them, by places.
use mathlib.Core.Path.{◌≡◌, refl, ap, ◌∙◌}
use mathlib.Core.Logic.{◌⊎◌, inl, inr}
use mathlib.Core.Bool.{Bool, true, false, ◌&&◌, ◌||◌, cond, or-true, or-false, false≢true}
use mathlib.Core.List.{List, [], ◌∷◌, ◌++◌}
use Prim.Native.Nat.{ℕ, zero, suc, ◌-◌, ◌^◌, ◌≤◌, ◌<◌, min, max}
use native.Mathlib.Omega.{arith}
use borrow.Author.Tests.{lt-ltb, le-ltb, le-leb, lt-leb}
use lib.Dec.{leb, ltb, leb-suc-suc}
use lib.ListN.{length, get_or, length-append}
use lib.Pow.{pow_pos}
use Rattle.blocks.specs.Bytes.{Below}
use Rattle.blocks.proofs.Law.Digits.{length_digits}
use Rattle.bins.proofs.Law.Number.{le_or_lt}
use Rattle.summary.specs.Order.{not_a_number, rank, at_least}
use Rattle.summary.specs.Entry.{nans_in, others, smallest_from, largest_from, smallest_in, largest_in, smallest, largest, entry_length, entry_bytes, holds}
use Rattle.summary.specs.Private.{pattern_of, floor_rank, low_rank, high_rank}
use Rattle.summary.proofs.Law.Order.{at_least_floor}
use Rattle.summary.proofs.Law.Walk as walk
use Rattle.summary.proofs.Law.Walk.{Walk}
pub use Rattle.summary.proofs.Law.Walk.{nans_count, nans_most, nans_snoc}

module _ (W : ℕ) where
  -- one of two, by a test: it is one of them
  one_of : (t : Bool) (a q : ℕ) → (cond t q a ≡ a) ⊎ (cond t q a ≡ q)
  one_of true a q = inr refl
  one_of false a q = inl refl

  smaller : (a q : ℕ) → rank W (cond (ltb (rank W q) (rank W a)) q a) ≡ min (rank W a) (rank W q)
  smaller a q = go (le_or_lt (rank W a) (rank W q))
    where
      go : (rank W a ≤ rank W q) ⊎ (rank W q < rank W a) → rank W (cond (ltb (rank W q) (rank W a)) q a) ≡ min (rank W a) (rank W q)
      go (inl l) = rw (le-ltb (rank W q) (rank W a) l) (omega arith)
      go (inr l) = rw (lt-ltb (rank W q) (rank W a) l) (omega arith)

  larger : (a q : ℕ) → rank W (cond (ltb (rank W a) (rank W q)) q a) ≡ max (rank W a) (rank W q)
  larger a q = go (le_or_lt (rank W q) (rank W a))
    where
      go : (rank W q ≤ rank W a) ⊎ (rank W a < rank W q) → rank W (cond (ltb (rank W a) (rank W q)) q a) ≡ max (rank W a) (rank W q)
      go (inl l) = rw (le-ltb (rank W a) (rank W q) l) (omega arith)
      go (inr l) = rw (lt-ltb (rank W a) (rank W q) l) (omega arith)

module _ (W m : ℕ) where
  -- p stands in vs, and is no not-a-number
  abbrev pub Among : List ℕ → ℕ → Type 0
  Among vs p = (i : ℕ) × (i < length vs) × (get_or vs i 0 ≡ p) × (not_a_number W m p ≡ false)

  -- ---- the others are the values that count

  -- one place further on
  later : (p : ℕ) (ps : List ℕ) (x : ℕ) → Among ps x → Among (p ∷ ps) x
  later p ps x a = (suc a.0, omega (arith, a.1), a.2, a.3)

  pub others_among : (vs : List ℕ) (j : ℕ) → j < length (others W m vs) → Among vs (get_or (others W m vs) j 0)
  unfolding others
  others_among [] j l = absurd (omega (arith, l))
  others_among (p ∷ ps) j l = go (not_a_number W m p) refl j l (λ k h. later p ps (get_or (others W m ps) k 0) (others_among ps k h))
    where
      go : (b : Bool) → not_a_number W m p ≡ b → (j : ℕ) → j < length (cond b (others W m ps) (p ∷ others W m ps))
          → ((k : ℕ) → k < length (others W m ps) → Among (p ∷ ps) (get_or (others W m ps) k 0)) → Among (p ∷ ps) (get_or (cond b (others W m ps) (p ∷ others W m ps)) j 0)
      go true e j h rest = rest j h
      go false e zero h rest = (0, omega arith, refl, e)
      go false e (suc j) h rest = rest j (omega (arith, h))

  pub among_others : (vs : List ℕ) (i : ℕ) → i < length vs → not_a_number W m (get_or vs i 0) ≡ false
      → (j : ℕ) × (j < length (others W m vs)) × (get_or (others W m vs) j 0 ≡ get_or vs i 0)
  unfolding others
  among_others [] i l e = absurd (omega (arith, l))
  among_others (p ∷ ps) zero l e = rw e (0, omega arith, refl)
  among_others (p ∷ ps) (suc i) l e = go (not_a_number W m p) (among_others ps i (omega (arith, l)) e)
    where
      go : (b : Bool) → (j : ℕ) × (j < length (others W m ps)) × (get_or (others W m ps) j 0 ≡ get_or ps i 0)
          → (j : ℕ) × (j < length (cond b (others W m ps) (p ∷ others W m ps))) × (get_or (cond b (others W m ps) (p ∷ others W m ps)) j 0 ≡ get_or ps i 0)
      go true h = h
      go false h = (suc h.0, omega (arith, h.1), h.2)

  -- ---- "some value at least x"

  pub holds_found : (x : ℕ) (vs : List ℕ) → holds W m x vs ≡ true → (i : ℕ) × (i < length vs) × (at_least W m x (get_or vs i 0) ≡ true)
  unfolding holds
  holds_found x [] h = absurd (false≢true h)
  holds_found x (p ∷ ps) h = go (at_least W m x p) refl h (holds_found x ps)
    where
      go : (b : Bool) → at_least W m x p ≡ b → (b || holds W m x ps) ≡ true → (holds W m x ps ≡ true → (i : ℕ) × (i < length ps) × (at_least W m x (get_or ps i 0) ≡ true))
          → (i : ℕ) × (i < length (p ∷ ps)) × (at_least W m x (get_or (p ∷ ps) i 0) ≡ true)
      go true e t rest = (0, omega arith, e)
      go false e t rest = let f = rest t in (suc f.0, omega (arith, f.1), f.2)

  pub found_holds : (x : ℕ) (vs : List ℕ) (i : ℕ) → i < length vs → at_least W m x (get_or vs i 0) ≡ true → holds W m x vs ≡ true
  unfolding holds
  found_holds x [] i l e = absurd (omega (arith, l))
  found_holds x (p ∷ ps) zero l e = rw e
  found_holds x (p ∷ ps) (suc i) l e = rw (found_holds x ps i (omega (arith, l)) e) (or-true (at_least W m x p))

  -- ---- both searches are walks

  abbrev low : Walk W m
  low =
      record {
        from = smallest_from W;
        pick = smallest_in W;
        place = low_rank W m;
        chosen = λ a q. cond (ltb (rank W q) (rank W a)) q a;
        join = min;
        none = 2 ^ W - 1;
        from_nil = λ a. unfold smallest_from in refl;
        from_cons = λ a q qs. unfold smallest_from in refl;
        pick_nil = unfold smallest_in in refl;
        pick_cons = λ q qs. unfold smallest_in in refl;
        place_nil = unfold low_rank in refl;
        place_cons = λ p ps. unfold low_rank in refl;
        of_two = λ a q. one_of W (ltb (rank W q) (rank W a)) a q;
        joins = smaller W;
        assoc = λ a b c. omega arith;
        comm = λ a b. omega arith;
        same = λ a. omega arith;
        end = λ a h. omega arith;
      }

  abbrev high : Walk W m
  high =
      record {
        from = largest_from W;
        pick = largest_in W;
        place = high_rank W m;
        chosen = λ a q. cond (ltb (rank W a) (rank W q)) q a;
        join = max;
        none = 0;
        from_nil = λ a. unfold largest_from in refl;
        from_cons = λ a q qs. unfold largest_from in refl;
        pick_nil = unfold largest_in in refl;
        pick_cons = λ q qs. unfold largest_in in refl;
        place_nil = unfold high_rank in refl;
        place_cons = λ p ps. unfold high_rank in refl;
        of_two = λ a q. one_of W (ltb (rank W a) (rank W q)) a q;
        joins = larger W;
        assoc = λ a b c. omega arith;
        comm = λ a b. omega arith;
        same = λ a. omega arith;
        end = λ a h. omega arith;
      }

  -- ---- one value more

  pub low_snoc : (vs : List ℕ) (p : ℕ) → low_rank W m (vs ++ (p ∷ [])) ≡ cond (not_a_number W m p) (low_rank W m vs) (min (low_rank W m vs) (rank W p))
  low_snoc = walk.place_snoc W m low

  pub high_snoc : (vs : List ℕ) (p : ℕ) → high_rank W m (vs ++ (p ∷ [])) ≡ cond (not_a_number W m p) (high_rank W m vs) (max (high_rank W m vs) (rank W p))
  high_snoc = walk.place_snoc W m high

  -- ---- the two patterns, by places

  pub smallest_none : (vs : List ℕ) → nans_in W m vs ≡ length vs → smallest W m vs ≡ 0
  unfolding smallest
  smallest_none = walk.pick_none W m low

  pub largest_none : (vs : List ℕ) → nans_in W m vs ≡ length vs → largest W m vs ≡ 0
  unfolding largest
  largest_none = walk.pick_none W m high

  pub smallest_below : (vs : List ℕ) → Below (2 ^ W) vs → smallest W m vs < 2 ^ W
  unfolding smallest
  smallest_below = walk.pick_below W m low

  pub largest_below : (vs : List ℕ) → Below (2 ^ W) vs → largest W m vs < 2 ^ W
  unfolding largest
  largest_below = walk.pick_below W m high

  -- the two are values of the list that count
  pub smallest_among : (vs : List ℕ) → nans_in W m vs < length vs → Among vs (smallest W m vs)
  unfolding smallest
  smallest_among vs l = walk.pick_keeps W m low (Among vs) vs l (λ i h e. (i, h, refl, e))

  pub largest_among : (vs : List ℕ) → nans_in W m vs < length vs → Among vs (largest W m vs)
  unfolding largest
  largest_among vs l = walk.pick_keeps W m high (Among vs) vs l (λ i h e. (i, h, refl, e))

  module _ (some : 1 ≤ W) where
    pub rank_smallest : (vs : List ℕ) → Below (2 ^ W) vs → nans_in W m vs < length vs → rank W (smallest W m vs) ≡ low_rank W m vs
    unfolding smallest
    rank_smallest = walk.pick_place W m low some

    pub rank_largest : (vs : List ℕ) → Below (2 ^ W) vs → nans_in W m vs < length vs → rank W (largest W m vs) ≡ high_rank W m vs
    unfolding largest
    rank_largest = walk.pick_place W m high some

    pub low_below : (vs : List ℕ) → Below (2 ^ W) vs → low_rank W m vs < 2 ^ W
    low_below vs all = walk.place_below W m low some vs all (omega (arith, pow_pos W))

    pub high_below : (vs : List ℕ) → Below (2 ^ W) vs → high_rank W m vs < 2 ^ W
    high_below vs all = walk.place_below W m high some vs all (pow_pos W)

    -- every value that counts has its place between the two
    pub smallest_least : (vs : List ℕ) → Below (2 ^ W) vs → nans_in W m vs < length vs
        → (k : ℕ) → k < length vs → not_a_number W m (get_or vs k 0) ≡ false → rank W (smallest W m vs) ≤ rank W (get_or vs k 0)
    smallest_least vs all l k h e = omega (arith, rank_smallest vs all l, walk.place_holds W m low vs k h e)

    pub largest_most : (vs : List ℕ) → Below (2 ^ W) vs → nans_in W m vs < length vs
        → (k : ℕ) → k < length vs → not_a_number W m (get_or vs k 0) ≡ false → rank W (get_or vs k 0) ≤ rank W (largest W m vs)
    largest_most vs all l k h e = omega (arith, rank_largest vs all l, walk.place_holds W m high vs k h e)

    pub smallest_is : (vs : List ℕ) → Below (2 ^ W) vs → nans_in W m vs < length vs → smallest W m vs ≡ pattern_of W (low_rank W m vs)
    unfolding smallest
    smallest_is = walk.pick_is W m low some

    pub largest_is : (vs : List ℕ) → Below (2 ^ W) vs → nans_in W m vs < length vs → largest W m vs ≡ pattern_of W (high_rank W m vs)
    unfolding largest
    largest_is = walk.pick_is W m high some

    -- ---- "some value at least x" is a question to the largest

    module _ (x : ℕ) (hx : x < 2 ^ W) (number : not_a_number W m x ≡ false) where
      never : (p : ℕ) → not_a_number W m p ≡ true → at_least W m x p ≡ false
      unfolding at_least
      never p e = rw (number, e)

      -- a floor that one of two places reaches, the greater reaches
      either : (c a b : ℕ) → (leb c a || leb c b) ≡ leb c (max a b)
      either c a b = go (le_or_lt c a) (le_or_lt c b)
        where
          go : (c ≤ a) ⊎ (a < c) → (c ≤ b) ⊎ (b < c) → (leb c a || leb c b) ≡ leb c (max a b)
          go (inl s) t = rw (le-leb c a s, le-leb c (max a b) (omega arith))
          go (inr s) (inl t) = rw (lt-leb c a s, le-leb c b t, le-leb c (max a b) (omega arith))
          go (inr s) (inr t) = rw (lt-leb c a s, lt-leb c b t, lt-leb c (max a b) (omega arith))

      -- one value before others, of which some, or none, count
      first : (p : ℕ) (ps : List ℕ) → (leb (floor_rank W x) (rank W p) || (ltb (nans_in W m ps) (length ps) && leb (floor_rank W x) (high_rank W m ps))) ≡ leb (floor_rank W x) (max (rank W p) (high_rank W m ps))
      first p ps = go (le_or_lt (length ps) (nans_in W m ps))
        where
          go : (length ps ≤ nans_in W m ps) ⊎ (nans_in W m ps < length ps)
              → (leb (floor_rank W x) (rank W p) || (ltb (nans_in W m ps) (length ps) && leb (floor_rank W x) (high_rank W m ps))) ≡ leb (floor_rank W x) (max (rank W p) (high_rank W m ps))
          go (inr l) = rw (lt-ltb (nans_in W m ps) (length ps) l) (either (floor_rank W x) (rank W p) (high_rank W m ps))
          go (inl l) =
              rw (le-ltb (nans_in W m ps) (length ps) l, walk.place_none W m high ps (omega (arith, nans_most W m ps)))
              (or-false (leb (floor_rank W x) (rank W p)) ∙ ap (leb (floor_rank W x)) (let e : rank W p ≡ max (rank W p) 0 = omega arith in e))

      pub holds_by_rank : (vs : List ℕ) → Below (2 ^ W) vs → holds W m x vs ≡ (ltb (nans_in W m vs) (length vs) && leb (floor_rank W x) (high_rank W m vs))
      unfolding holds nans_in high_rank
      holds_by_rank [] all = refl
      holds_by_rank (p ∷ ps) all = rw (holds_by_rank ps (λ i. all (suc i))) (go (not_a_number W m p) refl)
        where
          go : (b : Bool) → not_a_number W m p ≡ b
              → (at_least W m x p || (ltb (nans_in W m ps) (length ps) && leb (floor_rank W x) (high_rank W m ps)))
              ≡ (ltb (cond b (suc (nans_in W m ps)) (nans_in W m ps)) (suc (length ps)) && leb (floor_rank W x) (cond b (high_rank W m ps) (max (rank W p) (high_rank W m ps))))
          go true e = rw (never p e, leb-suc-suc (suc (nans_in W m ps)) (length ps))
          go false e =
              rw (at_least_floor W some x p hx (all 0) m number e, lt-ltb (nans_in W m ps) (suc (length ps)) (omega (arith, nans_most W m ps))) (first p ps)

      pub holds_by_largest : (vs : List ℕ) → Below (2 ^ W) vs → holds W m x vs ≡ (ltb (nans_in W m vs) (length vs) && leb (floor_rank W x) (rank W (largest W m vs)))
      holds_by_largest vs all = holds_by_rank vs all ∙ go (le_or_lt (length vs) (nans_in W m vs))
        where
          go : (length vs ≤ nans_in W m vs) ⊎ (nans_in W m vs < length vs)
              → (ltb (nans_in W m vs) (length vs) && leb (floor_rank W x) (high_rank W m vs)) ≡ (ltb (nans_in W m vs) (length vs) && leb (floor_rank W x) (rank W (largest W m vs)))
          go (inl l) = rw (le-ltb (nans_in W m vs) (length vs) l)
          go (inr l) = rw (rank_largest vs all l)

  -- ---- the bytes

  pub length_entry : (vs : List ℕ) → length (entry_bytes W m vs) ≡ entry_length W
  unfolding entry_bytes entry_length
  length_entry vs = simp (length-append, length_digits) (omega arith)
