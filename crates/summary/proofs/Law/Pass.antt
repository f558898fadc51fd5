-- One pass over a chunk's values: what it has found of the values passed, and the entry that is made of what it found.
use mathlib.Core.Path.{◌≡◌, refl, sym, ap, subst, ◌∙◌}
use mathlib.Core.Bool.{true, false}
use mathlib.Core.List.{List, [], ◌∷◌, ◌++◌}
use Prim.Native.Nat.{ℕ, zero, suc, ◌+◌, ◌-◌, ◌^◌, ◌≤◌, ◌<◌, min, max}
use native.Mathlib.Numerals.{add-one}
use native.Mathlib.Omega.{arith}
use lib.ListN.{length, take, get_or}
use lib.Pow.{pow_pos, pow_mono}
use lib.Seq.{take-suc, take_all}
use Rattle.blocks.specs.Bytes.{Below}
use Rattle.blocks.proofs.Law.Digits.{below_append}
use Rattle.summary.specs.Order.{not_a_number, rank}
use Rattle.summary.specs.Entry.{nans_in, smallest, largest}
use Rattle.summary.specs.Private.{pattern_of, low_rank, high_rank}
use Rattle.summary.proofs.Law.Entry.{low_snoc, high_snoc, nans_snoc, nans_most, smallest_is, largest_is, smallest_none, largest_none}

-- a count of values fits in a word
pub count_fits : (W n : ℕ) → 11 ≤ W → n ≤ 1024 → n < 2 ^ W
count_fits W n some few = let room : 2 ^ 11 ≤ 2 ^ W = pow_mono some in omega (arith, room)

-- the first i values are passed
pub record Passed (W m : ℕ) (vs : List ℕ) (nans low high i : ℕ) : Type 0 where
  pub within : i ≤ length vs
  pub few : nans ≤ i
  pub nans_is : nans ≡ nans_in W m (take i vs)
  pub low_is : low ≡ low_rank W m (take i vs)
  pub high_is : high ≡ high_rank W m (take i vs)
  pub patterns : Below (2 ^ W) (take i vs)

-- what a pass finds
abbrev pub Found : ℕ → ℕ → List ℕ → ℕ → ℕ → ℕ → Type 0
Found W m vs nans low high = (nans ≡ nans_in W m vs) × (low ≡ low_rank W m vs) × (high ≡ high_rank W m vs)

pub passed_none : (W m : ℕ) (vs : List ℕ) → Passed W m vs 0 (2 ^ W - 1) 0 0
unfolding nans_in low_rank high_rank
passed_none W m vs = record { within = omega arith; few = omega arith; nans_is = refl; low_is = refl; high_is = refl; patterns = λ i. pow_pos W }

one_below : (b p : ℕ) → p < b → Below b (p ∷ [])
one_below b p h zero = h
one_below b p h (suc i) = let e : 0 < b = omega (arith, h) in e

module _ {W m : ℕ} {vs : List ℕ} {nans low high i : ℕ} (so_far : Passed W m vs nans low high i) where
  pub passed_all : length vs ≤ i → Found W m vs nans low high
  passed_all h =
      let all = take_all i vs h in
      (so_far.nans_is ∙ ap (nans_in W m) all, so_far.low_is ∙ ap (low_rank W m) all, so_far.high_is ∙ ap (high_rank W m) all)

  pub passed_patterns : length vs ≤ i → Below (2 ^ W) vs
  passed_patterns h = subst (Below (2 ^ W)) (take_all i vs h) so_far.patterns

  module _ (h : i < length vs) (fits : get_or vs i 0 < 2 ^ W) where
    abbrev p : ℕ
    p = get_or vs i 0

    one_more : take (i + 1) vs ≡ take i vs ++ (p ∷ [])
    one_more = ap (λ (k : ℕ). take k vs) (add-one i) ∙ take-suc vs i 0 h

    below_more : Below (2 ^ W) (take (i + 1) vs)
    below_more = rw one_more (below_append (2 ^ W) (take i vs) (p ∷ []) so_far.patterns (one_below (2 ^ W) p fits))

    pub passed_nan : not_a_number W m p ≡ true → Passed W m vs (nans + 1) low high (i + 1)
    passed_nan t =
        record {
          within = omega arith;
          few = omega arith;
          nans_is = rw (one_more, nans_snoc W m (take i vs) p, t) (omega arith);
          low_is = rw (one_more, low_snoc W m (take i vs) p, t) so_far.low_is;
          high_is = rw (one_more, high_snoc W m (take i vs) p, t) so_far.high_is;
          patterns = below_more;
        }

    pub passed_number : {r l g : ℕ} → not_a_number W m p ≡ false → r ≡ rank W p → l ≡ min low r → g ≡ max high r → Passed W m vs nans l g (i + 1)
    passed_number f is is-low is-high =
        record {
          within = omega arith;
          few = omega arith;
          nans_is = rw (one_more, nans_snoc W m (take i vs) p, f) so_far.nans_is;
          low_is = rw (one_more, low_snoc W m (take i vs) p, f) (omega arith);
          high_is = rw (one_more, high_snoc W m (take i vs) p, f) (omega arith);
          patterns = below_more;
        }

-- ---- the entry

module _ (W m : ℕ) (vs : List ℕ) where
  abbrev pub Summed : ℕ → ℕ → ℕ → Type 0
  Summed nans s l = (nans ≡ nans_in W m vs) × (s ≡ smallest W m vs) × (l ≡ largest W m vs)

  module _ (nans low high : ℕ) (found : Found W m vs nans low high) where
    pub summed_none : nans ≡ length vs → Summed nans 0 0
    summed_none e =
        let all : nans_in W m vs ≡ length vs = sym found.0 ∙ e in
        (found.0, sym (smallest_none W m vs all), sym (largest_none W m vs all))

    pub summed_some : 1 ≤ W → Below (2 ^ W) vs → (nans ≡ length vs → ⊥) → {s l : ℕ} → s ≡ pattern_of W low → l ≡ pattern_of W high → Summed nans s l
    summed_some some below n is-low is-high =
        let other : nans_in W m vs ≡ length vs → ⊥ = λ e. n (found.0 ∙ e) in
        let less : nans_in W m vs < length vs = omega (arith, nans_most W m vs) in (
          found.0,
          is-low ∙ ap (pattern_of W) found.1 ∙ sym (smallest_is W m some vs below less),
          is-high ∙ ap (pattern_of W) found.2 ∙ sym (largest_is W m some vs below less),
        )
