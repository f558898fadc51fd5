-- The values that come back: in the modes 0 and 2 the list itself, in mode 1 each value within the tolerance. And that a stream is made of bytes.
use mathlib.Core.Path.{◌≡◌, refl, sym, ap, ap₂, subst, ◌∙◌}
use mathlib.Core.Logic.{◌⊎◌, inl, inr}
use mathlib.Core.Bool.{true}
use mathlib.Core.List.{List, [], ◌∷◌, map}
use Prim.Native.Nat.{ℕ, zero, suc, ◌-◌, ◌*◌, ◌^◌, ◌≤◌, ◌<◌}
use native.Mathlib.Nat.{min-eq_left, lt_of_le_of_lt}
use native.Mathlib.Omega.{arith}
use borrow.Author.Tests.{eqb-true}
use lib.Dec.{eqb}
use lib.Pow.{pow_pos}
use lib.IntN.{ℤ}
use lib.ListN.{length, take, drop, get_or, length-map}
use Rattle.bins.specs.Tolerance.{allowed_k, bin_of, ordinal, tolerance_code, tolerance_restored}
use Rattle.numbers.specs.Difference.{running_sums}
use Rattle.numbers.specs.Bound.{exponent_of}
use Rattle.numbers.specs.Theorem.{Format, Within}
use Rattle.numbers.proofs.Theorems.{the_k_of_a_bin_is_allowed, the_bin_of_its_k, every_pattern_is_restored, every_list_is_restored, every_pattern_returns_within, specials_return}
use Rattle.blocks.specs.Bytes.{Below}
use Rattle.stream.specs.Group.{width_of, packed, group_bytes}
use Rattle.stream.specs.Setting.{fraction_bits, lossless_mode, clipped, code_at, pattern_at, codes_of, patterns_of}
use Rattle.stream.specs.Relied.{Allowed}
use Rattle.stream.specs.Chunk.{groups_bytes, chunk_bytes, groups_in}
use Rattle.stream.specs.Header.{chunks_in}
use Rattle.stream.specs.Writing.{piece}
use Rattle.stream.specs.Theorem.{coming_back}
use Rattle.stream.specs.declared.setting.Setting.{Setting}
use Rattle.stream.proofs.Law.Plain.Truth.{either}
use Rattle.stream.proofs.Law.Plain.Mapped.{map_at}
use Rattle.stream.proofs.Law.Plain.Joined.{joined_map, joined_same, lengths_joined}
use Rattle.stream.proofs.Law.Setting.Codes.{codes_each, codes_by_difference, patterns_each, patterns_by_sum, length_codes_after, length_patterns}
use Rattle.stream.proofs.Law.Written.Pieces.{piece_below, pieces_whole}
use Rattle.blocks.proofs.Law.Digits.{below_cons, below_append, below_take, below_drop, byte}
use Rattle.stream.proofs.Law.Group.RoundTrip.{width_least, packed_below}
use Rattle.stream.proofs.Law.Setting.Widths.{width_bytes}

-- ---- there and back, element by element

map_back : (f g : ℕ → ℕ) (a : ℕ) → ((x : ℕ) → x < a → g (f x) ≡ x) → (xs : List ℕ) → Below a xs → map g (map f xs) ≡ xs
map_back f g a h [] below = refl
map_back f g a h (x ∷ xs) below = ap₂ (λ (y : ℕ) (ys : List ℕ). y ∷ ys) (h x (below 0)) (map_back f g a h xs (λ i. below (suc i)))

module _ (t : Setting) (allowed : Allowed t) (vs : List ℕ) (below : Below (2 ^ t.width) vs) where
  abbrev W : ℕ
  W = t.width

  abbrev m : ℕ
  m = fraction_bits t.width

  format : Format W m
  format = (width_bytes W allowed.known).format

  -- a list that is coded and restored as one chunk
  chunk_back : lossless_mode t.mode ≡ true → (ps : List ℕ) → Below (2 ^ W) ps → patterns_of t (codes_of t ps) ≡ ps
  unfolding lossless_mode code_at pattern_at
  chunk_back e ps under = go (either (eqb t.mode 0) (eqb t.mode 2) e)
    where
      go : (eqb t.mode 0 ≡ true) ⊎ (eqb t.mode 2 ≡ true) → patterns_of t (codes_of t ps) ≡ ps
      go (inl is) =
          let other : t.mode ≡ 2 → ⊥ = λ two. let q = eqb-true t.mode 0 is in omega arith in
          patterns_each t 0 (codes_of t ps) other ∙ ap (map (pattern_at t)) (codes_each t 0 ps other)
          ∙ map_back (code_at t) (pattern_at t) (2 ^ W) (λ p h. rw is (every_pattern_is_restored W m format p h)) ps under
      go (inr is) =
          let two = eqb-true t.mode 2 is in
          patterns_by_sum t 0 (codes_of t ps) two ∙ ap (running_sums W 0) (codes_by_difference t 0 ps two)
          ∙ every_list_is_restored W (omega (arith, format.room)) 0 ps (pow_pos W) under

  pub lossless_back : lossless_mode t.mode ≡ true → coming_back t vs ≡ vs
  unfolding coming_back
  lossless_back e =
      joined_same (λ j. patterns_of t (codes_of t (piece vs j))) (piece vs) (chunks_in (length vs)) (λ j h. chunk_back e (piece vs j) (piece_below (2 ^ W) vs j below))
      ∙ pieces_whole vs

  module _ (lossy : t.mode ≡ 1) where
    -- the bin is that of a k, which is allowed
    abbrev k : ℤ
    k = exponent_of W m t.bin

    allowed_k_lem : allowed_k W m k ≡ true
    allowed_k_lem = the_k_of_a_bin_is_allowed W m format t.bin allowed.bin

    bin_is : clipped t ≡ bin_of W m k
    unfolding clipped
    bin_is = min-eq_left allowed.bin ∙ sym (the_bin_of_its_k W m format t.bin)

    -- each value by itself
    each_back : coming_back t vs ≡ map (pattern_at t) (map (code_at t) vs)
    unfolding coming_back
    each_back =
        let other : t.mode ≡ 2 → ⊥ = λ two. omega arith in
        joined_same (λ j. patterns_of t (codes_of t (piece vs j))) (λ j. map (pattern_at t) (map (code_at t) (piece vs j))) (chunks_in (length vs))
        (λ j h. patterns_each t 0 (codes_of t (piece vs j)) other ∙ ap (map (pattern_at t)) (codes_each t 0 (piece vs j) other))
        ∙ joined_map (λ j. map (code_at t) (piece vs j)) (pattern_at t) (chunks_in (length vs))
        ∙ ap (map (pattern_at t)) (joined_map (piece vs) (code_at t) (chunks_in (length vs)) ∙ ap (map (code_at t)) (pieces_whole vs))

    module _ (i : ℕ) (h : i < length vs) where
      restored_at : get_or (coming_back t vs) i 0 ≡ tolerance_restored W m (bin_of W m k) (tolerance_code W m t.halves (bin_of W m k) (get_or vs i 0))
      unfolding code_at pattern_at
      restored_at = rw each_back (rw (map_at (pattern_at t) (map (code_at t) vs) i (rw (length-map vs (code_at t)) h), map_at (code_at t) vs i h) (rw (bin_is, lossy)))

      -- the code is that of the setting's rule for halves
      pub ruled_back : get_or (coming_back t vs) i 0 ≡ tolerance_restored W m t.bin (tolerance_code W m t.halves t.bin (get_or vs i 0))
      ruled_back = restored_at ∙ ap (λ (j : ℕ). tolerance_restored W m j (tolerance_code W m t.halves j (get_or vs i 0))) (the_bin_of_its_k W m format t.bin)

      pub tolerance_back : Within W m t.bin (get_or vs i 0) (get_or (coming_back t vs) i 0)
      tolerance_back =
          subst (λ (j : ℕ). Within W m j (get_or vs i 0) (get_or (coming_back t vs) i 0)) (the_bin_of_its_k W m format t.bin)
          (rw restored_at (every_pattern_returns_within W m format k allowed_k_lem t.halves (get_or vs i 0) (below i)))

      pub special_back : (2 ^ (W - 1 - m) - 1) * 2 ^ m ≤ ordinal W (get_or vs i 0) → get_or (coming_back t vs) i 0 ≡ get_or vs i 0
      special_back l = restored_at ∙ specials_return W m format k allowed_k_lem t.halves (get_or vs i 0) (below i) l

-- as many as there were
pub length_back : (t : Setting) (vs : List ℕ) → length (coming_back t vs) ≡ length vs
unfolding coming_back
length_back t vs =
    lengths_joined (λ j. patterns_of t (codes_of t (piece vs j))) (piece vs) (chunks_in (length vs))
    (λ j. length_patterns t 0 (codes_of t (piece vs j)) ∙ length_codes_after t 0 (piece vs j))
    ∙ ap length (pieces_whole vs)

-- ---- bytes

groups_below : (size W q : ℕ) (cs : List ℕ) → W < 256 → Below (2 ^ W) cs → Below 256 (groups_bytes size q cs)
unfolding groups_bytes group_bytes
groups_below size W zero cs narrow below = λ i. byte
groups_below size W (suc q) cs narrow below =
    let first = take size cs in
    below_append 256 (group_bytes first) (groups_bytes size q (drop size cs))
    (below_cons 256 (width_of first) (packed (width_of first) first) (lt_of_le_of_lt (width_least W first (below_take (2 ^ W) size cs below)) narrow) (packed_below (width_of first) first))
    (groups_below size W q (drop size cs) narrow (below_drop (2 ^ W) size cs below))

pub chunk_below : (size W : ℕ) (cs : List ℕ) → W < 256 → Below (2 ^ W) cs → Below 256 (chunk_bytes size cs)
unfolding chunk_bytes
chunk_below size W cs = groups_below size W (groups_in size (length cs)) cs
