-- What is known of the codes of records of 32 words: their numbers are as many, and records that stand one behind the other are a group.
-- Assumes nothing.
use Rattle.std.proofs.Common.{◌≡◌, ℕ, ◌+◌, ◌*◌, ◌≤◌, max, List, ◌++◌, length, take, map, ◌∙◌, arith}
use mathlib.Core.Logic.{◌⊎◌, ⊎_elim}
use native.Mathlib.Nat.{mul-le-mul}
use lib.Seq.{length-take-le}
use Rattle.words.proofs.Lists.{length_of}
use Rattle.stream.specs.declared.group.Group.{Group}
use Rattle.stream.specs.Group.{width_of}
use Rattle.stream.specs.Block.{Filled}
use Rattle.stream.proofs.Law.Group.Parts.{InPairs, in_pairs, four_long}
use Rattle.stream.proofs.Law.Group.FullFour.{Full, InBlocks, in_blocks}

-- a word has at most 64 bits
pub at_most_64 : {W m : ℕ} → ((W ≡ 32) × (m ≡ 23)) ⊎ ((W ≡ 64) × (m ≡ 52)) → W ≤ 64
at_most_64 {W} {m} = ⊎_elim (λ e. omega (arith, e)) (λ e. omega (arith, e))

-- four records are small, so no product of their counts wraps
pub four_fit : (w W a b c d : ℕ) → w ≤ W → W ≤ 64 → (a ≤ 32) × (b ≤ 32) × (c ≤ 32) × (d ≤ 32) → w * (a + b + c + d) ≤ 64 * 128
four_fit w W a b c d h k few =
    let narrow : w ≤ 64 = omega (arith, h, k) in
    let counts : a + b + c + d ≤ 128 = omega (arith, few) in
    mul-le-mul narrow counts

module _ {A : Type 0} {value : A → ℕ} {values : List A → List ℕ} (law : (xs : List A) → values xs ≡ map value xs) where
  pub long_of : (r : Group A) → length r.codes ≡ 32 → length (values r.codes) ≡ 32
  long_of r long = length_of law r.codes ∙ long

  pub counts_of : (r : Group A) → length r.codes ≡ 32 → r.count ≤ 32 → length (take r.count (values r.codes)) ≡ r.count
  counts_of r long few = length-take-le r.count (values r.codes) (omega (arith, long_of r long, few))

  full_of : (r : Group A) → length r.codes ≡ 32 → r.count ≡ 32 → Full r.count (values r.codes)
  full_of r long is = record { counts = is; long = long_of r long }

  module _ (w : ℕ) (a b c d : Group A) (la : length a.codes ≡ 32) (lb : length b.codes ≡ 32) (lc : length c.codes ≡ 32) (ld : length d.codes ≡ 32) where
    -- four records of any count
    module _ (few : (a.count ≤ 32) × (b.count ≤ 32) × (c.count ≤ 32) × (d.count ≤ 32)) where
      pub four_counts :
          length (take a.count (values a.codes) ++ take b.count (values b.codes) ++ take c.count (values c.codes) ++ take d.count (values d.codes)) ≡ a.count + b.count + c.count + d.count
      four_counts =
          four_long (take a.count (values a.codes)) (take b.count (values b.codes)) (take c.count (values c.codes)) (take d.count (values d.codes)) a.count b.count c.count d.count
          (counts_of a la few.0) (counts_of b lb few.1) (counts_of c lc few.2) (counts_of d ld few.3)

      pub pairs_of : Filled a.count (b.count + (c.count + d.count)) × Filled b.count (c.count + d.count) × Filled c.count d.count
          → w ≡ width_of (take a.count (values a.codes) ++ take b.count (values b.codes) ++ take c.count (values c.codes) ++ take d.count (values d.codes))
          → InPairs w a.count b.count c.count d.count (take a.count (values a.codes)) (take b.count (values b.codes)) (take c.count (values c.codes)) (take d.count (values d.codes))
      pairs_of filled =
          in_pairs w a.count b.count c.count d.count (take a.count (values a.codes)) (take b.count (values b.codes)) (take c.count (values c.codes)) (take d.count (values d.codes))
          (counts_of a la few.0) (counts_of b lb few.1) (counts_of c lc few.2) (counts_of d ld few.3) filled.0 filled.1

    -- and four full ones, of whose widths this is the largest
    pub blocks_of : (a.count ≡ 32) × (b.count ≡ 32) × (c.count ≡ 32) × (d.count ≡ 32)
        → w ≡ max (max (width_of (values a.codes)) (width_of (values b.codes))) (max (width_of (values c.codes)) (width_of (values d.codes)))
        → InBlocks w (values a.codes) (values b.codes) (values c.codes) (values d.codes)
        (take a.count (values a.codes) ++ take b.count (values b.codes) ++ take c.count (values c.codes) ++ take d.count (values d.codes))
    blocks_of is = in_blocks w (full_of a la is.0) (full_of b lb is.1) (full_of c lc is.2) (full_of d ld is.3)
