-- The words that the theorems of proofs/Theorems.antt are stated in.
use Rattle.std.specs.Prelude.{◌≡◌, ℕ, ◌+◌, ◌-◌, ◌*◌, ◌%◌, ◌^◌, ◌<◌, ◌≤◌, Bool, true, false, ℤ, ◌≤ℤ◌, ◌≢◌, Result, Ok, Err}
use Rattle.std.specs.Float.Ieee as Ieee
use Rattle.std.specs.Float.Ieee.Exact.{HasValue}
use Rattle.numbers.specs.declared.bound.BoundError.{BoundError}
use Rattle.numbers.specs.declared.bound.BoundError.TheVariants.{NoTolerance, TooSmall}
use Rattle.bins.specs.Tolerance.{k_offset, last_bin, allowed_k, bin_of, sign, ordinal, magnitude, threshold}
use Rattle.numbers.specs.Bound.{not_above}

-- What is asked of a width W with m fraction bits: the sign and two exponent bits, a smallest k below 0, and a largest k that is not.
pub record Format (W m : ℕ) : Type 0 where
  pub room : m + 3 ≤ W
  pub least : 0 < k_offset W m
  pub order : k_offset W m ≤ last_bin W m

-- how far two magnitudes are apart: one of the two differences is 0
unfoldable pub distance : ℕ → ℕ → ℕ
distance a b = (a - b) + (b - a)

-- Demand 2 for one pattern p that comes back as q, under the tolerance 2^k, with E = 2 ^ j units: the sign returns; a magnitude below T
-- returns with twice the distance at most E; everything else returns bit for bit.
pub record Within (W m j p q : ℕ) : Type 0 where
  pub signed : sign W q ≡ sign W p
  pub close : magnitude m (ordinal W p) < threshold m j → 2 * distance (magnitude m (ordinal W p)) (magnitude m (ordinal W q)) ≤ 2 ^ j
  pub exact : threshold m j ≤ magnitude m (ordinal W p) → q ≡ p

-- n is the whole number nearest to a / b, by a rule for halves: no other is nearer; and where another is as near, that is a half, and n is the larger of the two
-- by the rule 0, away from zero, and the even one by the rule 1.
pub record Nearest (halves a b n : ℕ) : Type 0 where
  pub close : (u : ℕ) → distance a (n * b) ≤ distance a (u * b)
  pub half : (u : ℕ) → (u ≢ n) → distance a (u * b) ≡ distance a (n * b) → (halves ≡ 0 → u < n) × (halves ≡ 1 → n % 2 ≡ 0)

-- "the largest allowed k with 2^k not above it"
pub record IsBound (W m t : ℕ) (k : ℤ) : Type 0 where
  pub allowed : allowed_k W m k ≡ true
  pub below : not_above W m t (bin_of W m k) ≡ true
  pub largest : (other : ℤ) → allowed_k W m other ≡ true → not_above W m t (bin_of W m other) ≡ true → other ≤ℤ k

-- ---- the same in the words of IEEE 754, by the toolchain's own account of it (`lib.Ieee`)

-- The pattern p is read as a finite number, negative or not, whose magnitude is x of the format's smallest: x times 2^-149, or 2^-1074.
abbrev pub Reads : Ieee.Format → ℕ → Bool → ℕ → Type 0
Reads f p negative x = HasValue (Ieee.of_bits f p) negative x (2 ^ Ieee.low f)

-- Demand 2 for one pattern p that comes back as q, under the tolerance 2^k, with E = 2 ^ j units: if p is read as a finite number of
-- magnitude below T, then q is read as a finite number of the same sign, and twice their distance is at most E; every other pattern is
-- the same.
pub record Returned (f : Ieee.Format) (j p q : ℕ) : Type 0 where
  pub close : (negative : Bool) (x : ℕ) → Reads f p negative x → x < threshold (Ieee.prec f - 1) j
      → (y : ℕ) × Reads f q negative y × (2 * distance x y ≤ 2 ^ j)
  pub same : ((negative : Bool) (x : ℕ) → Reads f p negative x → threshold (Ieee.prec f - 1) j ≤ x) → q ≡ p

-- "2^k not above it", for the number x times 2^-1074 and an allowed k of either width: both sides count in halves of that unit, in which 2^k is
-- 2 ^ (k + 1075).
abbrev pub Reaches : ℕ → ℤ → Type 0
Reaches x k = 2 ^ bin_of 64 52 k ≤ 2 * x

-- "the largest allowed k with 2^k not above it"
pub record LargestFor (W m x : ℕ) (k : ℤ) : Type 0 where
  pub allowed : allowed_k W m k ≡ true
  pub reached : Reaches x k
  pub largest : (other : ℤ) → allowed_k W m other ≡ true → Reaches x other → other ≤ℤ k

-- What bound answers of a tolerance t: its k; 12, where t is not read as "a finite number above 0"; 13, where 2^k is above it for every
-- allowed k.
pub data BoundFor (W m t : ℕ) : Result ℤ BoundError → Type 0 where
  a_k : (x : ℕ) → Reads Ieee.binary64 t false x → 0 < x → (k : ℤ) → LargestFor W m x k → BoundFor W m t (Ok k)
  no_tolerance : ((x : ℕ) → Reads Ieee.binary64 t false x → x ≡ 0) → BoundFor W m t (Err NoTolerance)
  too_small : (x : ℕ) → Reads Ieee.binary64 t false x → 0 < x → ((k : ℤ) → allowed_k W m k ≡ true → 2 * x < 2 ^ bin_of 64 52 k) → BoundFor W m t (Err TooSmall)
