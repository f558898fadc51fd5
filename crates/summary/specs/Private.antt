-- Words for the crate's own functions: they walk a chunk's values by their ranks, and ask for a stream that was accepted. No promise to a user cites them; the laws of proofs/Law say what they
-- are in the words of Order and Entry.
use Rattle.std.specs.Prelude.{◌≡◌, ℕ, ◌+◌, ◌-◌, ◌*◌, ◌^◌, ◌≤◌, ◌<◌, min, max, true, false, cond, List, [], ◌∷◌, ltb, eqb, length, take, drop, Ok}
use Rattle.bins.specs.Tolerance.{ordinal}
use Rattle.stream.specs.Header.{header_of}
use Rattle.stream.specs.Setting.{known_level, fraction_bits}
use Rattle.stream.specs.Rows.{first}
use Rattle.stream.specs.Operations.{opening_rows, check_rows}
use Rattle.stream.specs.declared.header.Header.{Header}
use Rattle.summary.specs.declared.entry.Entry.{Entry}
use Rattle.summary.specs.Order.{not_a_number, rank}
use Rattle.summary.specs.Entry.{nans_in, smallest, largest, entry_length}
use Rattle.summary.specs.Summary.{summary_in}

-- the pattern at a place: the way back from `rank`
unfoldable pub pattern_of : ℕ → ℕ → ℕ
pattern_of W r = cond (ltb r (2 ^ (W - 1))) (2 ^ W - 1 - r) (r - 2 ^ (W - 1))

-- the place of x, or that of -0 for 0: what stands at it or behind it is at least x
unfoldable pub floor_rank : ℕ → ℕ → ℕ
floor_rank W x = rank W (cond (eqb (ordinal W x) 0) (2 ^ (W - 1)) x)

-- the lowest and the highest place of a value that is no not-a-number; of none, the end from which the search starts
unfoldable pub low_rank : ℕ → ℕ → List ℕ → ℕ
low_rank W m [] = 2 ^ W - 1
low_rank W m (p ∷ ps) = cond (not_a_number W m p) (low_rank W m ps) (min (rank W p) (low_rank W m ps))

unfoldable pub high_rank : ℕ → ℕ → List ℕ → ℕ
high_rank W m [] = 0
high_rank W m (p ∷ ps) = cond (not_a_number W m p) (high_rank W m ps) (max (rank W p) (high_rank W m ps))

-- h is the header of bytes that a check has accepted, at some level
pub record Accepted (h : Header) (s : List ℕ) : Type 0 where
  pub level : ℕ
  pub pass : first (check_rows level s) ≡ Ok tt
  pub header : h ≡ header_of s

-- what an entry says of values is right
abbrev pub entry_says : Entry → ℕ → ℕ → List ℕ → Type 0
entry_says e W m vs = (e.nans ≡ nans_in W m vs) × (e.smallest ≡ smallest W m vs) × (e.largest ≡ largest W m vs)

-- the summary of an accepted stream lies at the place, and it is true
pub record Summarised (h : Header) (s : List ℕ) (place : ℕ) : Type 0 where
  pub accepted : Accepted h s
  pub inside : place + h.chunks * entry_length h.width ≤ length s
  pub is : take (h.chunks * entry_length h.width) (drop place s) ≡ summary_in h s

-- x is a number of the width of the header
pub record Comparable (h : Header) (x : ℕ) : Type 0 where
  pub fits : x < 2 ^ h.width
  pub number : not_a_number h.width (fraction_bits h.width) x ≡ false

-- 1 2 5 6 7 8 14, the list's rows in front of the tables': none of them is given
pub record ListOpened (W level x : ℕ) (s : List ℕ) : Type 0 where
  pub known : known_level level ≡ true
  pub number : not_a_number W (fraction_bits W) x ≡ false
  pub opening : first (opening_rows level s) ≡ Ok tt
  pub width : (header_of s).width ≡ W
