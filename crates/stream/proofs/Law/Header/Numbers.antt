-- The 32-bit numbers of a stream, at their byte places.
use mathlib.Core.List.{List}
use Prim.Native.Nat.{ℕ, ◌^◌, ◌≤◌, ◌<◌}
use native.Mathlib.Nat.{lt_of_lt_of_le, pow-le-pow_right}
use native.Mathlib.Omega.{arith}
use lib.ListN.{length, take, drop, length-take}
use Rattle.blocks.specs.Bytes.{Below}
use Rattle.stream.specs.Header.{word, header_of}
use Rattle.stream.specs.Relied.{Words}
use Rattle.blocks.proofs.Law.Digits.{byte, below_drop, below_take, number_lt}

-- a number of four bytes is below 2 ^ 32, also where the stream ends before it
pub word_small : (s : List ℕ) (p : ℕ) → Below 256 s → word s p < 2 ^ 32
unfolding word
word_small s p b =
    let few : length (take 4 (drop p s)) ≤ 4 = rw length-take (omega arith) in
    lt_of_lt_of_le (number_lt 256 byte (take 4 (drop p s)) (below_take 256 4 (drop p s) (below_drop 256 p s b))) (pow-le-pow_right byte few)

pub words : (s : List ℕ) → Below 256 s → Words (header_of s)
unfolding header_of
words s b = record { exponent = word_small s 20 b; count = word_small s 24 b; chunks = word_small s 28 b }
