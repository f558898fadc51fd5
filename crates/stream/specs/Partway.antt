-- For the contracts of functions that do a part of the work: how far the writing of a group has come.
use Rattle.std.specs.Prelude.{◌≡◌, List, ◌++◌, ℕ, ◌+◌, ◌*◌, ◌/◌, ◌^◌, ◌<◌, length, drop}
use Rattle.blocks.specs.Bytes.{number, digits}

-- The codes cs, w bits each, have been added to what is written over `base`. Their number's `at` lowest bytes stand in `out`, and the `fill`
-- bits above those are still in the word `acc`.
pub record Partway (w : ℕ) (base cs : List ℕ) (acc fill at : ℕ) (out : List ℕ) : Type 0 where
  pub short : fill < 64
  pub spent : 8 * at + fill ≡ w * length cs
  pub held : acc ≡ number (2 ^ w) cs / 256 ^ at
  pub out_is : out ≡ digits 256 at (number (2 ^ w) cs) ++ drop at base
