-- The words that the theorems of proofs/Theorems.antt are stated in.
use Rattle.std.specs.Prelude.{◌≡◌, ℕ, ◌+◌, ◌*◌, ◌^◌, ◌<◌}

-- The result r is this number and this detail, or answer, with nothing cut off: 32 bits each.
pub record Uncut (number detail r : ℕ) : Type 0 where
  pub number_fits : number < 2 ^ 32
  pub detail_fits : detail < 2 ^ 32
  pub whole : r ≡ number * 2 ^ 32 + detail
