-- What `bin` answers.
use Rattle.std.specs.Prelude.{ℕ, cond, ℤ, Option, Some, None}
use Rattle.bins.specs.Tolerance.{allowed_k, bin_of}

-- the bin of an allowed k; any other k has none
unfoldable pub bin_answer : ℕ → ℕ → ℤ → Option ℕ
bin_answer W m k = cond (allowed_k W m k) (Some (bin_of W m k)) None
