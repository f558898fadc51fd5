-- The order of machine words, as `<` and `<=` ask it, is that of their numbers.
use Rattle.std.specs.Prelude.{◌≡◌, ℕ, Option, Some, nat_lt, nat_le}
use Rattle.std.specs.declared.cmp.Ordering.{Ordering}
use Rattle.std.specs.Ordering.{nat_cmp, partial_lt, partial_le}
use Rattle.std.proofs.Common.{rules}

abbrev by_number : ℕ → ℕ → Option Ordering
by_number a b = Some (nat_cmp a b)

pub lt_is : (a b : ℕ) → partial_lt by_number a b ≡ nat_lt a b
lt_is a b = search rules

pub le_is : (a b : ℕ) → partial_le by_number a b ≡ nat_le a b
le_is a b = search rules
