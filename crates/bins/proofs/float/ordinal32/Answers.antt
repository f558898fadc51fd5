-- `bins::float::ordinal32` meets its contract.
use Rattle.std.proofs.Common.{◌≡◌, ℕ, ◌+◌, ◌-◌, ◌*◌, ◌%◌, ◌^◌, ◌<◌, ◌≤◌, sym, ap, ◌∙◌, mod-eq_of_lt, arith, lit≤}
use Rattle.bins.specs.Tolerance.{last_bin, ordinal_of, restored_ordinal, threshold_ordinal}
use Rattle.bins.proofs.Law.Tolerance.{restored_bins, restored_above, next_bin}
use Rattle.bins.proofs.float.ordinal32.Goals as goal

below : (u j r : ℕ) → u < 2 ^ 23 → r ≡ ordinal_of 23 (u % 2 ^ 23 * 2 ^ j) → r ≡ restored_ordinal 23 j u
below u j r h e = e ∙ ap (λ (n : ℕ). ordinal_of 23 (n * 2 ^ j)) (mod-eq_of_lt h) ∙ sym (restored_bins 23 j u h)

above : (u j : ℕ) → j ≤ last_bin 32 23 → 2 ^ 23 ≤ u → u + j * 2 ^ 23 ≡ restored_ordinal 23 j u
above u j a h = (let e : u + j * 2 ^ 23 ≡ u - 2 ^ 23 + threshold_ordinal 23 j = omega (arith, next_bin 32 23 (lit≤ tt) j a) in e) ∙ sym (restored_above 23 j u h)

pub overflow_mul-far : goal.overflow_mul-far
unfolding last_bin
overflow_mul-far c = record { fits = omega (arith, c.before.requires.2) }

pub overflow_add-far : goal.overflow_add-far
unfolding last_bin
overflow_add-far c = record { fits = omega (arith, c.before.requires.0, c.before.requires.2) }

pub returns-then-u-lt8388608 : goal.returns-then-u-lt8388608
returns-then-u-lt8388608 c = let f = c.before.before in below f.args.u f.args.j c.before.product32-near.result c.if-u-lt8388608.true c.before.product32-near.ensures

pub returns-else-u-lt8388608 : goal.returns-else-u-lt8388608
returns-else-u-lt8388608 c = let f = c.before.before in above f.args.u f.args.j f.requires.2 c.if-u-lt8388608.false
