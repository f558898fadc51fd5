-- For the contracts of functions that do a part of the work: what one word more puts into a block's bytes.
use Rattle.std.specs.Prelude.{◌≡◌, cond, List, ◌++◌, ℕ, ◌+◌, ◌-◌, ◌*◌, ◌/◌, ◌^◌, min, ltb, take, drop}
use Rattle.blocks.specs.Bytes.{digits}

-- Eight bytes more of the 4w that spell n, from 8k on, or what is left of them; past them nothing is put.
unfoldable pub word_put : ℕ → ℕ → ℕ → List ℕ → List ℕ
word_put w k n out = cond (ltb (2 * k) w) (take (8 * k) out ++ digits 256 (min 8 (4 * w - 8 * k)) (n / 2 ^ (64 * k)) ++ drop (min (8 * k + 8) (4 * w)) out) out

-- Of the w bytes that spell n, those up to `at` stand over `base`.
abbrev pub Standing : ℕ → ℕ → ℕ → List ℕ → List ℕ → Type 0
Standing w at n base out = out ≡ digits 256 (min at w) n ++ drop (min at w) base
