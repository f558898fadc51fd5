-- `code_at` meets its contract: eight bytes hold the code, or eight and the ninth.
-- Assumes nothing.
use mathlib.Core.Path.{ap, ap₂, ◌∙◌}
use Prim.Native.Nat.{ℕ, ◌+◌, ◌-◌, ◌*◌, ◌/◌, ◌%◌, ◌^◌}
use lib.Bits.{bit_and}
use Rattle.blocks.proofs.Law.Reading.{code_in_word, code_past_word, joined_fits}
use Rattle.blocks.proofs.bytes.code_at.Goals as goal

pub overflow_add-result : goal.overflow_add-result
overflow_add-result c =
    let a = c.args in
    record { fits = rw (c.load.ensures, c.wide.ensures.0) (joined_fits a.s.now (λ i. (c.type_inv.s i).fits) a.bit a.w c.requires.1) }

pub returns-then-skip-w-le64 : goal.returns-then-skip-w-le64
returns-then-skip-w-le64 c =
    let a = c.args in
    ap (λ (n : ℕ). bit_and (n / 2 ^ (a.bit % 8)) ((2 ^ 64 - 1) / 2 ^ (64 - a.w))) c.load.ensures
    ∙ code_in_word a.s.now (λ i. (c.type_inv.s i).fits) a.bit a.w c.requires.1 c.if-skip-w-le64.true

pub returns-else-skip-w-le64 : goal.returns-else-skip-w-le64
returns-else-skip-w-le64 c =
    let a = c.args in
    ap₂ (λ (n b : ℕ). bit_and (n / 2 ^ (a.bit % 8) + b * 2 ^ (64 - a.bit % 8) % 2 ^ 64) ((2 ^ 64 - 1) / 2 ^ (64 - a.w)))
    c.load.ensures c.wide.ensures.0
    ∙ code_past_word a.s.now (λ i. (c.type_inv.s i).fits) a.bit a.w c.requires.1
