-- `codes_of` meets its contract: zeros, the codes where they stand, or the codes of a copy that spells the same number.
-- Assumes nothing.
use mathlib.Core.Path.{◌≡◌, refl, sym, ap, ◌∙◌}
use mathlib.Core.List.{List}
use Prim.Native.Nat.{ℕ, ◌*◌, ◌/◌, ◌^◌, ◌≤◌}
use native.Mathlib.Nat.{mul-le-mul}
use native.Mathlib.Omega.{arith}
use Rattle.blocks.specs.Bytes.{number, digits}
use Rattle.stream.specs.Block.{block_codes}
use Rattle.stream.proofs.Law.Group.Reading.{take_replicate}
use Rattle.stream.proofs.Law.Group.Blocks.{zero_block}
use Rattle.stream.proofs.group_read.codes_of.Goals as goal
use Rattle.stream.proofs.group_read.codes_of.Lts as lts
use Rattle.stream.proofs.group_read.codes_of.Reads as reads
use Rattle.stream.proofs.group_read.codes_of.Tie as tie

abbrev Start : Type 0
Start = lts.Start tie.the-claims reads.Pre reads.Post

small : (f : Start) → f.args.w * f.args.n ≤ 64 * 32
small f = mul-le-mul f.requires.1 f.requires.0

-- the codes are those of the number that the bytes spell
same_codes : (w n : ℕ) (r s : List ℕ) → number 256 r ≡ number 256 s → block_codes w n r ≡ block_codes w n s
unfolding block_codes
same_codes w n r s e = ap (λ (m : ℕ). digits (2 ^ w) n (m / 256)) e

pub returns-then-w-eq0 : goal.returns-then-w-eq0
returns-then-w-eq0 c =
    let a = c.args in
    (refl, take_replicate a.n 32 0 c.requires.0 ∙ sym (zero_block a.n a.s.now) ∙ ap (λ (w : ℕ). block_codes w a.n a.s.now) (sym c.if-w-eq0.true))

pub overflow_mul-w : goal.overflow_mul-w
overflow_mul-w c = omega (arith, small c.before.before.before)

pub overflow_add-w : goal.overflow_add-w
overflow_add-w c = omega (arith, small c.before.before.before)

pub opened-requires : goal.opened-requires
opened-requires c = let f = c.before in (f.requires.0, omega arith, f.requires.1, c.if-w-n.true)

pub returns-then-w-n : goal.returns-then-w-n
returns-then-w-n c = c.opened.ensures

pub padded-room-requires : goal.padded-room-requires
padded-room-requires c = omega (arith, small c.before.before.before.before)

pub opened-requires-2 : goal.opened-requires-2
opened-requires-2 c =
    let f = c.before.before.before.before.before.before in
    (f.requires.0, omega arith, f.requires.1, omega (arith, small f))

pub returns : goal.returns
returns c =
    let a = c.args in
    (c.opened-2.ensures.0, c.opened-2.ensures.1 ∙ same_codes a.w a.n _ a.s.now c.padded-room.ensures)
