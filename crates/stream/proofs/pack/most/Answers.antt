-- `stream::pack::most` meets its contract.
use Prim.Native.Nat.{ℕ, ◌+◌, ◌-◌, ◌*◌, ◌/◌, ◌%◌, ◌≤◌, ◌<◌, min}
use Rattle.stream.proofs.Law.Setting.Allowed.{width_most}
use Rattle.stream.specs.Chunk.{groups_in}
use Rattle.stream.specs.Packing.{most_bytes}
use Rattle.stream.proofs.Law.Chunk.BytesLeft.{groups_few}
use Rattle.stream.proofs.Law.Plain.Rounding.{rounded_up}
use mathlib.Core.Path.{◌≡◌, ap, ap₂, ◌∙◌}
use native.Mathlib.Nat.{mul-le-mul}
use native.Mathlib.Omega.{arith}
use Rattle.stream.proofs.pack.most.Goals as goal
use Rattle.stream.proofs.pack.most.Lts as lts
use Rattle.stream.proofs.pack.most.Reads as reads
use Rattle.stream.proofs.pack.most.Tie as tie

abbrev After-struct_known : Type 0
After-struct_known = lts.After-struct_known tie.the-claims reads.Pre reads.Post

-- n values of a width, in bits
bits : (c : After-struct_known) → let a = c.args in a.n * a.t.width ≤ 67108864
bits c = let s = c in mul-le-mul s.requires.1 (width_most s.args.t.width s.requires.0.known)

-- the groups are no more than the values
groups : (n size up : ℕ) → 0 < size → up ≡ n / size + min 1 (n % size) → up ≤ n
unfolding groups_in
groups n size up some is = omega (arith, is ∙ rounded_up n size some, groups_few size n some)

pub overflow_mul-result : goal.overflow_mul-result
overflow_mul-result c = omega (arith, c.chunks_of.ensures.1)

pub overflow_add-result : goal.overflow_add-result
overflow_add-result c = omega (arith, c.chunks_of.ensures.1)

pub div_ceil-requires : goal.div_ceil-requires
div_ceil-requires c = c.group_size-size.ensures.1

pub overflow_add-result-2 : goal.overflow_add-result-2
overflow_add-result-2 c = omega (arith, groups c.args.n c.group_size-size.result c.div_ceil.result c.group_size-size.ensures.1 c.div_ceil.ensures, c.chunks_of.ensures.1, c.requires.1)

pub overflow_mul-result-2 : goal.overflow_mul-result-2
overflow_mul-result-2 c = omega (arith, bits c)

pub overflow_add-result-3 : goal.overflow_add-result-3
overflow_add-result-3 c =
    omega (arith, bits c, groups c.args.n c.group_size-size.result c.div_ceil.result c.group_size-size.ensures.1 c.div_ceil.ensures, c.chunks_of.ensures.1, c.requires.1)

pub returns : goal.returns
unfolding most_bytes groups_in
returns c =
    let a = c.args in
    let up = c.div_ceil.ensures ∙ rounded_up a.n c.group_size-size.result c.group_size-size.ensures.1 in
    ap (λ (k : ℕ). 48 + 4 * c.chunks_of.result + k + a.n * a.t.width / 8) up
    ∙ ap₂ (λ (k z : ℕ). 48 + 4 * k + (a.n + (z - 1)) / z + a.n * a.t.width / 8) c.chunks_of.ensures.0 c.group_size-size.ensures.0
