-- `stream::chunk::bytes_there` meets its contract.
use Rattle.std.specs.Prelude.{Some, None}
use mathlib.Core.Bool.{Bool, cond}
use mathlib.Core.List.{List}
use mathlib.Core.Path.{◌≡◌, sym, ap, ◌∙◌}
use native.Mathlib.Nat.{mul-le-mul, le_of_lt}
use native.Mathlib.Numerals.{one-add}
use native.Mathlib.Omega.{arith}
use Prim.Native.Nat.{ℕ, ◌+◌, ◌*◌, ◌/◌, ◌≤◌}
use lib.ListN.{length, get_or}
use Rattle.stream.specs.Group.{bytes_for, given_width, group_length}
use Rattle.stream.proofs.Law.Chunk.Whole.{facts_whole, not_whole, there}
use Rattle.stream.proofs.chunk.bytes_there.Goals as goal
use Rattle.stream.proofs.chunk.bytes_there.Lts as lts
use Rattle.stream.proofs.chunk.bytes_there.Reads as reads

abbrev Else2 : Type 0
Else2 = lts.Else2 reads.Pre reads.Post

-- not there where one of the two rules is broken
none : (W n : ℕ) (s : List ℕ) → ((given_width s ≤ W) × (group_length n s ≤ length s) → ⊥) → None ≡ there W n s
none W n s broken = sym (ap (λ (b : Bool). cond b (Some (group_length n s)) None) (not_whole W n s broken))

-- the bytes by the first of them
spelled : (n : ℕ) (s : List ℕ) → 1 + (get_or s 0 0 * n + 7) / 8 ≡ group_length n s
unfolding bytes_for given_width group_length
spelled n s = one-add _

small : (c : Else2) → get_or c.args.s.now 0 0 * c.args.n ≤ 256 * 128
small c = mul-le-mul (le_of_lt (c.shared_slice_known-1.given 0).fits) c.requires

pub returns-then-s-eq0 : goal.returns-then-s-eq0
unfolding group_length
returns-then-s-eq0 c = none _ _ _ (λ f. omega (arith, f.1, c.if-s-eq0.true))

pub overflow_cast-w : goal.overflow_cast-w
overflow_cast-w c = omega (arith, c.shared_slice_known-1.given 0)

pub returns-then-width-w : goal.returns-then-width-w
unfolding given_width
returns-then-width-w c = let a = c.args in none a.width a.n a.s.now (λ f. omega (arith, f.0, c.if-width-w.true))

pub overflow_mul-bytes : goal.overflow_mul-bytes
overflow_mul-bytes c = omega (arith, small c.before)

pub overflow_add-bytes : goal.overflow_add-bytes
overflow_add-bytes c = omega (arith, small c.before)

pub overflow_add-bytes-2 : goal.overflow_add-bytes-2
overflow_add-bytes-2 c = omega (arith, small c.before)

pub returns-then-s-bytes : goal.returns-then-s-bytes
returns-then-s-bytes c = none _ _ _ (λ f. omega (arith, f.1, c.if-s-bytes.true, spelled c.args.n c.args.s.now))

pub returns : goal.returns
unfolding given_width
returns c =
    let a = c.args in
    let s = a.s.now in
    let is = spelled a.n s in
    ap Some is ∙ sym (ap (λ (b : Bool). cond b (Some (group_length a.n s)) None) (facts_whole a.width a.n s (omega (arith, c.if-width-w.false)) (omega (arith, is, c.if-s-bytes.false))))
