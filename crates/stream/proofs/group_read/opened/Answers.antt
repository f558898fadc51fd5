-- The codes passed are the first digits.
use Rattle.std.proofs.Common.{◌≡◌, ℕ, List, ◌+◌, ◌*◌, ◌/◌, ◌%◌, ◌^◌, take, refl, ap, ◌∙◌, subst, arith}
use native.Mathlib.Nat.{mul_comm}
use lib.ListN.{set, length-set}
use Rattle.blocks.specs.Bytes.{number, digits}
use Rattle.stream.specs.Block.{block_codes}
use Rattle.stream.proofs.Law.Group.Reading.{one_code}
use Rattle.stream.proofs.group_read.opened.Goals as goal

pub loop-i-init : goal.loop-i-init
unfolding digits
loop-i-init c = (refl, refl)

pub loop-i-preserved : goal.loop-i-preserved
loop-i-preserved c =
    let s : List ℕ = c.args.s.now in
    let w = c.args.w in
    let l = c.loop-i in (
      length-set l.codes l.i c.code_at.result ∙ l.invariant.0,
      ap (λ (v : ℕ). take (l.i + 1) (set l.codes l.i v)) (c.code_at.ensures ∙ ap (λ (b : ℕ). number 256 s / 2 ^ (8 + b) % 2 ^ w) (mul_comm l.i w))
          ∙ one_code s l.codes w l.i (omega arith) l.invariant.1,
    )

pub returns : goal.returns
unfolding block_codes
returns c =
    let a = c.args in
    let l = c.loop-i in
    let end : l.i ≡ a.n = omega arith in
    (refl, subst (λ (n : ℕ). take n l.codes ≡ digits (2 ^ a.w) n (number 256 a.s.now / 256)) end l.invariant.1)
