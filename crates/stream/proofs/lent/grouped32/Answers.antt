-- The invariant: the codes passed are copied.
use Rattle.std.proofs.Common.{◌≡◌, ℕ, length, take, refl, subst, ◌∙◌, arith}
use Rattle.std.proofs.Math.ListN.{length-set}
use lib.Seq.{take-length}
use Rattle.stream.proofs.Law.Plain.Mapped.{one_copied}
use Rattle.stream.proofs.lent.grouped32.Goals as goal

pub loop-i-preserved : goal.loop-i-preserved
loop-i-preserved c =
    let l = c.loop-i in (
      length-set l.group l.i _ ∙ l.invariant.0,
      one_copied c.args.codes.now l.group l.i c.loop-i-test.true (omega (arith, c.requires)) l.invariant.1,
    )

pub returns : goal.returns
returns c =
    let l = c.loop-i in
    let codes = c.args.codes.now in
    let end : l.i ≡ length codes = omega arith in
    (refl, subst (λ (n : ℕ). take n l.group ≡ take n codes) end l.invariant.1 ∙ take-length codes)
