-- The invariant: the codes passed are those of the values passed, and `last` is the last of these.
use Rattle.std.proofs.Common.{◌≡◌, ℕ, ◌+◌, ◌<◌, take, length, refl, sym, ap, ap₂, subst, ◌∙◌, arith}
use lib.Seq.{take-length}
use Rattle.std.proofs.Math.ListN.{set, length-set}
use Rattle.words.proofs.Lists.{length_of, set_of, read_of}
use Rattle.numbers.specs.Difference.{difference_code, difference_codes}
use Rattle.numbers.proofs.Theorems.{nothing_carries_on, no_differences}
use Rattle.stream.proofs.Law.Plain.Differences.{one_coded, passed_is}
use Rattle.stream.proofs.differences.coded.Goals as goal

pub loop-i-init : goal.loop-i-init
loop-i-init g c = let b = g.T.Word.value c.args.before in (refl, sym (no_differences g.T.Word.width b), sym (nothing_carries_on b))

pub loop-i-preserved : goal.loop-i-preserved
loop-i-preserved g c =
    let w = g.T.Word in
    let L = g.met.T.Word.values_law in
    let l = c.loop-i in
    let b = w.value c.args.before in
    let xs = c.args.values.now in
    let here = c.loop-i-test.true in
    let inside : l.i < length (w.values xs) = rw (length_of L xs) here in
    let room : l.i < length (w.values l.codes) = rw (length_of L l.codes) (omega (arith, c.requires)) in (
      length-set l.codes l.i c.code.result ∙ l.invariant.0,
      ap (take (l.i + 1)) (set_of L l.codes l.i c.code.result)
          ∙ ap (λ (v : ℕ). take (l.i + 1) (set (w.values l.codes) l.i v)) (c.code.ensures ∙ ap₂ (difference_code w.width) l.invariant.2 (read_of L xs l.i c.index-values-i.result c.index-values-i.is here))
          ∙ one_coded w.width b (w.values xs) l.i inside (w.values l.codes) room l.invariant.1,
      read_of L xs l.i c.index-values-i-in-loop-i.result c.index-values-i-in-loop-i.is here ∙ sym (passed_is w.width b (w.values xs) l.i inside),
    )

pub returns : goal.returns
returns g c =
    let w = g.T.Word in
    let L = g.met.T.Word.values_law in
    let l = c.loop-i in
    let xs = w.values c.args.values.now in
    let end : l.i ≡ length c.args.values.now = omega arith in (
      refl,
      subst (λ (n : ℕ). take n (w.values l.codes) ≡ difference_codes w.width (w.value c.args.before) (take n xs)) end l.invariant.1
          ∙ ap (difference_codes w.width (w.value c.args.before)) (ap (λ (n : ℕ). take n xs) (sym (length_of L c.args.values.now)) ∙ take-length xs),
    )
