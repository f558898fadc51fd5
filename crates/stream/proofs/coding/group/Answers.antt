-- The invariant: the codes passed are those of the values passed.
use Rattle.std.proofs.Common.{◌≡◌, ℕ, ◌+◌, ◌<◌, map, take, length, refl, sym, ap, subst, ◌∙◌, arith}
use Rattle.std.proofs.Math.ListN.{set, length-set}
use lib.Seq.{take-length}
use Rattle.words.proofs.Lists.{length_of, set_of, read_of}
use Rattle.stream.specs.Setting.{code_at}
use Rattle.stream.proofs.Law.Plain.Mapped.{one_mapped}
use Rattle.stream.proofs.coding.group.Goals as goal

pub loop-i-preserved : goal.loop-i-preserved
loop-i-preserved g c =
    let w = g.T.Word in
    let L = g.met.T.Word.values_law in
    let l = c.loop-i in
    let xs = c.args.values.now in
    let here = c.loop-i-test.true in
    let inside : l.i < length (w.values xs) = rw (length_of L xs) here in
    let room : l.i < length (w.values l.codes) = rw (length_of L l.codes) (omega (arith, c.requires.1)) in (
      length-set l.codes l.i c.code.result ∙ l.invariant.0,
      ap (take (l.i + 1)) (set_of L l.codes l.i c.code.result)
          ∙ ap (λ (v : ℕ). take (l.i + 1) (set (w.values l.codes) l.i v)) (c.code.ensures ∙ ap (code_at c.args.t) (read_of L xs l.i c.index-values-i.result c.index-values-i.is here))
          ∙ one_mapped (code_at c.args.t) (w.values xs) (w.values l.codes) l.i inside room l.invariant.1,
    )

pub returns : goal.returns
returns g c =
    let w = g.T.Word in
    let L = g.met.T.Word.values_law in
    let l = c.loop-i in
    let xs = w.values c.args.values.now in
    let end : l.i ≡ length c.args.values.now = omega arith in (
      refl,
      subst (λ (n : ℕ). take n (w.values l.codes) ≡ map (code_at c.args.t) (take n xs)) end l.invariant.1
          ∙ ap (map (code_at c.args.t)) (ap (λ (n : ℕ). take n xs) (sym (length_of L c.args.values.now)) ∙ take-length xs),
    )
