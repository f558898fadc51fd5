use Rattle.std.proofs.Common.{ℕ, ◌≡◌, ◌/◌, ◌≤◌, get_or, sym, ap, ◌∙◌, arith}
use Prim.Native.Nat.{zero-le}
use native.Mathlib.Nat.{not-le_of_lt}
use borrow.Author.Count.{below_more}
use Rattle.words.proofs.Lists.{length_of, get_of}
use Rattle.stream.specs.Group.{within}
use Rattle.blocks.proofs.Law.Digits.{everywhere}
use Rattle.stream.proofs.Law.Group.Exact.{within_limited, limited_within}
use Rattle.stream.proofs.Law.Group.Checking.{untrue}
use Rattle.stream.proofs.group_checked.limited.Goals as goal

pub returns-then-limit-wide : goal.returns-then-limit-wide
returns-then-limit-wide g c =
    let xs = c.args.codes.now in
    let cs = g.T.Word.values xs in
    let i = c.loop-code.code-index in
    let code : get_or cs i 0 ≡ c.wide.result = get_of g.met.T.Word.values_law xs i c.code-item.result c.loop-code-test.true ∙ sym (ap g.T.Word.value c.code-item.is) ∙ sym c.wide.ensures in
    sym (untrue (within c.args.limit cs) (λ e. not-le_of_lt (rw code c.if-limit-wide.true) (within_limited c.args.limit cs e i)))

pub loop-code-preserved : goal.loop-code-preserved
loop-code-preserved g c =
    let xs = c.args.codes.now in
    let cs = g.T.Word.values xs in
    let i = c.loop-code.code-index in
    let code : get_or cs i 0 ≡ c.wide.result = get_of g.met.T.Word.values_law xs i c.code-item.result c.loop-code-test.true ∙ sym (ap g.T.Word.value c.code-item.is) ∙ sym c.wide.ensures in
    below_more (λ (k : ℕ). get_or cs k 0 / 2 ≤ c.args.limit) i c.loop-code.invariant (rw code c.if-limit-wide.false)

pub returns : goal.returns
returns g c =
    let xs = c.args.codes.now in
    let cs = g.T.Word.values xs in
    let l = c.loop-code in
    sym (limited_within c.args.limit cs
    (everywhere (λ (x : ℕ). x / 2 ≤ c.args.limit) cs zero-le (λ k h. l.invariant k (omega (arith, h, length_of g.met.T.Word.values_law xs, c.loop-code-test.false)))))
