-- The invariant: how far the sums have come.
use Rattle.std.proofs.Common.{◌≡◌, ℕ, ◌+◌, ◌-◌, ◌*◌, ◌/◌, ◌≤◌, List, ◌++◌, take, drop, length, refl, sym, ap, ap₂, subst, ◌∙◌, arith, le_of_eq}
use borrow.Rule.Slice.PartMut.{put_mid}
use Rattle.words.proofs.Lists.{length_of, tail_of, mid_of}
use Rattle.numbers.specs.Difference.{running_sums, last_of}
use Rattle.stream.proofs.Law.Plain.Differences.{Summed, nothing_summed, more_summed, all_summed}
use Rattle.stream.proofs.differences.put_sums.Goals as goal

pub loop-k-init : goal.loop-k-init
loop-k-init g c =
    let w = g.T.Word in
    let L = g.met.T.Word.values_law in
    let a = c.args in
    let h : a.n ≤ length (w.values a.codes.now) = rw (length_of L a.codes.now) c.requires.0 in
    let l : a.n ≤ length (w.values a.out.now) = rw (length_of L a.out.now) c.requires.1 in
    (h, l, nothing_summed w.width (w.value a.before) a.n (w.values a.codes.now) (w.values a.out.now) h l)

pub loop-k-preserved : goal.loop-k-preserved
loop-k-preserved g c =
    let w = g.T.Word in
    let L = g.met.T.Word.values_law in
    let a = c.args in
    let v = c.loop-k in
    let m = v.invariant in
    let W = w.width in
    let i = 4 * v.k in
    let r = c.four-last in
    let last = w.value v.last in
    let lent = tail_of L i a.codes.now in
    let sums = ap (λ (cs : List ℕ). running_sums W last (take 4 cs)) lent in (
      m.0,
      m.1,
      subst (λ (i : ℕ). Summed W (w.value a.before) a.n (w.values a.codes.now) (w.values a.out.now) m.0 m.1 (w.values (put_mid (4 * v.k) (length v.out - 4 * v.k) v.out r.new.out)) (w.value r.result) i) (let e : i + 4 ≡ 4 * (v.k + 1) = omega arith in e)
          (subst (λ (o : List ℕ). Summed W (w.value a.before) a.n (w.values a.codes.now) (w.values a.out.now) m.0 m.1 o (w.value r.result) (i + 4)) (sym (mid_of L i v.out r.new.out))
          (more_summed W (w.value a.before) a.n (w.values a.codes.now) (w.values a.out.now) m.0 m.1 (w.values v.out) last i m.2 4 (let e : i + 4 ≤ a.n = omega (arith, c.loop-k-test.true) in e) (w.value r.result) (w.values r.new.out)
          (r.ensures.value ∙ ap (last_of last) sums)
          (r.ensures.out_after ∙ ap₂ (λ (s o : List ℕ). s ++ drop 4 o) sums (tail_of L i v.out)))),
    )

pub returns : goal.returns
returns g c =
    let w = g.T.Word in
    let L = g.met.T.Word.values_law in
    let a = c.args in
    let v = c.loop-k in
    let W = w.width in
    let i = 4 * (a.n / 4) in
    let end : v.k ≡ a.n / 4 = omega arith in
    let m = v.invariant in
    let far : Summed W (w.value a.before) a.n (w.values a.codes.now) (w.values a.out.now) m.0 m.1 (w.values v.out) (w.value v.last) i
    = subst (λ (k : ℕ). Summed W (w.value a.before) a.n (w.values a.codes.now) (w.values a.out.now) m.0 m.1 (w.values v.out) (w.value v.last) (4 * k)) end m.2 in
    let r = c.one_by_one in
    let last = w.value v.last in
    let left : i + (a.n - i) ≡ a.n = omega (arith, far.within) in
    mid_of L i v.out r.new.out
    ∙ all_summed W (w.value a.before) a.n (w.values a.codes.now) (w.values a.out.now) m.0 m.1 _ _ _ left
    (more_summed W (w.value a.before) a.n (w.values a.codes.now) (w.values a.out.now) m.0 m.1 (w.values v.out) last i far (a.n - i) (le_of_eq left) _ (w.values r.new.out) refl
    (r.ensures
    ∙ ap₂ (λ (s o : List ℕ). s ++ drop (a.n - i) o) (ap (λ (cs : List ℕ). running_sums W last (take (a.n - i) cs)) (tail_of L i a.codes.now)) (tail_of L i v.out)))
