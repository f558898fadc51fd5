-- The patterns land behind those before them, by mode.
use Rattle.std.proofs.Common.{◌≡◌, ℕ, ◌-◌, List, ◌++◌, map, take, drop, length, sym, ap, ap₂, ◌∙◌}
use borrow.Rule.Slice.PartMut.{put_mid}
use Rattle.words.proofs.Lists.{tail_of, mid_of}
use Rattle.numbers.specs.Difference.{running_sums, last_of}
use Rattle.stream.specs.Group.{group_codes}
use Rattle.stream.specs.Lent.{landed}
use Rattle.stream.specs.Setting.{pattern_at, patterns_after}
use Rattle.stream.specs.declared.setting.Setting.{Setting}
use Rattle.stream.proofs.Law.Setting.Codes.{patterns_by_sum, patterns_each, length_patterns}
use Rattle.stream.proofs.Law.Group.RoundTrip.{length_codes}
use Rattle.stream.proofs.Law.Plain.Appended.{landed_mid}
use Rattle.stream.proofs.lent.put_from.Goals as goal

-- a group's patterns, written from `at` on, are what is promised, whichever way they were made
in_place : (t : Setting) (at n : ℕ) (s ps out ys : List ℕ) → let cs = group_codes n s in ps ≡ patterns_after t (last_of 0 (take at out)) cs
    → ys ≡ ps ++ drop n (take (length out - at) (drop at out)) → put_mid at (length out - at) out ys ≡ landed at (patterns_after t (last_of 0 (take at out)) cs) out
in_place t at n s ps out ys same is =
    let cs = group_codes n s in
    landed_mid at n ps out ys (ap length same ∙ length_patterns t (last_of 0 (take at out)) cs ∙ length_codes n s) is
    ∙ ap (λ (p : List ℕ). landed at p out) same

pub returns-then-t-eq2 : goal.returns-then-t-eq2
returns-then-t-eq2 g c =
    let w = g.T.Word in
    let L = g.met.T.Word.values_law in
    let a = c.args in
    let out = w.values a.out.now in
    let cs = group_codes a.n a.s.now in
    let ps = running_sums w.width (w.value c.pattern_before-before.result) cs in
    let same : ps ≡ patterns_after a.t (last_of 0 (take a.at out)) cs = ap₂ (λ (v b : ℕ). running_sums v b cs) (sym c.requires.allowed.1) c.pattern_before-before.ensures ∙ sym (patterns_by_sum a.t (last_of 0 (take a.at out)) cs c.if-t-eq2.true) in
    mid_of L a.at a.out.now c.put_summed.new.out
    ∙ in_place a.t a.at a.n a.s.now ps out (w.values c.put_summed.new.out) same (c.put_summed.ensures ∙ ap (λ (o : List ℕ). ps ++ drop a.n o) (tail_of L a.at a.out.now))

pub returns-else-t-eq2 : goal.returns-else-t-eq2
returns-else-t-eq2 g c =
    let w = g.T.Word in
    let L = g.met.T.Word.values_law in
    let a = c.args in
    let out = w.values a.out.now in
    let cs = group_codes a.n a.s.now in
    let ps = map (pattern_at a.t) cs in
    let same : ps ≡ patterns_after a.t (last_of 0 (take a.at out)) cs = sym (patterns_each a.t (last_of 0 (take a.at out)) cs c.if-t-eq2.false) in
    mid_of L a.at a.out.now c.put_each.new.out
    ∙ in_place a.t a.at a.n a.s.now ps out (w.values c.put_each.new.out) same (c.put_each.ensures ∙ ap (λ (o : List ℕ). ps ++ drop a.n o) (tail_of L a.at a.out.now))
