-- The sums of its codes, and for a group of no bits the pattern before.
use Rattle.std.proofs.Common.{◌≡◌, ℕ, ◌<◌, List, ◌++◌, drop, get_or, refl, sym, ap, ◌∙◌, arith}
use Rattle.numbers.specs.Difference.{running_sums}
use Rattle.numbers.proofs.Theorems.{sums_of_zeros}
use Rattle.stream.specs.Group.{given_width, group_length, group_codes}
use Rattle.stream.proofs.Law.Group.Reading.{no_codes}
use Rattle.stream.proofs.Law.Group.Blocks.{sums_of_read}
use Rattle.stream.proofs.lent.put_summed.Goals as goal

pub bounds-s-0 : goal.bounds-s-0
unfolding group_length
bounds-s-0 g c = omega (arith, c.requires.1, c.requires.2)

pub read_codes-requires : goal.read_codes-requires
unfolding given_width
read_codes-requires g c = let p = c.requires in (p.0, c.if-s-gt0.true, p.1, p.2, p.3)

pub returns-then-n-eq32 : goal.returns-then-n-eq32
returns-then-n-eq32 g c =
    let w = g.T.Word in
    let a = c.args in
    c.put_sums.ensures ∙ sums_of_read w.width (w.value a.before) a.n 32 a.s.now (w.values a.c.now) (w.values a.out.now) (sym c.if-n-eq32.true) c.read_codes.ensures

pub returns-else-n-eq32 : goal.returns-else-n-eq32
returns-else-n-eq32 g c =
    let w = g.T.Word in
    let a = c.args in
    c.put_sums-else-n-eq32.ensures ∙ sums_of_read w.width (w.value a.before) a.n a.n a.s.now (w.values a.c.now) (w.values a.out.now) refl c.read_codes.ensures

pub returns-else-s-gt0 : goal.returns-else-s-gt0
returns-else-s-gt0 g c =
    let w = g.T.Word in
    let a = c.args in
    let W = w.width in
    let b = w.value c.bounded.result in
    let some : 0 < W = omega (arith, g.met.T.Word.widths_law) in
    let zero : get_or a.s.now 0 0 ≡ 0 = omega (arith, c.if-s-gt0.false) in
    c.repeated.ensures
    ∙ ap (λ (r : List ℕ). r ++ drop a.n (w.values a.out.now))
    (sym (ap (running_sums W b) (no_codes a.n a.s.now zero) ∙ sums_of_zeros W some b a.n c.bounded.ensures.below)
    ∙ ap (λ (v : ℕ). running_sums W v (group_codes a.n a.s.now)) (ap w.value c.bounded.ensures.same))
