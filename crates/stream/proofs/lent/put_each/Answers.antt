-- The patterns of its codes, and zeros for a group of no bits.
use Rattle.std.proofs.Common.{◌≡◌, ℕ, List, ◌++◌, map, take, drop, get_or, replicate, sym, ap, ◌∙◌, arith}
use lib.Seq.{take_at}
use Rattle.stream.specs.Group.{given_width, group_length, group_codes}
use Rattle.stream.specs.Setting.{pattern_at}
use Rattle.stream.proofs.Law.Group.Reading.{no_codes}
use Rattle.stream.proofs.Law.Group.RoundTrip.{length_codes}
use Rattle.stream.proofs.Law.Setting.Allowed.{width_format}
use Rattle.stream.proofs.Law.Setting.Codes.{patterns_zero}
use Rattle.stream.proofs.lent.put_each.Goals as goal

pub bounds-s-0 : goal.bounds-s-0
unfolding group_length
bounds-s-0 g c = omega (arith, c.requires.4)

pub read_codes-requires : goal.read_codes-requires
unfolding given_width
read_codes-requires g c = let p = c.requires in (p.2, c.if-s-gt0.true, p.3, p.4, p.5)

pub returns-then-s-gt0 : goal.returns-then-s-gt0
returns-then-s-gt0 g c =
    let w = g.T.Word in
    let a = c.args in
    c.put_patterns.ensures
    ∙ ap (λ (l : List ℕ). map (pattern_at a.t) l ++ drop a.n (w.values a.out.now))
    (ap (take a.n) c.read_codes.ensures ∙ take_at (group_codes a.n a.s.now) (drop a.n (w.values a.c.now)) a.n (length_codes a.n a.s.now))

pub returns-else-s-gt0 : goal.returns-else-s-gt0
returns-else-s-gt0 g c =
    let w = g.T.Word in
    let a = c.args in
    let zero : get_or a.s.now 0 0 ≡ 0 = omega (arith, c.if-s-gt0.false) in
    c.repeated.ensures
    ∙ ap (λ (r : List ℕ). r ++ drop a.n (w.values a.out.now))
    (ap (replicate a.n) c.of.ensures ∙ sym (ap (map (pattern_at a.t)) (no_codes a.n a.s.now zero) ∙ patterns_zero a.t (width_format a.t.width c.requires.0.known) a.n))
