-- The group of the width.
use Rattle.std.proofs.Common.{ℕ, ◌-◌, List, take, drop, ap, ap₂, ◌∙◌, arith, lit<}
use Rattle.stream.proofs.Law.Lent.Codes.{lent_32, lent_64, length_32, length_other}
use Rattle.stream.proofs.Law.Setting.Allowed.{width_other}
use Rattle.stream.proofs.lent.coded.Goals as goal

pub grouped-requires : goal.grouped-requires
grouped-requires c =
    let a = c.args in
    let p = c.requires.allowed in (lit< tt, ((c.if-t-eq32.true, p.1, p.2, omega (arith, length_32 a.t.width a.v32.now a.v64.now c.if-t-eq32.true, p.3), p.4), (λ _. c.requires.v32_in_bounds.0, c.requires.v32_in_bounds.1)))

pub returns-then-t-eq32 : goal.returns-then-t-eq32
returns-then-t-eq32 c =
    let a = c.args in
    let g = c.grouped in
    let w = c.widened in (
      w.ensures.0 ∙ g.ensures.0,
      ap₂ (λ (n : ℕ) (cs : List ℕ). take n cs) w.ensures.0 w.ensures.1 ∙ g.ensures.1
          ∙ ap (λ (l : List ℕ). take (a.end - a.at) (drop a.at l)) (lent_32 a.t a.v32.now a.v64.now c.if-t-eq32.true),
    )

pub grouped-requires-2 : goal.grouped-requires-2
grouped-requires-2 c =
    let a = c.args in
    let p = c.requires.allowed in (lit< tt, ((width_other a.t.width p.0.known c.if-t-eq32.false, p.1, p.2, omega (arith, length_other a.t.width a.v32.now a.v64.now c.if-t-eq32.false, p.3), p.4), (λ e. absurd (c.if-t-eq32.false e), λ e _ _. absurd (c.if-t-eq32.false e))))

pub returns : goal.returns
returns c =
    let a = c.args in
    let g = c.grouped-2 in (
      g.ensures.0,
      g.ensures.1 ∙ ap (λ (l : List ℕ). take (a.end - a.at) (drop a.at l)) (lent_64 a.t a.v32.now a.v64.now (width_other a.t.width c.requires.allowed.0.known c.if-t-eq32.false)),
    )
