-- The group of the mode.
use Rattle.std.proofs.Common.{ℕ, ◌-◌, List, take, drop, ap, ◌∙◌}
use Rattle.stream.proofs.Law.Lent.Codes.{each_are, differences_are}
use Rattle.stream.proofs.lent.grouped.Goals as goal

pub returns-then-t-eq2 : goal.returns-then-t-eq2
returns-then-t-eq2 g c =
    let w = g.T.Word in
    let a = c.args in
    let r = c.differenced in
    (r.ensures.0, r.ensures.1 ∙ ap (λ (l : List ℕ). take (a.end - a.at) (drop a.at l)) (differences_are a.t (w.values a.values.now) w.width c.requires.bounds.0 c.if-t-eq2.true))

pub returns : goal.returns
returns g c =
    let a = c.args in
    let r = c.each in
    (r.ensures.0, r.ensures.1 ∙ ap (λ (l : List ℕ). take (a.end - a.at) (drop a.at l)) (each_are a.t (g.T.Word.values a.values.now) c.if-t-eq2.false))
