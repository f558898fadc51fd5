-- `bins::whole::rounded32` meets its contract.
use Rattle.std.proofs.Common.{ℕ, ◌-◌, ap, ◌∙◌}
use Rattle.bins.specs.Tolerance.{near}
use Rattle.bins.proofs.Law.Working.{near_cut}
use Rattle.bins.proofs.whole.rounded32.Goals as goal

pub returns : goal.returns
returns c =
    let a = c.args in
    c.rounded.ensures ∙ ap (λ (n : ℕ). near a.halves (25 - n) a.q) c.past.ensures ∙ near_cut a.halves 24 a.s a.q c.requires
