-- The group of the width.
use Rattle.std.proofs.Common.{ℕ, List, take, drop, length, ap, ◌∙◌, arith}
use Rattle.stream.specs.Group.{group_bytes}
use Rattle.stream.proofs.Law.Lent.Codes.{lent_32, lent_64, length_32, length_other}
use Rattle.stream.proofs.Law.Setting.Allowed.{width_other}
use Rattle.stream.proofs.lent.measured_group.Goals as goal

pub measured_32-requires : goal.measured_32-requires
measured_32-requires c =
    let a = c.args in
    let p = c.requires.allowed in record { bounds = (c.if-t-eq32.true, omega (arith, length_32 a.t.width a.v32.now a.v64.now c.if-t-eq32.true, p.1), p.2); scratch = (λ _. c.requires.v32_in_bounds.0, c.requires.v32_in_bounds.1) }

pub returns-then-t-eq32 : goal.returns-then-t-eq32
returns-then-t-eq32 c = let a = c.args in c.measured_32.ensures ∙ ap (λ (l : List ℕ). length (group_bytes (take 32 (drop a.at l)))) (lent_32 a.t a.v32.now a.v64.now c.if-t-eq32.true)

pub measured_32-requires-2 : goal.measured_32-requires-2
measured_32-requires-2 c =
    let a = c.args in
    let p = c.requires.allowed in record { bounds = (width_other a.t.width p.0.known c.if-t-eq32.false, omega (arith, length_other a.t.width a.v32.now a.v64.now c.if-t-eq32.false, p.1), p.2); scratch = (λ e. absurd (c.if-t-eq32.false e), λ e _ _. absurd (c.if-t-eq32.false e)) }

pub returns : goal.returns
returns c = let a = c.args in c.measured_32-2.ensures ∙ ap (λ (l : List ℕ). length (group_bytes (take 32 (drop a.at l)))) (lent_64 a.t a.v32.now a.v64.now (width_other a.t.width c.requires.allowed.0.known c.if-t-eq32.false))
