-- The group of the width.
use Rattle.std.proofs.Common.{ℕ, List, ◌++◌, take, drop, length, ap, ◌∙◌, arith}
use Rattle.stream.specs.Group.{group_bytes}
use Rattle.stream.proofs.Law.Lent.Codes.{lent_32, lent_64, length_32, length_other}
use Rattle.stream.proofs.Law.Setting.Allowed.{width_other}
use Rattle.stream.proofs.lent.put_group.Goals as goal

pub put_32-requires : goal.put_32-requires
put_32-requires c =
    let a = c.args in
    let p = c.requires.allowed in record { bounds = (c.if-t-eq32.true, omega (arith, length_32 a.t.width a.v32.now a.v64.now c.if-t-eq32.true, p.1), p.2); scratch = (λ _. c.requires.v32_in_bounds.0, c.requires.v32_in_bounds.1); room = rw (lent_32 a.t a.v32.now a.v64.now c.if-t-eq32.true) c.requires.v64_in_bounds }

pub returns-then-t-eq32 : goal.returns-then-t-eq32
returns-then-t-eq32 c =
    let a = c.args in
    let same = lent_32 a.t a.v32.now a.v64.now c.if-t-eq32.true in
    let w = c.put_32 in record {
      value = w.ensures.value ∙ ap (λ (l : List ℕ). length (group_bytes (take 32 (drop a.at l)))) same;
      out_after = w.ensures.out_after ∙ ap (λ (l : List ℕ). group_bytes (take 32 (drop a.at l)) ++ drop w.result a.out.now) same;
    }

pub put_32-requires-2 : goal.put_32-requires-2
put_32-requires-2 c =
    let a = c.args in
    let p = c.requires.allowed in record { bounds = (width_other a.t.width p.0.known c.if-t-eq32.false, omega (arith, length_other a.t.width a.v32.now a.v64.now c.if-t-eq32.false, p.1), p.2); scratch = (λ e. absurd (c.if-t-eq32.false e), λ e _ _. absurd (c.if-t-eq32.false e)); room = rw (lent_64 a.t a.v32.now a.v64.now (width_other a.t.width c.requires.allowed.0.known c.if-t-eq32.false)) c.requires.v64_in_bounds }

pub returns : goal.returns
returns c =
    let a = c.args in
    let same = lent_64 a.t a.v32.now a.v64.now (width_other a.t.width c.requires.allowed.0.known c.if-t-eq32.false) in
    let w = c.put_32-2 in record {
      value = w.ensures.value ∙ ap (λ (l : List ℕ). length (group_bytes (take 32 (drop a.at l)))) same;
      out_after = w.ensures.out_after ∙ ap (λ (l : List ℕ). group_bytes (take 32 (drop a.at l)) ++ drop w.result a.out.now) same;
    }
