-- `stream::group_checked::limit_kept` meets its contract: w bits hold no u above the limit, or the codes are looked at; a full group of 32 is one block.
-- Assumes nothing.
use mathlib.Core.Path.{sym, ap, ◌∙◌, subst⁻¹}
use mathlib.Core.List.{List}
use Prim.Native.Nat.{ℕ, ◌-◌, ◌^◌}
use lib.Pow.{pow_pos}
use Rattle.blocks.specs.Bytes.{Below}
use Rattle.stream.specs.Group.{within, group_codes}
use Rattle.stream.proofs.Law.Group.RoundTrip.{codes_below}
use Rattle.stream.proofs.Law.Group.Exact.{limited_within}
use Rattle.stream.proofs.Law.Group.Checking.{high_one, narrow_limited}
use Rattle.stream.proofs.Law.Group.Blocks.{one_block}
use Rattle.stream.proofs.group_checked.limit_kept.Goals as goal

pub overflow_sub-w-2 : goal.overflow_sub-w-2
overflow_sub-w-2 c = rw (high_one c.args.w c.requires.1 c.requires.2) (pow_pos (c.args.w - 1))

pub returns-then-w-limit : goal.returns-then-w-limit
returns-then-w-limit c =
    let f = c.before in
    let a = f.args in
    let cs : List ℕ = group_codes a.n a.s.now in
    sym (limited_within a.limit cs
    (narrow_limited a.w a.limit cs f.requires.1 (subst⁻¹ (λ (w : ℕ). Below (2 ^ w) cs) f.requires.3 (codes_below a.n a.s.now))
    (rw (high_one a.w f.requires.1 f.requires.2) at c.if-w-limit.true)))

pub returns-then-w-s : goal.returns-then-w-s
returns-then-w-s c =
    let full = c.before.before.before in
    let f = full in
    let a = f.args in
    c.full_limited.ensures
    ∙ ap (within a.limit)
    (sym (one_block a.n a.w a.s.now (λ i. (full.shared_slice_known-1.given i).fits) f.requires.3 full.if-n-eq32.true))
