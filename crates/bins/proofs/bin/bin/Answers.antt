-- `bins::bin::bin` meets its contract.
use Rattle.std.proofs.Common.{◌≡◌, suc, ◌+◌, ◌^◌, ◌<◌, true, ◌∙◌, arith, to_z-of_z, w32}
use lib.Signed.{le_z}
use mir.Val.{hbits}
use Rattle.bins.proofs.Law.Exponent.{too_low, low_enough, too_high, high_enough, sum_cast, sum_bin}
use Rattle.bins.proofs.Law.Answers.{below_none, above_none, between_some}
use Rattle.bins.proofs.bin.bin.Goals as goal

pub returns-then-k-LEAST : goal.returns-then-k-LEAST
returns-then-k-LEAST g c =
    let t = g.T.Kernel in
    let law = g.met.T.Kernel in
    let least = to_z-of_z {w = w32} (record { sfits = c.LEAST.type_inv }) ∙ c.LEAST.ensures ∙ law.least_law in
    below_none g.T.Word.width g.T.Word.fraction t.least t.most law.offset_law (law.bins_law ∙ law.last_law) c.args.k
    (too_low w32 c.args.k c.ranges.k t.least t.most (rw least at c.if-k-LEAST.true))

pub returns-then-MOST-k : goal.returns-then-MOST-k
returns-then-MOST-k g c =
    let t = g.T.Kernel in
    let law = g.met.T.Kernel in
    let least = to_z-of_z {w = w32} (record { sfits = c.LEAST.type_inv }) ∙ c.LEAST.ensures ∙ law.least_law in
    let most = to_z-of_z {w = w32} (record { sfits = c.MOST.type_inv }) ∙ c.MOST.ensures ∙ law.most_law in
    above_none g.T.Word.width g.T.Word.fraction t.least t.most law.offset_law (law.bins_law ∙ law.last_law) c.args.k
    (low_enough w32 c.args.k c.ranges.k t.least t.most (rw least at c.if-k-LEAST.false))
    (too_high w32 c.args.k c.ranges.k t.least t.most (rw most at c.if-MOST-k.true))

low : (g : _) (c : goal.After-LEAST-2 g) → le_z (lib.IntN.negsuc g.T.Kernel.least) c.args.k ≡ true
low g c =
    let t = g.T.Kernel in
    let least = to_z-of_z {w = w32} (record { sfits = c.LEAST.type_inv }) ∙ c.LEAST.ensures ∙ g.met.T.Kernel.least_law in
    low_enough w32 c.args.k c.ranges.k t.least t.most (rw least at c.if-k-LEAST.false)

high : (g : _) (c : goal.After-LEAST-2 g) → le_z c.args.k (lib.IntN.pos g.T.Kernel.most) ≡ true
high g c =
    let t = g.T.Kernel in
    let most = to_z-of_z {w = w32} (record { sfits = c.MOST.type_inv }) ∙ c.MOST.ensures ∙ g.met.T.Kernel.most_law in
    high_enough w32 c.args.k c.ranges.k t.least t.most (rw most at c.if-MOST-k.false)

few : (g : _) → goal.After-LEAST-2 g → g.T.Kernel.most + suc g.T.Kernel.least < 2 ^ hbits w32
few g c = let law = g.met.T.Kernel in omega (arith, law.bins_law, law.few_law)

pub overflow_cast-result : goal.overflow_cast-result
overflow_cast-result g c =
    let t = g.T.Kernel in
    rw (to_z-of_z {w = w32} (record { sfits = c.LEAST-2.type_inv }) ∙ c.LEAST-2.ensures ∙ g.met.T.Kernel.least_law)
    (sum_cast w32 c.args.k c.ranges.k t.least t.most (low g c) (high g c) (few g c))

pub returns : goal.returns
returns g c =
    let t = g.T.Kernel in
    let law = g.met.T.Kernel in
    rw (to_z-of_z {w = w32} (record { sfits = c.LEAST-2.type_inv }) ∙ c.LEAST-2.ensures ∙ law.least_law)
    (between_some g.T.Word.width g.T.Word.fraction t.least t.most law.offset_law (law.bins_law ∙ law.last_law) c.args.k (low g c) (high g c) _
    (sum_bin w32 c.args.k c.ranges.k t.least t.most (low g c) (high g c) (few g c)))
