use Rattle.std.proofs.Common.{List, ℕ, ◌≡◌, ◌++◌, ◌*◌, drop, sym, ap, ◌∙◌, arith}
use Rattle.stream.specs.Group.{packed}
use Rattle.stream.proofs.Law.Group.RoundTrip.{packed_none}
use Rattle.stream.proofs.group_written.put_block.Goals as goal

pub returns-else-w-gt0 : goal.returns-else-w-gt0
returns-else-w-gt0 g c =
    let a = c.args in
    let codes = g.T.Word.values a.codes.now in
    let none : a.w ≡ 0 = omega (arith, c.if-w-gt0.false) in
    sym (ap (λ (w : ℕ). packed w codes ++ drop (4 * w) a.out.now) none ∙ ap (λ (r : List ℕ). r ++ a.out.now) (packed_none codes))
