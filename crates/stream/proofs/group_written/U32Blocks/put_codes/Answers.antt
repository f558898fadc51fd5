use Rattle.std.proofs.Common.{List, ℕ, ◌++◌, ◌*◌, drop, ap, ◌∙◌, rules}
use Rattle.stream.proofs.Law.Group.Whole.{packed_whole}
use Rattle.stream.proofs.group_written.U32Blocks.put_codes.Goals as goal

pub returns : goal.returns
returns c =
    let a = c.args in
    c.packed32.ensures ∙ ap (λ (r : List ℕ). r ++ drop (4 * a.w) a.out.now) (packed_whole 4 a.codes.now (search rules) a.w)
