-- The group is cut into four records.
use Rattle.std.proofs.Common.{ℕ, List, ◌++◌, drop, length, ap, ◌∙◌, arith}
use Rattle.stream.specs.Group.{group_bytes}
use Rattle.stream.specs.Setting.{codes_of}
use Rattle.stream.proofs.Law.Group.Parts.{cuts, counts, four_codes}
use Rattle.stream.proofs.lent.put_up_to_128.Goals as goal

pub grouped-requires : goal.grouped-requires
grouped-requires g c = (g.met.T.Lent.memory_law, ((c.requires.bounds.0, omega (arith, c.min-first.ensures, c.min-second.ensures, c.min-third.ensures, c.requires.bounds.1, c.requires.bounds.2, c.requires.bounds.3, c.requires.bounds.4), omega (arith, c.min-first.ensures, c.min-second.ensures, c.min-third.ensures, c.requires.bounds.1, c.requires.bounds.2, c.requires.bounds.3, c.requires.bounds.4), omega (arith, c.min-first.ensures, c.min-second.ensures, c.min-third.ensures, c.requires.bounds.1, c.requires.bounds.2, c.requires.bounds.3, c.requires.bounds.4), omega (arith, c.min-first.ensures, c.min-second.ensures, c.min-third.ensures, c.requires.bounds.1, c.requires.bounds.2, c.requires.bounds.3, c.requires.bounds.4)), c.requires.scratch))

pub grouped-requires-2 : goal.grouped-requires-2
grouped-requires-2 g c = (g.met.T.Lent.memory_law, ((c.requires.bounds.0, omega (arith, c.min-first.ensures, c.min-second.ensures, c.min-third.ensures, c.requires.bounds.1, c.requires.bounds.2, c.requires.bounds.3, c.requires.bounds.4), omega (arith, c.min-first.ensures, c.min-second.ensures, c.min-third.ensures, c.requires.bounds.1, c.requires.bounds.2, c.requires.bounds.3, c.requires.bounds.4), omega (arith, c.min-first.ensures, c.min-second.ensures, c.min-third.ensures, c.requires.bounds.1, c.requires.bounds.2, c.requires.bounds.3, c.requires.bounds.4), omega (arith, c.min-first.ensures, c.min-second.ensures, c.min-third.ensures, c.requires.bounds.1, c.requires.bounds.2, c.requires.bounds.3, c.requires.bounds.4)), c.requires.scratch))

pub grouped-requires-3 : goal.grouped-requires-3
grouped-requires-3 g c = (g.met.T.Lent.memory_law, ((c.requires.bounds.0, omega (arith, c.min-first.ensures, c.min-second.ensures, c.min-third.ensures, c.requires.bounds.1, c.requires.bounds.2, c.requires.bounds.3, c.requires.bounds.4), omega (arith, c.min-first.ensures, c.min-second.ensures, c.min-third.ensures, c.requires.bounds.1, c.requires.bounds.2, c.requires.bounds.3, c.requires.bounds.4), omega (arith, c.min-first.ensures, c.min-second.ensures, c.min-third.ensures, c.requires.bounds.1, c.requires.bounds.2, c.requires.bounds.3, c.requires.bounds.4), omega (arith, c.min-first.ensures, c.min-second.ensures, c.min-third.ensures, c.requires.bounds.1, c.requires.bounds.2, c.requires.bounds.3, c.requires.bounds.4)), c.requires.scratch))

pub grouped-requires-4 : goal.grouped-requires-4
grouped-requires-4 g c = (g.met.T.Lent.memory_law, ((c.requires.bounds.0, omega (arith, c.min-first.ensures, c.min-second.ensures, c.min-third.ensures, c.requires.bounds.1, c.requires.bounds.2, c.requires.bounds.3, c.requires.bounds.4), omega (arith, c.min-first.ensures, c.min-second.ensures, c.min-third.ensures, c.requires.bounds.1, c.requires.bounds.2, c.requires.bounds.3, c.requires.bounds.4), omega (arith, c.min-first.ensures, c.min-second.ensures, c.min-third.ensures, c.requires.bounds.1, c.requires.bounds.2, c.requires.bounds.3, c.requires.bounds.4), omega (arith, c.min-first.ensures, c.min-second.ensures, c.min-third.ensures, c.requires.bounds.1, c.requires.bounds.2, c.requires.bounds.3, c.requires.bounds.4)), c.requires.scratch))

pub four-requires : goal.four-requires
four-requires g c =
    let a = c.args in
    let p = c.requires.bounds in
    let cut = cuts a.at a.end _ _ _ p.1 p.2 c.min-first.ensures c.min-second.ensures c.min-third.ensures in
    let many = counts _ _ _ _ cut c.grouped.ensures.0 c.grouped-2.ensures.0 c.grouped-3.ensures.0 c.grouped-4.ensures.0 in
    (g.met.T.Lent.memory_law, (many.few, (many.filled, rw (four_codes _ _ _ _ _ cut (codes_of a.t (g.T.Word.values a.values.now)) _ _ _ _ c.grouped.ensures.1 c.grouped-2.ensures.1 c.grouped-3.ensures.1 c.grouped-4.ensures.1) c.requires.room)))

pub returns : goal.returns
returns g c =
    let a = c.args in
    let p = c.requires.bounds in
    let cut = cuts a.at a.end _ _ _ p.1 p.2 c.min-first.ensures c.min-second.ensures c.min-third.ensures in
    let same = four_codes _ _ _ _ _ cut (codes_of a.t (g.T.Word.values a.values.now)) _ _ _ _ c.grouped.ensures.1 c.grouped-2.ensures.1 c.grouped-3.ensures.1 c.grouped-4.ensures.1 in
    let w = c.four in record {
      value = w.ensures.value ∙ ap (λ (cs : List ℕ). length (group_bytes cs)) same;
      out_after = w.ensures.out_after ∙ ap (λ (cs : List ℕ). group_bytes cs ++ drop w.result a.out.now) same;
    }
