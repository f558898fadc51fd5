-- Four full records.
use Rattle.std.proofs.Common.{ℕ, List, ◌++◌, drop, length, refl, ap, ◌∙◌, arith}
use Rattle.stream.specs.Group.{group_bytes}
use Rattle.stream.specs.Setting.{codes_of}
use Rattle.stream.proofs.Law.Lent.Codes.{full_four_codes}
use Rattle.stream.proofs.lent.put_128.Goals as goal

pub grouped-requires : goal.grouped-requires
grouped-requires g c = (g.met.T.Lent.memory_law, ((c.requires.bounds.0, omega arith, omega arith, omega (arith, c.requires.bounds.1), omega (arith, c.requires.bounds.2)), c.requires.scratch))

pub grouped-requires-2 : goal.grouped-requires-2
grouped-requires-2 g c = (g.met.T.Lent.memory_law, ((c.requires.bounds.0, omega arith, omega arith, omega (arith, c.requires.bounds.1), omega (arith, c.requires.bounds.2)), c.requires.scratch))

pub grouped-requires-3 : goal.grouped-requires-3
grouped-requires-3 g c = (g.met.T.Lent.memory_law, ((c.requires.bounds.0, omega arith, omega arith, omega (arith, c.requires.bounds.1), omega (arith, c.requires.bounds.2)), c.requires.scratch))

pub grouped-requires-4 : goal.grouped-requires-4
grouped-requires-4 g c = (g.met.T.Lent.memory_law, ((c.requires.bounds.0, omega arith, omega arith, omega (arith, c.requires.bounds.1), omega (arith, c.requires.bounds.2)), c.requires.scratch))

pub full_four-requires : goal.full_four-requires
full_four-requires g c =
    let a = c.args in (
      g.met.T.Lent.memory_law,
      (
        (omega (arith, c.grouped.ensures.0), omega (arith, c.grouped-2.ensures.0), omega (arith, c.grouped-3.ensures.0), omega (arith, c.grouped-4.ensures.0)),
        rw (full_four_codes a.at _ _ _ _ _ (codes_of a.t (g.T.Word.values a.values.now)) c.grouped.ensures.1 c.grouped-2.ensures.1 c.grouped-3.ensures.1 c.grouped-4.ensures.1 refl) c.requires.room,
      ),
    )

pub returns : goal.returns
returns g c =
    let a = c.args in
    let same = full_four_codes a.at _ _ _ _ _ (codes_of a.t (g.T.Word.values a.values.now)) c.grouped.ensures.1 c.grouped-2.ensures.1 c.grouped-3.ensures.1 c.grouped-4.ensures.1 refl in
    let w = c.full_four in record {
      value = w.ensures.value ∙ ap (λ (cs : List ℕ). length (group_bytes cs)) same;
      out_after = w.ensures.out_after ∙ ap (λ (cs : List ℕ). group_bytes cs ++ drop w.result a.out.now) same;
    }
