-- One full record.
use Rattle.std.proofs.Common.{ℕ, List, ◌++◌, drop, length, refl, ap, ◌∙◌, arith}
use Rattle.stream.specs.Group.{group_bytes}
use Rattle.stream.specs.Setting.{codes_of}
use Rattle.stream.proofs.Law.Lent.Codes.{full_codes}
use Rattle.stream.proofs.lent.put_32.Goals as goal

pub grouped-requires : goal.grouped-requires
grouped-requires g c = (g.met.T.Lent.memory_law, ((c.requires.bounds.0, omega arith, omega arith, omega (arith, c.requires.bounds.1), omega (arith, c.requires.bounds.2)), c.requires.scratch))

pub full-requires : goal.full-requires
full-requires g c =
    let a = c.args in
    (g.met.T.Lent.memory_law, (omega (arith, c.grouped.ensures.0), rw (full_codes 32 a.at _ _ (codes_of a.t (g.T.Word.values a.values.now)) c.grouped.ensures.1 refl) c.requires.room))

pub returns : goal.returns
returns g c =
    let a = c.args in
    let same = full_codes 32 a.at _ _ (codes_of a.t (g.T.Word.values a.values.now)) c.grouped.ensures.1 refl in
    let w = c.full in record {
      value = w.ensures.value ∙ ap (λ (cs : List ℕ). length (group_bytes cs)) same;
      out_after = w.ensures.out_after ∙ ap (λ (cs : List ℕ). group_bytes cs ++ drop w.result a.out.now) same;
    }
