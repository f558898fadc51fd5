-- Each sum goes on from the one before.
use Rattle.std.proofs.Common.{◌≡◌, ℕ, List, ◌++◌, drop, get_or, sym, ap, ap₂, ◌∙◌, arith}
use Rattle.std.proofs.Math.ListN.{set}
use Rattle.words.proofs.Lists.{length_of, set_of, read_of}
use Rattle.numbers.specs.Difference.{difference_restored}
use Rattle.numbers.proofs.Theorems.{four_sums}
use Rattle.stream.proofs.Law.Plain.Differences.{four_over}
use Rattle.stream.proofs.differences.four.Goals as goal

pub returns : goal.returns
returns g c =
    let w = g.T.Word in
    let L = g.met.T.Word.values_law in
    let b = w.value c.args.before in
    let codes = w.values c.args.codes.now in
    let out = c.args.out.now in
    let R = difference_restored w.width in
    let a1 = R b (get_or codes 0 0) in
    let a2 = R a1 (get_or codes 1 0) in
    let a3 = R a2 (get_or codes 2 0) in
    let a4 = R a3 (get_or codes 3 0) in
    let e1 : w.value c.restored-a.result ≡ a1 = c.restored-a.ensures ∙ ap (R b) (read_of L c.args.codes.now 0 _ c.index-codes-0.is (omega (arith, c.requires.0))) in
    let e2 : w.value c.restored-b.result ≡ a2 = c.restored-b.ensures ∙ ap₂ R e1 (read_of L c.args.codes.now 1 _ c.index-codes-1.is (omega (arith, c.requires.0))) in
    let e3 : w.value c.restored-c.result ≡ a3 = c.restored-c.ensures ∙ ap₂ R e2 (read_of L c.args.codes.now 2 _ c.index-codes-2.is (omega (arith, c.requires.0))) in
    let e4 : w.value c.restored-d.result ≡ a4 = c.restored-d.ensures ∙ ap₂ R e3 (read_of L c.args.codes.now 3 _ c.index-codes-3.is (omega (arith, c.requires.0))) in
    let sums = four_sums w.width b codes (rw (length_of L c.args.codes.now) c.requires.0) in record {
      value = e4 ∙ sym sums.1;
      out_after = set_of L _ 3 c.restored-d.result
          ∙ ap₂ (λ (o : List ℕ) (p : ℕ). set o 3 p) (set_of L _ 2 c.restored-c.result
          ∙ ap₂ (λ (o : List ℕ) (p : ℕ). set o 2 p) (set_of L _ 1 c.restored-b.result
          ∙ ap₂ (λ (o : List ℕ) (p : ℕ). set o 1 p) (set_of L out 0 c.restored-a.result ∙ ap (set (w.values out) 0) e1) e2) e3) e4
          ∙ four_over a1 a2 a3 a4 (w.values out) (rw (length_of L out) c.requires.1)
          ∙ ap (λ (l : List ℕ). l ++ drop 4 (w.values out)) (sym sums.0);
    }
