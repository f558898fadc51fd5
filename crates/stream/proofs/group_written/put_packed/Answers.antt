-- `body` meets its contract: the words of the codes, then what is left over.
-- Assumes nothing.
use mathlib.Core.Path.{sym, ap, ◌∙◌}
use mathlib.Core.List.{List, ◌++◌}
use Prim.Native.Nat.{ℕ, ◌+◌, ◌/◌}
use native.Mathlib.Omega.{arith}
use lib.ListN.{length, take, drop}
use Rattle.blocks.specs.Bytes.{digits}
use Rattle.stream.specs.Group.{bytes_for, packed}
use Rattle.stream.proofs.Law.Group.RoundTrip.{bytes_none, packed_none}
use Rattle.stream.proofs.Law.Group.Writing.{end_is, finished}
use Rattle.stream.proofs.group_written.put_packed.Goals as goal

pub returns-then-w-eq0 : goal.returns-then-w-eq0
returns-then-w-eq0 c =
    let a = c.args in
    let codes : List ℕ = a.codes.now in record { value = sym (ap (λ (w : ℕ). bytes_for w (length codes)) c.if-w-eq0.true ∙ bytes_none (length codes)); out_after = sym (ap (λ (r : List ℕ). r ++ a.out.now) (ap (λ (w : ℕ). packed w codes) c.if-w-eq0.true ∙ packed_none codes)) }

pub tail-requires : goal.tail-requires
tail-requires c =
    let s = c.before in
    let h = c.words-rest in (
      h.ensures.short,
      omega (arith, end_is h.ensures, h.auto.out, s.requires.2),
    )

pub returns : goal.returns
returns c =
    let s = c.before in
    let h = c.words-rest in
    let r = h.result in
    let out : List ℕ = h.new.out in
    let t = c.tail in
    let end = t.ensures.value ∙ end_is h.ensures in record {
      value = end;
      out_after = t.ensures.out_after
          ∙ ap (λ (n : ℕ). take r.at out ++ digits 256 ((r.fill + 7) / 8) r.word ++ drop n out) t.ensures.value
          ∙ finished h.ensures
          ∙ ap (λ (n : ℕ). packed s.args.w s.args.codes.now ++ drop n s.args.out.now) (sym end);
    }
