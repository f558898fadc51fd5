use Rattle.std.proofs.Common.{◌≡◌, ◌+◌, true, false, sym, ◌∙◌, arith}
use borrow.Author.Tests.{ne_eqb, eq-eqb, lt-ltb, le-ltb}
use Rattle.stream.specs.Tables.{every, start_at, start_right, chunk_table_right}
use Rattle.stream.proofs.Law.Plain.Scan.{all_left, every_on, every_broken, every_done}
use Rattle.stream.proofs.tables.chunk_table_right.Goals as goal

pub returns-then-last-ne0 : goal.returns-then-last-ne0
unfolding chunk_table_right
returns-then-last-ne0 c = rw (ne_eqb (start_at c.args.h c.args.bytes.now 0) 0 (λ e. c.if-last-ne0.true (c.start_at-last.ensures ∙ e)))

pub loop-j-init : goal.loop-j-init
unfolding chunk_table_right
loop-j-init c =
    let h = c.args.h in
    let s = c.args.bytes.now in (
      c.start_at-last.ensures,
      rw (eq-eqb (start_at h s 0) 0 (sym c.start_at-last.ensures ∙ c.if-last-ne0.false)) (all_left (every (start_right h s)) h.chunks),
    )

pub returns-then-next-last : goal.returns-then-next-last
unfolding start_right
returns-then-next-last c =
    let h = c.args.h in
    let s = c.args.bytes.now in
    let j = c.loop-j.j in
    let broken : start_right h s j ≡ false = le-ltb (start_at h s j) (start_at h s (j + 1)) (omega (arith, c.if-next-last.true, c.start_at-next.ensures, c.loop-j.invariant.0)) in
    sym (c.loop-j.invariant.1 ∙ every_broken (start_right h s) h.chunks j c.loop-j-test.true broken)

pub loop-j-preserved : goal.loop-j-preserved
unfolding start_right
loop-j-preserved c =
    let h = c.args.h in
    let s = c.args.bytes.now in
    let j = c.loop-j.j in
    let right : start_right h s j ≡ true = lt-ltb (start_at h s j) (start_at h s (j + 1)) (omega (arith, c.if-next-last.false, c.start_at-next.ensures, c.loop-j.invariant.0)) in
    (c.start_at-next.ensures, c.loop-j.invariant.1 ∙ every_on (start_right h s) h.chunks j c.loop-j-test.true right)

pub returns : goal.returns
returns c = sym (c.loop-j.invariant.1 ∙ every_done (start_right c.args.h c.args.bytes.now) c.args.h.chunks c.loop-j.j c.loop-j-test.false)
