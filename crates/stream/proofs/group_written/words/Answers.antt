-- The invariant is `Partway` of the codes passed.
use Rattle.std.proofs.Common.{◌≡◌, ◌+◌, ◌^◌, ◌≤◌, length, get_or, refl, ◌∙◌, add-one, arith}
use lib.Seq.{take-suc, length-take-le}
use Rattle.blocks.proofs.Law.Digits.{below_take}
use Rattle.stream.proofs.Law.Group.Writing.{started, kept, flushed, word_fits, flush_room}
use Rattle.stream.proofs.group_written.words.Goals as goal
use Rattle.stream.proofs.group_written.words.Goals.{then-w-room, else-w-room}

pub loop-code-init : goal.loop-code-init
loop-code-init c = (refl, started c.args.w c.args.out.now)

pub overflow_add-full : goal.overflow_add-full
overflow_add-full c =
    let a = c.args in
    let l = c.loop-code in
    record { fits = word_fits l.invariant.1 (below_take (2 ^ a.w) l.code-index a.codes.now c.requires.1) (get_or a.codes.now l.code-index 0) }

pub store-requires : goal.store-requires
store-requires c =
    let codes = c.args.codes.now in
    let l = c.loop-code in
    rw l.invariant.0
    (flush_room l.invariant.1 (length codes) (rw (length-take-le l.code-index codes (omega arith)) c.loop-code-test.true) c.if-w-room.false c.requires.2)

pub loop-code-preserved : goal.loop-code-preserved
loop-code-preserved c =
    let a = c.args in
    let codes = a.codes.now in
    let l = c.loop-code in
    let code = get_or codes l.code-index 0 in
    elim c.if-w-room.branch [
      | then-w-room w ↦ (
        rw w.out-is l.invariant.0,
        rw (add-one, take-suc codes l.code-index 0 c.loop-code-test.true, w.word-is, w.fill-is, w.at-is, w.out-is)
            (kept l.invariant.1 code (c.requires.1 l.code-index) w.if-w-room.true),
      )
      | else-w-room w ↦ (
        rw w.out-is (w.store.auto.out ∙ l.invariant.0),
        rw (add-one, take-suc codes l.code-index 0 c.loop-code-test.true, w.word-is, w.fill-is, w.at-is, w.out-is, w.store.ensures)
            (flushed l.invariant.1 (below_take (2 ^ a.w) l.code-index codes c.requires.1) code c.requires.0 w.if-w-room.false),
      )
    ]
