use Rattle.std.proofs.Common.{◌≤◌, length, length-drop, arith, rules}
use lib.ListN.{length-set}
use Rattle.stream.proofs.Law.Group.Records.{long_of}
use Rattle.stream.proofs.Law.Group.RoundTrip.{width_holds}
use Rattle.stream.proofs.Law.Group.Whole.{length_is, room_is, written_is}
use Rattle.stream.proofs.Law.Plain.Parts.{behind_first}
use Rattle.stream.proofs.group_written.full.Goals as goal

pub bounds-out-0 : goal.bounds-out-0
bounds-out-0 g c =
    let r = c.args.g in
    let long = long_of g.met.T.Word.values_law r (search rules) in
    omega (arith, room_is 4 (g.T.Word.values r.codes) long r.count c.width-w.result (omega (arith, long, c.requires.0)) c.width-w.ensures.0 c.args.out.now c.requires.1)

pub slice_bounds-put_block-count : goal.slice_bounds-put_block-count
slice_bounds-put_block-count g c =
    let r = c.args.g in
    let long = long_of g.met.T.Word.values_law r (search rules) in
    let room = room_is 4 (g.T.Word.values r.codes) long r.count c.width-w.result (omega (arith, long, c.requires.0)) c.width-w.ensures.0 c.args.out.now c.requires.1 in
    rw length-set (omega (arith, room))

pub slice_bounds-put_block-start : goal.slice_bounds-put_block-start
slice_bounds-put_block-start g c =
    let r = c.args.g in
    let long = long_of g.met.T.Word.values_law r (search rules) in
    let room = room_is 4 (g.T.Word.values r.codes) long r.count c.width-w.result (omega (arith, long, c.requires.0)) c.width-w.ensures.0 c.args.out.now c.requires.1 in
    simp length-set (omega (arith, room))

pub put_block-requires : goal.put_block-requires
put_block-requires g c =
    let r = c.args.g in
    let long = long_of g.met.T.Word.values_law r (search rules) in
    let room = room_is 4 (g.T.Word.values r.codes) long r.count c.width-w.result (omega (arith, long, c.requires.0)) c.width-w.ensures.0 c.args.out.now c.requires.1 in (
      search rules,
      (
        c.width-w.ensures.1,
        rw c.width-w.ensures.0 (width_holds (g.T.Word.values r.codes)),
        rw (behind_first c.args.out.now c.width-w.result, length-drop) (omega (arith, room)),
      ),
    )

pub returns-clause-value : goal.returns-clause-value
returns-clause-value g c =
    let r = c.args.g in
    let long = long_of g.met.T.Word.values_law r (search rules) in
    length_is 4 (g.T.Word.values r.codes) long r.count c.width-w.result (omega (arith, long, c.requires.0)) c.width-w.ensures.0

pub returns-clause-out_after : goal.returns-clause-out_after
returns-clause-out_after g c =
    let r = c.args.g in
    let long = long_of g.met.T.Word.values_law r (search rules) in
    let all : length (g.T.Word.values r.codes) ≤ r.count = omega (arith, long, c.requires.0) in
    let room = room_is 4 (g.T.Word.values r.codes) long r.count c.width-w.result all c.width-w.ensures.0 c.args.out.now c.requires.1 in
    written_is 4 (g.T.Word.values r.codes) long r.count c.width-w.result all c.width-w.ensures.0 c.args.out.now c.put_block.new.out (omega (arith, room)) c.put_block.ensures
