-- `stream::pack::room_step` meets its contract.
use Rattle.stream.proofs.Law.Rows.Packing.{room_enough, room_short}
use Rattle.stream.proofs.Law.Lent.Chosen.{chosen_below}
use Rattle.stream.proofs.Law.Written.Pieces.{end_most}
use Rattle.stream.specs.Lent.{chosen}
use Rattle.stream.specs.Packing.{most_bytes}
use mathlib.Core.List.{List}
use Prim.Native.Nat.{ℕ}
use mathlib.Core.Path.{ap, ◌∙◌}
use native.Mathlib.Omega.{arith}
use Rattle.stream.proofs.pack.room_step.Goals as goal
use Rattle.stream.proofs.pack.room_step.Lts as lts
use Rattle.stream.proofs.pack.room_step.Reads as reads
use Rattle.stream.proofs.pack.room_step.Tie as tie

abbrev Start : Type 0
Start = lts.Start tie.the-claims reads.Pre reads.Post

abbrev values : Start → List ℕ
values s = chosen s.args.t.width s.args.v32.now s.args.v64.now

pub most-requires : goal.most-requires
most-requires c =
    let start = c.before in
    (start.requires.0, start.requires.2)

pub returns-then-most-room : goal.returns-then-most-room
returns-then-most-room c =
    let s = c.before.before.before.before.before.before in
    let a = s.args in
    let most =
    end_most a.t (values s) s.requires.0.known
    (chosen_below a.t.width a.v32.now a.v64.now s.requires.0.known (λ i. (c.shared_slice_known-1.given i).fits) (λ i. (c.shared_slice_known-2-1.given i).fits)) in
    room_enough a.t (values s) a.room (omega (arith, c.most.ensures ∙ ap (most_bytes a.t) s.requires.1, most, c.if-most-room.true))

pub measured-needed-requires : goal.measured-needed-requires
measured-needed-requires c = c.requires

pub returns-then-room-needed : goal.returns-then-room-needed
returns-then-room-needed c = let s = c.before.before.before.before.before.before.before.before.before.before.before in let a = s.args in let is = c.measured-needed.ensures in rw is (room_short a.t (values s) a.room (omega (arith, is, c.if-room-needed.true)))

pub returns : goal.returns
returns c = let s = c.before.before.before.before.before.before.before.before.before.before.before in let a = s.args in room_enough a.t (values s) a.room (omega (arith, c.measured-needed.ensures, c.if-room-needed.false))
