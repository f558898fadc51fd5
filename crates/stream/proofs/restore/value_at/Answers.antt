-- `stream::restore::value_at` meets its contract.
use Prim.Native.Nat.{◌/◌, ◌%◌, ◌<◌}
use Rattle.stream.proofs.Law.Tables.Starts.{placed}
use Rattle.stream.proofs.Law.Rows.Chunks.{good_is, value_is}
use Rattle.stream.proofs.Law.Header.Layout.{own_place}
use Rattle.stream.specs.Stream.{value_in}
use native.Mathlib.Omega.{arith}
use Rattle.stream.proofs.restore.value_at.Goals as goal

pub setting_in-t-requires : goal.setting_in-t-requires
setting_in-t-requires c = let p = c.requires.0.opened in (p.words, p.setting)

pub chunk_at-part-requires : goal.chunk_at-part-requires
chunk_at-part-requires c =
    let s = c.before in
    let p = s.requires.0 in
    let own : s.args.i / 1024 < s.args.h.chunks = omega (arith, s.requires.1, p.opened.layout.chunks) in
    (p.opened.layout, placed _ s.args.h s.args.bytes.now p.opened.layout p.table (s.args.i / 1024) own, own)

pub value-requires : goal.value-requires
value-requires c =
    let s = c.before in
    let a = s.args in (
      c.setting_in-t.ensures.1,
      c.count_at.ensures.1,
      omega (arith, own_place a.h a.i s.requires.1, c.count_at.ensures.0),
      good_is a.h a.bytes.now (a.i / 1024) _ c.count_at.result _ c.setting_in-t.ensures.0 c.count_at.ensures.0 c.chunk_at-part.ensures s.requires.2,
    )

pub returns : goal.returns
unfolding value_in
returns c =
    let a = c.args in
    value_is a.h a.bytes.now (a.i / 1024) _ c.count_at.result _ c.setting_in-t.ensures.0 c.count_at.ensures.0 c.chunk_at-part.ensures c.value.result (a.i % 1024) c.value.ensures
