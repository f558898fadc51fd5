-- `stream::one_chunk::there` meets its contract.
use Prim.Native.Nat.{ℕ}
use mathlib.Core.Path.{sym, ap, ap₂, ◌∙◌}
use Rattle.stream.specs.Setting.{group_size}
use Rattle.stream.specs.Chunk.{whole_chunk}
use Rattle.stream.specs.Stream.{chunk_of}
use Rattle.stream.specs.declared.setting.Setting.{Setting}
use Rattle.stream.specs.Access.{chunk_there}
use Rattle.stream.proofs.Law.Access.{there_placed}
use Rattle.stream.proofs.one_chunk.there.Goals as goal

pub returns-then-not-placed : goal.returns-then-not-placed
unfolding chunk_there
returns-then-not-placed c = rw (sym c.placed.ensures ∙ c.if-not-placed.true)

pub chunk_at-part-requires : goal.chunk_at-part-requires
chunk_at-part-requires c =
    let e = c.before.before in
    let s = e in
    let l = s.requires.0.layout in
    (l, there_placed s.args.h s.args.bytes.now s.args.j l (sym e.placed.ensures ∙ e.if-not-placed.false), s.requires.1)

pub returns : goal.returns
unfolding chunk_there
returns c =
    let e = c.before in
    let a = e.args in
    let t = c.setting_in-t in
    rw (sym e.placed.ensures ∙ e.if-not-placed.false)
    (c.whole.ensures
    ∙ ap (whole_chunk t.result.width (group_size t.result) c.count_at.result) c.chunk_at-part.ensures
    ∙ ap₂ (λ (x : Setting) (n : ℕ). whole_chunk x.width (group_size x) n (chunk_of a.h a.bytes.now a.j)) t.ensures.0 c.count_at.ensures.0)
