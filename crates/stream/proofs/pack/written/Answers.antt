-- The unfinished stream of the first j chunks; behind the last the next start is the data's length.
use Rattle.std.proofs.Common.{◌≡◌, ℕ, List, ◌+◌, ◌*◌, ◌++◌, ◌<◌, ◌^◌, length, drop, replicate, refl, sym, ap, ◌∙◌, arith}
use mathlib.Core.Path.{ap₂}
use Rattle.stream.specs.declared.setting.Setting.{Setting}
use Rattle.stream.specs.Header.{chunks_in}
use Rattle.stream.specs.Lent.{chosen}
use Rattle.stream.specs.Stream.{joined}
use Rattle.stream.specs.Writing.{data_of, end_of, unfinished, header_numbers, spell}
use Rattle.stream.proofs.Law.Lent.Chosen.{chosen_below}
use Rattle.stream.proofs.Law.Rows.Packing.{length_stream}
use Rattle.stream.proofs.Law.Written.Unfinished.{front_put, end_put}
use Rattle.stream.proofs.Law.Written.Pieces.{end_is, end_small}
use Rattle.stream.proofs.pack.written.Goals as goal

-- where the end stands
place : (t : Setting) (vs : List ℕ) (n chunks j start : ℕ) → n ≡ length vs → chunks ≡ chunks_in n → j ≡ chunks → start ≡ length (data_of t vs j)
    → 48 + 4 * chunks + start ≡ end_of t vs (chunks_in (length vs))
place t vs n chunks j start count-is chunks-are all is =
    let last = chunks-are ∙ ap chunks_in count-is in
    ap₂ (λ (k m : ℕ). 48 + 4 * k + m) last (is ∙ ap (λ (i : ℕ). length (data_of t vs i)) (all ∙ last)) ∙ end_is t vs (chunks_in (length vs))

pub put_front-requires : goal.put_front-requires
put_front-requires c =
    let q = c.requires.allowed in
    let vs : List ℕ = chosen c.args.t.width c.args.v32.now c.args.v64.now in
    (q.0, q.2, rw q.1 (omega (arith, c.requires.v64_in_bounds, end_is c.args.t vs (chunks_in (length vs)))))

pub loop-j-init : goal.loop-j-init
unfolding data_of joined
loop-j-init c = (refl, refl, λ base e. e, refl)

pub overflow_add-end-2 : goal.overflow_add-end-2
overflow_add-end-2 c =
    let a = c.args in
    let q = c.requires.allowed in
    let vs : List ℕ = chosen a.t.width a.v32.now a.v64.now in
    let below = chosen_below a.t.width a.v32.now a.v64.now q.0.known (λ i. (c.type_inv.v32 i).fits) (λ i. (c.type_inv.v64 i).fits) in
    let small = end_small a.t vs q.0.known below (omega (arith, q.1, q.2)) (chunks_in (length vs)) (omega arith) in
    omega (arith, small, place a.t vs a.n c.chunks_of-chunks.result c.loop-j.j c.loop-j.start q.1 c.chunks_of-chunks.ensures.0 (omega arith) c.loop-j.invariant.0)

pub overflow_cast-end : goal.overflow_cast-end
overflow_cast-end c =
    let a = c.args in
    let q = c.requires.allowed in
    let vs : List ℕ = chosen a.t.width a.v32.now a.v64.now in
    let below = chosen_below a.t.width a.v32.now a.v64.now q.0.known (λ i. (c.type_inv.v32 i).fits) (λ i. (c.type_inv.v64 i).fits) in
    let small = end_small a.t vs q.0.known below (omega (arith, q.1, q.2)) (chunks_in (length vs)) (omega arith) in
    omega (arith, small, place a.t vs a.n c.chunks_of-chunks.result c.loop-j.j c.loop-j.start q.1 c.chunks_of-chunks.ensures.0 (omega arith) c.loop-j.invariant.0)

pub put_word-requires : goal.put_word-requires
put_word-requires c =
    let a = c.args in
    let vs : List ℕ = chosen a.t.width a.v32.now a.v64.now in
    let end = place a.t vs a.n c.chunks_of-chunks.result c.loop-j.j c.loop-j.start c.requires.allowed.1 c.chunks_of-chunks.ensures.0 (omega arith) c.loop-j.invariant.0 in
    omega (arith, end, c.requires.v64_in_bounds, c.loop-j.invariant.1 ∙ c.put_front.auto.out)

pub returns : goal.returns
returns c =
    let a = c.args in
    let l = c.loop-j in
    let q = c.requires.allowed in
    let vs : List ℕ = chosen a.t.width a.v32.now a.v64.now in
    let base = a.out.now in
    let chunks = c.chunks_of-chunks.result in
    let all : l.j ≡ chunks = omega arith in
    let end = place a.t vs a.n chunks l.j l.start q.1 c.chunks_of-chunks.ensures.0 all l.invariant.0 in
    let front =
    c.put_front.ensures
    ∙ ap (λ (n : ℕ). spell (header_numbers a.level a.t n 0 0 ++ replicate (chunks_in n) 0) ++ drop (48 + 4 * chunks_in n) base) q.1
    ∙ front_put a.level a.t vs base in
    let whole = l.invariant.2 base front ∙ ap (λ (i : ℕ). unfinished a.level a.t vs i base) (all ∙ c.chunks_of-chunks.ensures.0 ∙ ap chunks_in q.1) in record {
      value = end ∙ sym (length_stream a.level a.t vs);
      out_after = c.put_word.ensures ∙ end_put a.level a.t vs base (48 + 4 * chunks + l.start) l.out end whole;
    }
