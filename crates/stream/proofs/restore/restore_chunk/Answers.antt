-- `stream::restore::restore_chunk` meets its contract.
use Prim.Native.Nat.{ℕ, ◌-◌}
use Rattle.stream.proofs.Law.Chunk.LongerBytes.{chunk_begun, chunk_codes_lem}
use Rattle.stream.proofs.Law.Rows.Chunks.{values_are}
use Rattle.stream.proofs.Law.Values.Counts.{length_chunk}
use Rattle.stream.proofs.Law.Lent.Landing.{lent_fits, lent_landed}
use Rattle.stream.specs.Chunk.{whole_chunk}
use Rattle.stream.specs.Lent.{chosen, landed}
use Rattle.stream.specs.Setting.{patterns_of, group_size}
use Rattle.stream.specs.Stream.{count_of, chunk_of, chunk_values}
use Rattle.stream.specs.declared.setting.Setting.{Setting}
use lib.ListN.{length, take, drop}
use borrow.Rule.Slice.PartMut.{put_mid}
use mathlib.Core.Bool.{true}
use mathlib.Core.List.{List, ◌++◌}
use mathlib.Core.Path.{◌≡◌, refl, ap, ap₂, subst, ◌∙◌}
use native.Mathlib.Omega.{arith}
use Rattle.stream.proofs.restore.restore_chunk.Goals as goal
use Rattle.stream.proofs.restore.restore_chunk.Lts as lts
use Rattle.stream.proofs.restore.restore_chunk.Reads as reads
use Rattle.stream.proofs.restore.restore_chunk.Tie as tie

abbrev Start : Type 0
Start = lts.Start tie.the-claims reads.Pre reads.Post tie.handed_clauses

abbrev After-min2 : Type 0
After-min2 = lts.After-min2 tie.the-claims reads.Pre reads.Post tie.handed_clauses

-- the call's own, where both outputs are cut; the setting is the header's, and the chunk is there to be read
abbrev start : After-min2 → Start
start c = c.before.before.before.before.before.before.before.before.before.before

abbrev t : After-min2 → Setting
t c = c.setting_in-t.result

width_is : (c : After-min2) → (t c).width ≡ (start c).args.h.width
width_is c = ap (λ (x : Setting). x.width) c.setting_in-t.ensures.0

whole : (c : After-min2) → let a = (start c).args in whole_chunk (t c).width (group_size (t c)) c.count_at-n.result (chunk_of a.h a.bytes.now a.j) ≡ true
whole c =
    let n = c.count_at-n in
    let s = start c in
    let a = s.args in
    ap₂ (λ (x : Setting) (k : ℕ). whole_chunk x.width (group_size x) k (chunk_of a.h a.bytes.now a.j)) c.setting_in-t.ensures.0 n.ensures.0 ∙ s.requires.opened.3

pub setting_in-t-requires : goal.setting_in-t-requires
setting_in-t-requires c = let p = c.requires.opened.0 in (p.words, p.setting)

pub restored-requires : goal.restored-requires
restored-requires c =
    let q = c.before.before.before.before.before in
    let s = start q in
    let a = s.args in
    let n = q.count_at-n in
    let w = width_is q in record {
      allowed = (q.setting_in-t.ensures.1, n.ensures.1, chunk_begun a.h a.bytes.now _ a.j q.chunk_on-part.ensures (t q) n.result (whole q));
      in_bounds = (
        omega (arith, s.requires.place_bound.2, ap (λ (x : ℕ). length (chosen x a.c32.now a.c64.now)) w),
        rw n.ensures.0 (lent_fits (t q).width a.place (count_of a.h a.j) _ _ a.o32.now a.o64.now q.min-a32.ensures q.min-a64.ensures
            (omega (arith, s.requires.place_bound.1, ap (λ (x : ℕ). length (chosen x a.o32.now a.o64.now)) w))),
      );
    }

pub returns : goal.returns
returns c =
    let r = c.restored in
    let q = c.before.before.before.before.before.before.before.before.before.before.before.before.before.before in
    let s = start q in
    let a = s.args in
    let n = q.count_at-n in
    let k = q.min-a32 in
    let m = q.min-a64 in
    let w = width_is q in
    let old = chosen (t q).width (take (length a.o32.now - k.result) (drop k.result a.o32.now)) (take (length a.o64.now - m.result) (drop m.result a.o64.now)) in
    let values =
    ap (patterns_of (t q)) (chunk_codes_lem a.h a.bytes.now _ a.j q.chunk_on-part.ensures (t q) n.result (whole q))
    ∙ values_are a.h a.bytes.now a.j (t q) n.result (chunk_of a.h a.bytes.now a.j) q.setting_in-t.ensures.0 n.ensures.0 refl in
    let xs = r.new.o32 in
    let ys = r.new.o64 in
    subst
    (λ (x : ℕ).
    chosen x (put_mid k.result (length a.o32.now - k.result) a.o32.now xs) (put_mid m.result (length a.o64.now - m.result) a.o64.now ys)
    ≡ landed a.place (chunk_values a.h a.bytes.now a.j) (chosen x a.o32.now a.o64.now))
    w
    (lent_landed (t q).width a.place (count_of a.h a.j) _ _ a.o32.now a.o64.now k.ensures m.ensures
    (omega (arith, s.requires.place_bound.1, ap (λ (x : ℕ). length (chosen x a.o32.now a.o64.now)) w))
    (chunk_values a.h a.bytes.now a.j) xs ys (length_chunk a.h a.bytes.now a.j)
    (r.ensures ∙ ap₂ (λ (vs : List ℕ) (i : ℕ). vs ++ drop i old) values n.ensures.0))
