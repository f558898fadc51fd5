-- A turn of the loop of `listing::read_full`: the bytes of this read stand behind those of the reads before.
use Rattle.std.proofs.Common.{◌≡◌, ℕ, ◌+◌, ◌-◌, ◌≤◌, List, ◌++◌, length, take, rules, sym, ap, ◌∙◌, subst, length-take-le}
use Rattle.std.proofs.lemmas.List.{take-append-le}
use Rattle.std.proofs.Math.Seq.{take-append-add}
use Rattle.std.specs.Io.KnownBytes.{Consumes}
use Rattle.std.proofs.KnownBytes.{Consumes-trans}
use borrow.Rule.Slice.PartMut.{put_mid, post_of}
use Rattle.listing.proofs.read_full.Goals as goal

-- the front after a read of n bytes into the part that begins at a
read_front : (a k n : ℕ) (xs ys : List ℕ) → a ≤ length xs → n ≤ length ys → take a xs ++ take n ys ≡ take (a + n) (put_mid a k xs ys)
read_front a k n xs ys within fits =
    let after = post_of a k xs in
    sym
    (ap (λ m. take (m + n) (put_mid a k xs ys)) (sym (length-take-le a xs within))
    ∙ take-append-add (take a xs) (ys ++ after) n
    ∙ ap (λ l. take a xs ++ l) (take-append-le n ys after fits))

pub loop-done-preserved : goal.loop-done-preserved
loop-done-preserved g c =
    let read = c.in-Ok.ensures in
    let front = read_front c.loop-done.done (length c.loop-done.buffer - c.loop-done.done) c.in-Ok.n c.loop-done.buffer c.read.new.buf c.loop-done.invariant.in_bounds read.bound.0 in
    record {
      in_bounds = search rules;
      bytes = subst (Consumes _ _) front (Consumes-trans _ _ _ _ _ c.loop-done.invariant.bytes read.bytes.0);
    }
