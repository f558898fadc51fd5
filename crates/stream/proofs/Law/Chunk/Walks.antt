-- The walks over a chunk's groups that measure it and write it, for any group size: how far they have come, one group more, and the end. A group is
-- full or the last one, which goes as far as there are codes.
use mathlib.Core.Path.{◌≡◌, sym, ap, ◌∙◌}
use mathlib.Core.Bool.{true}
use mathlib.Core.List.{List, ◌++◌}
use Prim.Native.Nat.{ℕ, ◌+◌, ◌-◌, ◌^◌, ◌≤◌, ◌<◌, min}
use native.Mathlib.Nat.{zero-add}
use native.Mathlib.Omega.{arith}
use lib.ListN.{length, take, drop, length-append}
use borrow.Rule.Slice.PartMut.{put_mid}
use Rattle.blocks.specs.Bytes.{Below}
use Rattle.stream.specs.Group.{group_bytes}
use Rattle.stream.specs.Setting.{known_width, group_size}
use Rattle.stream.specs.Chunk.{chunk_bytes}
use Rattle.stream.specs.Lent.{chosen, lent_codes}
use Rattle.stream.specs.declared.setting.Setting.{Setting}
use Rattle.stream.proofs.Law.Chunk.BytesLeft.{bytes_after, group_after, none_after}
use Rattle.stream.proofs.Law.Lent.Codes.{length_lent, lent_small}
use Rattle.stream.proofs.Law.Plain.Appended.{Appended, nothing_yet, piece_fits, one_piece, all_put}
use Rattle.stream.proofs.Law.Setting.Allowed.{size_some}

-- a chunk of n values, lent, whose groups have `size` values
pub record Walk (t : Setting) (v32 v64 : List ℕ) (size n : ℕ) : Type 0 where
  pub size_is : group_size t ≡ size
  pub count_is : n ≡ length (chosen t.width v32 v64)
  pub few : n ≤ 1024

-- its bytes counted, up to `at`
pub record Measured (size : ℕ) (cs : List ℕ) (n at total : ℕ) : Type 0 where
  pub inside : at ≤ n
  pub so_far : total + length (bytes_after size cs at) ≡ length (chunk_bytes size cs)

-- its bytes put
pub record Put (size : ℕ) (cs : List ℕ) (n at : ℕ) (base out : List ℕ) (put : ℕ) : Type 0 where
  pub inside : at ≤ n
  pub so_far : Appended (chunk_bytes size cs) (bytes_after size cs at) base out put

module _ {t : Setting} {v32 v64 : List ℕ} {size n : ℕ} (w : Walk t v32 v64 size n) where
  some : 0 < size
  some = omega (arith, w.size_is, size_some t)

  many : n ≡ length (lent_codes t v32 v64)
  many = w.count_is ∙ sym (length_lent t v32 v64)

  -- the group from `at` to `end`, of k codes
  group_is : (at end k : ℕ) → at < n → end ≡ at + min size (n - at) → k ≡ end - at
      → bytes_after size (lent_codes t v32 v64) at ≡ group_bytes (take k (drop at (lent_codes t v32 v64))) ++ bytes_after size (lent_codes t v32 v64) end
  group_is at end k h e is =
      let cs = lent_codes t v32 v64 in
      group_after size some cs at end (omega (arith, many)) (let q : end ≡ at + min size (length cs - at) = omega (arith, many) in q)
      ∙ ap (λ (m : ℕ). group_bytes (take m (drop at cs)) ++ bytes_after size cs end) (sym is)

  -- in the words of a contract
  whole_is : length (chunk_bytes size (lent_codes t v32 v64)) ≡ length (chunk_bytes (group_size t) (lent_codes t v32 v64))
  whole_is = ap (λ (z : ℕ). length (chunk_bytes z (lent_codes t v32 v64))) (sym w.size_is)

  -- measured
  pub none_measured : Measured size (lent_codes t v32 v64) n 0 0
  none_measured = record { inside = omega arith; so_far = zero-add (length (chunk_bytes size (lent_codes t v32 v64))) }

  module _ {at total : ℕ} (m : Measured size (lent_codes t v32 v64) n at total) where
    pub one_measured : (end k r : ℕ) → at < n → end ≡ at + min size (n - at) → k ≡ end - at → r ≡ length (group_bytes (take k (drop at (lent_codes t v32 v64))))
        → Measured size (lent_codes t v32 v64) n end (total + r)
    one_measured end k r h e is counted =
        let cs = lent_codes t v32 v64 in
        let both = ap length (group_is at end k h e is) ∙ length-append (group_bytes (take k (drop at cs))) (bytes_after size cs end) in
        record { inside = omega arith; so_far = omega (arith, both, m.so_far) }

    pub all_measured : n ≤ at → total ≡ length (chunk_bytes (group_size t) (lent_codes t v32 v64))
    all_measured h = omega (arith, whole_is, m.so_far, ap length (none_after size some (lent_codes t v32 v64) at (omega (arith, many))))

    -- which is little
    pub measured_small : known_width t.width ≡ true → Below (2 ^ 32) v32 → Below (2 ^ 64) v64 → total ≤ 9216
    measured_small known under-32 under_64 =
        omega (arith, m.so_far, whole_is, lent_small t v32 v64 known under-32 under_64 (omega (arith, w.count_is, w.few)))

  -- put
  pub none_put : (base : List ℕ) → length (chunk_bytes (group_size t) (lent_codes t v32 v64)) ≤ length base → Put size (lent_codes t v32 v64) n 0 base base 0
  none_put base room = record { inside = omega arith; so_far = nothing_yet (chunk_bytes size (lent_codes t v32 v64)) base (omega (arith, whole_is)) }

  module _ {at put : ℕ} {base out : List ℕ} (p : Put size (lent_codes t v32 v64) n at base out put) where
    pub group_fits : (end k : ℕ) → at < n → end ≡ at + min size (n - at) → k ≡ end - at
        → length (group_bytes (take k (drop at (lent_codes t v32 v64)))) ≤ length (take (length out - put) (drop put out))
    group_fits end k h e is = piece_fits _ _ _ _ _ p.so_far (group_bytes (take k (drop at (lent_codes t v32 v64)))) (bytes_after size (lent_codes t v32 v64) end) (group_is at end k h e is)

    pub one_put : (end k r : ℕ) (ys : List ℕ) → at < n → end ≡ at + min size (n - at) → k ≡ end - at
        → r ≡ length (group_bytes (take k (drop at (lent_codes t v32 v64))))
        → ys ≡ group_bytes (take k (drop at (lent_codes t v32 v64))) ++ drop r (take (length out - put) (drop put out))
        → Put size (lent_codes t v32 v64) n end base (put_mid put (length out - put) out ys) (put + r)
    one_put end k r ys h e is l back = record {
      inside = omega arith;
      so_far = one_piece _ _ _ _ _ p.so_far (group_bytes (take k (drop at (lent_codes t v32 v64)))) (bytes_after size (lent_codes t v32 v64) end) ys r (group_is at end k h e is) l back;
    }

    pub walk_done : n ≤ at
        → (put ≡ length (chunk_bytes (group_size t) (lent_codes t v32 v64))) × (out ≡ chunk_bytes (group_size t) (lent_codes t v32 v64) ++ drop put base)
    walk_done h =
        let cs = lent_codes t v32 v64 in
        let none = ap length (none_after size some cs at (omega (arith, many))) in (
          omega (arith, whole_is, p.so_far.whole, none),
          all_put _ _ _ _ _ p.so_far (omega (arith, p.so_far.whole, none)) ∙ ap (λ (z : ℕ). chunk_bytes z cs ++ drop put base) (sym w.size_is),
        )
