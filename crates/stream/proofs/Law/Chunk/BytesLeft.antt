-- A chunk's values taken group by group: what is left of the values decides what is left of the bytes. Over the width, the setting and the
-- group size.
use mathlib.Core.Path.{◌≡◌, sym, ap, ap₂, ◌∙◌}
use mathlib.Core.Logic.{◌⊎◌, inl, inr}
use mathlib.Core.List.{List, [], ◌++◌}
use Prim.Native.Nat.{ℕ, suc, ◌+◌, ◌-◌, ◌*◌, ◌^◌, ◌≤◌, ◌<◌, min}
use native.Mathlib.Nat.{mul-le-mul, mul_comm, mul-suc, le_of_suc-le-suc, le-mul_of_pos_right, div-lt_iff_lt-mul}
use native.Mathlib.Omega.{arith}
use lib.ListN.{length, take, drop, length-drop, drop_of_length-le}
use lib.Seq.{take_all, drop-drop}
use Rattle.numbers.specs.Theorem.{Format}
use Rattle.blocks.specs.Bytes.{Below}
use Rattle.stream.specs.Group.{group_bytes}
use Rattle.stream.specs.Setting.{fraction_bits, codes_of}
use Rattle.stream.specs.Chunk.{groups_in, chunk_bytes}
use Rattle.stream.specs.declared.setting.Setting.{Setting}
use Rattle.blocks.proofs.Law.Truth.{le_or_lt}
use Rattle.stream.proofs.Law.Chunk.Groups.{chunk_step, chunk_none, chunk_most}
use Rattle.stream.proofs.Law.Setting.Codes.{codes_under, length_codes_after}

-- as far as there are elements
pub take_there : (k : ℕ) (l : List ℕ) → take k l ≡ take (min k (length l)) l
take_there k l = go (le_or_lt k (length l))
  where
    go : (k ≤ length l) ⊎ (length l < k) → take k l ≡ take (min k (length l)) l
    go (inl h) = ap (λ (n : ℕ). take n l) (let e : k ≡ min k (length l) = omega arith in e)
    go (inr h) = take_all k l (omega arith) ∙ sym (take_all (min k (length l)) l (omega arith))

pub drop_there : (k : ℕ) (l : List ℕ) → drop k l ≡ drop (min k (length l)) l
drop_there k l = go (le_or_lt k (length l))
  where
    go : (k ≤ length l) ⊎ (length l < k) → drop k l ≡ drop (min k (length l)) l
    go (inl h) = ap (λ (n : ℕ). drop n l) (let e : k ≡ min k (length l) = omega arith in e)
    go (inr h) = drop_of_length-le l {i = k} (omega arith) ∙ sym (drop_of_length-le l {i = min k (length l)} (omega arith))

-- how many bytes a chunk takes at the most, for a width of b bytes
module _ (size : ℕ) (some : 0 < size) (t : Setting) (vs : List ℕ) where
  pub bytes_small : (b : ℕ) → t.width ≡ 8 * b → Format t.width (fraction_bits t.width) → Below (2 ^ t.width) vs
      → length (chunk_bytes size (codes_of t vs)) ≤ groups_in size (length vs) + b * length vs
  bytes_small b e format below =
      let under : Below (2 ^ (8 * b)) (codes_of t vs) = λ i. rw (← e) (codes_under t format 0 vs below i) in
      rw (← (length_codes_after t 0 vs)) (chunk_most size some b (codes_of t vs) under)

-- The bytes of the codes that are left, however the codes came about.

-- from `at` on
abbrev pub bytes_after : ℕ → List ℕ → ℕ → List ℕ
bytes_after size cs at = chunk_bytes size (drop at cs)

module _ (size : ℕ) (some : 0 < size) (cs : List ℕ) where
  pub group_after : (at end : ℕ) → at < length cs → end ≡ at + min size (length cs - at)
      → bytes_after size cs at ≡ group_bytes (take (end - at) (drop at cs)) ++ bytes_after size cs end
  group_after at end h e =
      let rest = drop at cs in
      let count : min size (length rest) ≡ end - at = ap (min size) (length-drop at cs) ∙ (let q : min size (length cs - at) ≡ end - at = omega arith in q) in
      chunk_step size some rest (rw (length-drop at cs) (omega arith))
      ∙ ap₂ (λ (a b : List ℕ). group_bytes a ++ chunk_bytes size b)
      (take_there size rest ∙ ap (λ (n : ℕ). take n rest) count)
      (drop_there size rest ∙ ap (λ (n : ℕ). drop n rest) count ∙ drop-drop (end - at) at cs ∙ ap (λ (n : ℕ). drop n cs) (let q : at + (end - at) ≡ end = omega arith in q))

  pub none_after : (at : ℕ) → length cs ≤ at → bytes_after size cs at ≡ []
  none_after at h = ap (chunk_bytes size) (drop_of_length-le cs {i = at} h) ∙ chunk_none size some

-- there are no more groups than values
pub groups_few : (size n : ℕ) → 0 < size → groups_in size n ≤ n
unfolding groups_in
groups_few size n some =
    le_of_suc-le-suc ((div-lt_iff_lt-mul some).1 (omega (arith, mul_comm (suc n) size, mul-suc size n, mul_comm n size, le-mul_of_pos_right n some)))

-- a chunk of 1,024 values takes few bytes, at any width
pub chunk_small : (size : ℕ) (some : 0 < size) (t : Setting) (b : ℕ) (vs : List ℕ) → t.width ≡ 8 * b → b ≤ 8 → Format t.width (fraction_bits t.width) → Below (2 ^ t.width) vs
    → length vs ≤ 1024 → length (chunk_bytes size (codes_of t vs)) ≤ 9216
chunk_small size some t b vs e l format below h =
    omega (arith, bytes_small size some t vs b e format below, groups_few size (length vs) some, mul-le-mul l h)
