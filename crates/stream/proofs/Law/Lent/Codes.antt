-- The codes of the values lent: how many, how many bytes they take, and a part of them as the function of either width makes it.
use mathlib.Core.Path.{◌≡◌, refl, sym, ap, ap₂, ◌∙◌}
use mathlib.Core.Bool.{true}
use mathlib.Core.List.{List, ◌++◌, map}
use Prim.Native.Nat.{ℕ, ◌+◌, ◌-◌, ◌^◌, ◌≤◌, min}
use native.Mathlib.Omega.{arith}
use lib.ListN.{length, take, drop, length-map, length-drop, take-append-drop}
use lib.Seq.{take_at, drop_at, length-take-le}
use Rattle.numbers.specs.Difference.{difference_codes, last_of}
use Rattle.numbers.proofs.Theorems.{differences_of_an_append, as_many_differences}
use Rattle.blocks.specs.Bytes.{Below}
use Rattle.stream.specs.Setting.{known_width, group_size, code_at, codes_of}
use Rattle.stream.specs.Chunk.{chunk_bytes}
use Rattle.stream.specs.Lent.{chosen, lent_codes}
use Rattle.stream.specs.Writing.{piece, piece_bytes}
use Rattle.stream.specs.declared.setting.Setting.{Setting}
use Rattle.stream.proofs.Law.Lent.Chosen.{at_32, at_other, chosen_below, chosen_piece}
use Rattle.stream.proofs.Law.Plain.Mapped.{map_take, map_drop, part_taken}
use Rattle.stream.proofs.Law.Setting.Allowed.{size_some}
use Rattle.stream.proofs.Law.Chunk.BytesLeft.{chunk_small}
use Rattle.stream.proofs.Law.Group.Parts.{cuts, four_codes}
use Rattle.stream.proofs.Law.Setting.Codes.{codes_each, codes_by_difference, length_codes_after}
use Rattle.stream.proofs.Law.Setting.Widths.{width_bytes}
use Rattle.stream.proofs.Law.Written.Pieces.{piece_bytes_lem}

-- a part of the codes of a list: the codes of its part, or a part of the scratch where they stand
module _ (t : Setting) (vs : List ℕ) (n at : ℕ) where
  pub codes_part : map (code_at t) (take n (drop at vs)) ≡ take n (drop at (map (code_at t) vs))
  codes_part = map_take (code_at t) n (drop at vs) ∙ ap (take n) (map_drop (code_at t) at vs)

  pub staged_part : (cs : List ℕ) → take (length vs) cs ≡ map (code_at t) vs → at + n ≤ length vs → take n (drop at cs) ≡ take n (drop at (map (code_at t) vs))
  staged_part cs is h = sym (part_taken n at (length vs) cs h) ∙ ap (λ (l : List ℕ). take n (drop at l)) is

-- the same of the differences, which go on from the value before the part
pub differences_part : (W : ℕ) (vs : List ℕ) (n at : ℕ) → at + n ≤ length vs
    → difference_codes W (last_of 0 (take at vs)) (take n (drop at vs)) ≡ take n (drop at (difference_codes W 0 vs))
differences_part W vs n at h =
    let b = last_of 0 (take at vs) in
    let rest = drop at vs in
    let part : length (take n rest) ≡ n = length-take-le n rest (rw (length-drop at vs) (omega arith)) in
    sym
    (ap (λ (l : List ℕ). take n (drop at (difference_codes W 0 l))) (sym (take-append-drop at vs))
    ∙ ap (λ (l : List ℕ). take n (drop at l)) (differences_of_an_append W 0 (take at vs) rest)
    ∙ ap (take n) (drop_at (difference_codes W 0 (take at vs)) (difference_codes W b rest) at (as_many_differences W 0 (take at vs) ∙ length-take-le at vs (omega arith)))
    ∙ ap (λ (l : List ℕ). take n (difference_codes W b l)) (sym (take-append-drop n rest))
    ∙ ap (take n) (differences_of_an_append W b (take n rest) (drop n rest))
    ∙ take_at (difference_codes W b (take n rest)) (difference_codes W (last_of b (take n rest)) (drop n rest)) n (as_many_differences W b (take n rest) ∙ part))

-- the codes of a list, by mode
module _ (t : Setting) (vs : List ℕ) where
  pub each_are : (t.mode ≡ 2 → ⊥) → map (code_at t) vs ≡ codes_of t vs
  each_are n = sym (codes_each t 0 vs n)

  pub differences_are : (W : ℕ) → t.width ≡ W → t.mode ≡ 2 → difference_codes W 0 vs ≡ codes_of t vs
  differences_are W is e = ap (λ (w : ℕ). difference_codes w 0 vs) (sym is) ∙ sym (codes_by_difference t 0 vs e)

module _ (t : Setting) (v32 v64 : List ℕ) where
  pub lent_are : lent_codes t v32 v64 ≡ codes_of t (chosen t.width v32 v64)
  unfolding lent_codes
  lent_are = refl

  pub length_lent : length (lent_codes t v32 v64) ≡ length (chosen t.width v32 v64)
  length_lent = ap length lent_are ∙ length_codes_after t 0 (chosen t.width v32 v64)

  -- they are those of the list of the width, by mode
  module _ (narrow : t.width ≡ 32) where
    pub lent_32 : codes_of t v32 ≡ lent_codes t v32 v64
    lent_32 = ap (codes_of t) (sym (at_32 t.width v32 v64 narrow)) ∙ sym lent_are

    pub each_32 : (t.mode ≡ 2 → ⊥) → map (code_at t) v32 ≡ lent_codes t v32 v64
    each_32 n = each_are t v32 n ∙ lent_32

    pub differences_32 : t.mode ≡ 2 → difference_codes 32 0 v32 ≡ lent_codes t v32 v64
    differences_32 e = differences_are t v32 32 narrow e ∙ lent_32

  module _ (wide : t.width ≡ 64) where
    pub lent_64 : codes_of t v64 ≡ lent_codes t v32 v64
    lent_64 = ap (codes_of t) (sym (at_other t.width v32 v64 (λ e. omega arith))) ∙ sym lent_are

    pub each_64 : (t.mode ≡ 2 → ⊥) → map (code_at t) v64 ≡ lent_codes t v32 v64
    each_64 n = each_are t v64 n ∙ lent_64

    pub differences_64 : t.mode ≡ 2 → difference_codes 64 0 v64 ≡ lent_codes t v32 v64
    differences_64 e = differences_are t v64 64 wide e ∙ lent_64

  -- a chunk takes few bytes
  pub lent_small : known_width t.width ≡ true → Below (2 ^ 32) v32 → Below (2 ^ 64) v64 → length (chosen t.width v32 v64) ≤ 1024
      → length (chunk_bytes (group_size t) (lent_codes t v32 v64)) ≤ 9216
  lent_small known under-32 under_64 few =
      let b = width_bytes t.width known in
      rw lent_are (chunk_small (group_size t) (size_some t) t b.bytes (chosen t.width v32 v64) b.whole b.few b.format (chosen_below t.width v32 v64 known under-32 under_64) few)

-- the codes of the full group from `at` on: of one record, and of four
pub full_codes : (size at : ℕ) (part cs lent : List ℕ) → part ≡ take (at + size - at) (drop at cs) → cs ≡ lent → part ≡ take size (drop at lent)
full_codes size at part cs lent e same = e ∙ ap₂ (λ (n : ℕ) (l : List ℕ). take n (drop at l)) (let q : at + size - at ≡ size = omega arith in q) same

pub full_four_codes : (at : ℕ) (xs ys zs us cs lent : List ℕ) → xs ≡ take (at + 32 - at) (drop at cs) → ys ≡ take (at + 64 - (at + 32)) (drop (at + 32) cs)
    → zs ≡ take (at + 96 - (at + 64)) (drop (at + 64) cs) → us ≡ take (at + 128 - (at + 96)) (drop (at + 96) cs) → cs ≡ lent
    → xs ++ ys ++ zs ++ us ≡ take 128 (drop at lent)
full_four_codes at xs ys zs us cs lent x y z u same =
    let cut =
    cuts at (at + 128) (at + 32) (at + 64) (at + 96) (omega arith) (omega arith)
    (let e : at + 32 ≡ min (at + 32) (at + 128) = omega arith in e) (let e : at + 64 ≡ min (at + 64) (at + 128) = omega arith in e) (let e : at + 96 ≡ min (at + 96) (at + 128) = omega arith in e) in
    full_codes 128 at (xs ++ ys ++ zs ++ us) cs lent (four_codes _ _ _ _ _ cut cs xs ys zs us x y z u) same

-- the list of the width is as long as all that is lent
module _ (W : ℕ) (v32 v64 : List ℕ) where
  pub length_32 : W ≡ 32 → length (chosen W v32 v64) ≡ length v32
  length_32 e = ap length (at_32 W v32 v64 e)

  pub length_other : (W ≡ 32 → ⊥) → length (chosen W v32 v64) ≡ length v64
  length_other n = ap length (at_other W v32 v64 n)

  -- so what lies within the one lies within the other
  pub within_32 : (n : ℕ) → W ≡ 32 → n ≤ length (chosen W v32 v64) → n ≤ length v32
  within_32 n e h = omega (arith, length_32 e)

  pub within_other : (n : ℕ) → (W ≡ 32 → ⊥) → n ≤ length (chosen W v32 v64) → n ≤ length v64
  within_other n e h = omega (arith, length_other e)

pub chosen_parts : (W : ℕ) (v32 v64 p32 p64 : List ℕ) (j : ℕ) → p32 ≡ piece v32 j → p64 ≡ piece v64 j → chosen W p32 p64 ≡ piece (chosen W v32 v64) j
chosen_parts W v32 v64 p32 p64 j e32 e64 = ap₂ (chosen W) e32 e64 ∙ chosen_piece W v32 v64 j

-- what is put at the front stands there
pub staged_front : (t : Setting) (v32 rest c32 : List ℕ) → c32 ≡ map (code_at t) v32 ++ rest → take (length v32) c32 ≡ map (code_at t) v32
staged_front t v32 rest c32 e = ap (take (length v32)) e ∙ take_at (map (code_at t) v32) rest (length v32) (length-map v32 (code_at t))

-- the values of chunk j, lent from the lists that they come from
pub lent_piece : (t : Setting) (v32 v64 p32 p64 : List ℕ) (j : ℕ) → p32 ≡ piece v32 j → p64 ≡ piece v64 j
    → chunk_bytes (group_size t) (lent_codes t p32 p64) ≡ piece_bytes t (chosen t.width v32 v64) j
lent_piece t v32 v64 p32 p64 j e32 e64 =
    ap (chunk_bytes (group_size t)) (lent_are t p32 p64)
    ∙ piece_bytes_lem t (chosen t.width v32 v64) j (chosen t.width p32 p64) (chosen_parts t.width v32 v64 p32 p64 j e32 e64)
