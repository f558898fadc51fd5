-- The laws of a chunk, over any group size: one group at a time, and then whole. Read of written, written of read, and the length.
use Rattle.std.specs.Prelude.{Err}
use mathlib.Core.Path.{◌≡◌, refl, sym, ap, ap₂, ◌∙◌}
use mathlib.Core.Logic.{◌⊎◌, inl, inr}
use mathlib.Core.Bool.{Bool, true, false, cond}
use mathlib.Core.List.{List, [], ◌∷◌, ◌++◌, append-nil}
use Prim.Native.Nat.{ℕ, zero, suc, ◌+◌, ◌-◌, ◌*◌, ◌/◌, ◌^◌, ◌≤◌, ◌<◌, min, zero-le}
use native.Mathlib.Nat.{div-eq_of_lt, div-eq-sub-div, suc-mul, mul-add, mul_assoc, min-eq_left, lt-div-mul-add, zero-sub, zero-mul, min-zero, not-suc-le-zero}
use native.Mathlib.Numerals.{add-one}
use native.Mathlib.Omega.{arith}
use borrow.Author.Tests.{ne_eqb}
use lib.Pow.{pow_pos}
use lib.Dec.{eqb}
use lib.ListN.{length, take, drop, length-append, length-take, length-drop, take-append-drop, drop_of_length-le}
use lib.Seq.{take_at, drop_at, take_all, drop-append_seam}
use Rattle.blocks.specs.Bytes.{Below, digits}
use Rattle.stream.specs.Group.{bytes_for, group_bytes, group_length, group_codes, good_group}
use Rattle.stream.specs.Chunk.{good, groups_in, groups_bytes, chunk_bytes, first_fault, chunk_answer, groups_codes, chunk_codes}
use Rattle.stream.specs.Theorem.{Limited, Starts}
use Rattle.blocks.proofs.Law.Truth.{le_or_lt}
use Rattle.blocks.proofs.Law.Digits.{below_append, below_take, below_drop}
use Rattle.stream.proofs.Law.Group.RoundTrip.{read_length, read_codes, length_codes, length_group_most}
use Rattle.stream.proofs.Law.Group.Exact.{true_good, read_written, starts_accepted, accepted_starts}

-- a group of no codes
no_codes : (s : List ℕ) → group_codes 0 s ≡ []
unfolding group_codes digits
no_codes s = refl

-- a limit of u is a bound of the codes
limit_below : (U : ℕ) (cs : List ℕ) → Limited U cs → Below (2 * suc U) cs
limit_below U cs h i = omega (arith, h i)

below_limit : (U : ℕ) (cs : List ℕ) → Below (2 * suc U) cs → Limited U cs
below_limit U cs h i = omega (arith, h i)

limited_take : (U k : ℕ) (cs : List ℕ) → Limited U cs → Limited U (take k cs)
limited_take U k cs h = below_limit U (take k cs) (below_take (2 * suc U) k cs (limit_below U cs h))

limited_drop : (U k : ℕ) (cs : List ℕ) → Limited U cs → Limited U (drop k cs)
limited_drop U k cs h = below_limit U (drop k cs) (below_drop (2 * suc U) k cs (limit_below U cs h))

limited_append : (U : ℕ) (xs ys : List ℕ) → Limited U xs → Limited U ys → Limited U (xs ++ ys)
limited_append U xs ys h l = below_limit U (xs ++ ys) (below_append (2 * suc U) xs ys (limit_below U xs h) (limit_below U ys l))

nothing_left : (cs : List ℕ) → length cs ≤ 0 → cs ≡ []
nothing_left [] h = refl
nothing_left (c ∷ cs) h = absurd (not-suc-le-zero h)

-- codes of whole bytes leave no bits over
whole_bytes : (b n : ℕ) → bytes_for (8 * b) n ≡ b * n
unfolding bytes_for
whole_bytes b n = ap (λ (x : ℕ). (x + 7) / 8) (mul_assoc 8 b n) ∙ (let e : (8 * (b * n) + 7) / 8 ≡ b * n = omega arith in e)

pub never_good : (i : ℕ) → Err i ≡ good → ⊥
never_good i e = let z : ◌≡◌ {A = ℕ} 0 1 = cc in omega arith

-- a chunk that ends with its last group has no byte left
left_over : (s : List ℕ) (i : ℕ) → cond (eqb (length s) 0) good (Err (i - 1)) ≡ good → s ≡ []
left_over s i e = go (le_or_lt (length s) 0)
  where
    go : (length s ≤ 0) ⊎ (0 < length s) → s ≡ []
    go (inl h) = nothing_left s h
    go (inr h) = absurd (never_good (i - 1) (rw (ne_eqb (length s) 0 (λ z. omega arith)) at e))

module _ (size : ℕ) (some : 0 < size) where
  -- ---- how many groups

  pub groups_none : groups_in size 0 ≡ 0
  unfolding groups_in
  groups_none = div-eq_of_lt (omega arith)

  -- one group for the next values, full or short
  pub groups_step : (n : ℕ) → 0 < n → groups_in size n ≡ suc (groups_in size (n - size))
  unfolding groups_in
  groups_step n h = div-eq-sub-div some (omega arith) ∙ add-one ((n + (size - 1) - size) / size) ∙ ap suc (go (le_or_lt size n))
    where
      go : (size ≤ n) ⊎ (n < size) → (n + (size - 1) - size) / size ≡ (n - size + (size - 1)) / size
      go (inl l) = ap (λ (x : ℕ). x / size) (let e : n + (size - 1) - size ≡ n - size + (size - 1) = omega arith in e)
      go (inr l) = div-eq_of_lt (omega arith) ∙ sym (div-eq_of_lt (omega arith))

  pub groups_hold : (n : ℕ) → n ≤ groups_in size n * size
  unfolding groups_in
  groups_hold n = omega (arith, lt-div-mul-add {a = n + (size - 1)} some)

  -- ---- writing, a group at a time

  pub chunk_none : chunk_bytes size [] ≡ []
  unfolding chunk_bytes groups_bytes
  chunk_none = rw groups_none

  pub chunk_step : (cs : List ℕ) → 0 < length cs → chunk_bytes size cs ≡ group_bytes (take size cs) ++ chunk_bytes size (drop size cs)
  unfolding chunk_bytes groups_bytes
  chunk_step cs h = rw (groups_step (length cs) h, length-drop size cs)

  -- ---- reading, a group at a time

  module _ (W U : ℕ) where
    pub fault_none : (s : List ℕ) (i : ℕ) → first_fault W U size (groups_in size 0) 0 s i ≡ cond (eqb (length s) 0) good (Err (i - 1))
    unfolding first_fault
    fault_none s i = rw groups_none

    pub fault_step : (n : ℕ) (s : List ℕ) (i : ℕ) → 0 < n
        → first_fault W U size (groups_in size n) n s i
        ≡ cond (good_group W U (min size n) s) (first_fault W U size (groups_in size (n - size)) (n - size) (drop (group_length (min size n) s) s) (suc i)) (Err i)
    unfolding first_fault
    fault_step n s i h = rw (groups_step n h)

  pub codes_none : (s : List ℕ) → chunk_codes size 0 s ≡ []
  unfolding chunk_codes groups_codes
  codes_none s = rw groups_none

  pub codes_step : (n : ℕ) (s : List ℕ) → 0 < n
      → chunk_codes size n s ≡ group_codes (min size n) s ++ chunk_codes size (n - size) (drop (group_length (min size n) s) s)
  unfolding chunk_codes groups_codes
  codes_step n s h = rw (groups_step n h)

  -- ---- read of written

  -- what lies behind the first group
  behind : (cs rest : List ℕ) → drop (group_length (min size (length cs)) (group_bytes (take size cs) ++ rest)) (group_bytes (take size cs) ++ rest) ≡ rest
  behind cs rest =
      let s = group_bytes (take size cs) ++ rest in
      ap (λ (n : ℕ). drop (group_length n s) s) (sym (length-take size cs))
      ∙ ap (λ (k : ℕ). drop k s) (read_length (take size cs) rest)
      ∙ drop-append_seam (group_bytes (take size cs)) rest

  module _ (W U : ℕ) where
    first_starts : (cs rest : List ℕ) → Below (2 ^ W) cs → Limited U cs → Starts W U (min size (length cs)) (group_bytes (take size cs) ++ rest) (take size cs)
    first_starts cs rest below limited = record {
      count = length-take size cs;
      below = below_take (2 ^ W) size cs below;
      limited = limited_take U size cs limited;
      rest = rest;
      bytes = refl;
    }

    no_fault : (q : ℕ) (cs : List ℕ) (i : ℕ) → Below (2 ^ W) cs → Limited U cs → first_fault W U size q (length cs) (groups_bytes size q cs) i ≡ good
    unfolding first_fault groups_bytes
    no_fault zero cs i below limited = refl
    no_fault (suc q) cs i below limited =
        let rest = groups_bytes size q (drop size cs) in
        rw (starts_accepted (first_starts cs rest below limited), behind cs rest, ← (length-drop size cs))
        (no_fault q (drop size cs) (suc i) (below_drop (2 ^ W) size cs below) (limited_drop U size cs limited))

    -- what is written is read without a fault
    pub written_is_good : (cs : List ℕ) → Below (2 ^ W) cs → Limited U cs → chunk_answer W U size (length cs) (chunk_bytes size cs) ≡ good
    unfolding chunk_answer chunk_bytes
    written_is_good cs below limited = no_fault (groups_in size (length cs)) cs 0 below limited

  codes_back : (q : ℕ) (cs : List ℕ) → length cs ≤ q * size → groups_codes size q (length cs) (groups_bytes size q cs) ≡ cs
  unfolding groups_codes groups_bytes
  codes_back zero cs h = sym (nothing_left cs (omega (arith, zero-mul size)))
  codes_back (suc q) cs h =
      let rest = groups_bytes size q (drop size cs) in
      ap₂ ◌++◌
      (ap (λ (n : ℕ). group_codes n (group_bytes (take size cs) ++ rest)) (sym (length-take size cs)) ∙ read_codes (take size cs) rest)
      (ap₂ (groups_codes size q) (sym (length-drop size cs)) (behind cs rest) ∙ codes_back q (drop size cs) (rw (length-drop size cs) (omega (arith, suc-mul q size))))
      ∙ take-append-drop size cs

  -- what is written is read back
  pub written_is_read : (cs : List ℕ) → chunk_codes size (length cs) (chunk_bytes size cs) ≡ cs
  unfolding chunk_codes chunk_bytes
  written_is_read cs = codes_back (groups_in size (length cs)) cs (groups_hold (length cs))

  -- ---- written of read

  codes_empty : (q : ℕ) (s : List ℕ) → groups_codes size q 0 s ≡ []
  unfolding groups_codes
  codes_empty zero s = refl
  codes_empty (suc q) s =
      ap₂ ◌++◌ (ap (λ (n : ℕ). group_codes n s) (min-zero size) ∙ no_codes s)
      (ap (λ (n : ℕ). groups_codes size q n (drop (group_length (min size 0) s) s)) (zero-sub size) ∙ codes_empty q (drop (group_length (min size 0) s) s))

  -- the first group of codes, and the rest of them
  module _ (q n : ℕ) (s t : List ℕ) where
    none_behind : n < size → groups_codes size q (n - size) t ≡ []
    none_behind h = ap (λ (k : ℕ). groups_codes size q k t) (let e : n - size ≡ 0 = omega arith in e) ∙ codes_empty q t

    length_first : length (group_codes (min size n) s) ≡ min size n
    length_first = length_codes (min size n) s

    split_first : (size ≤ n) ⊎ (n < size) → take size (group_codes (min size n) s ++ groups_codes size q (n - size) t) ≡ group_codes (min size n) s
    split_first (inl h) = take_at (group_codes (min size n) s) (groups_codes size q (n - size) t) size (length_first ∙ min-eq_left h)
    split_first (inr h) =
        ap (λ (r : List ℕ). take size (group_codes (min size n) s ++ r)) (none_behind h)
        ∙ ap (take size) (append-nil (group_codes (min size n) s))
        ∙ take_all size (group_codes (min size n) s) (omega (arith, length_first))

    split_rest : (size ≤ n) ⊎ (n < size) → drop size (group_codes (min size n) s ++ groups_codes size q (n - size) t) ≡ groups_codes size q (n - size) t
    split_rest (inl h) = drop_at (group_codes (min size n) s) (groups_codes size q (n - size) t) size (length_first ∙ min-eq_left h)
    split_rest (inr h) =
        ap (λ (r : List ℕ). drop size (group_codes (min size n) s ++ r)) (none_behind h)
        ∙ ap (drop size) (append-nil (group_codes (min size n) s))
        ∙ drop_of_length-le (group_codes (min size n) s) {i = size} (omega (arith, length_first))
        ∙ sym (none_behind h)

    -- the bytes of these codes, a group at a time
    bytes_split : groups_bytes size (suc q) (group_codes (min size n) s ++ groups_codes size q (n - size) t)
        ≡ group_bytes (group_codes (min size n) s) ++ groups_bytes size q (groups_codes size q (n - size) t)
    unfolding groups_bytes
    bytes_split = ap₂ (λ (a b : List ℕ). group_bytes a ++ groups_bytes size q b) (split_first (le_or_lt size n)) (split_rest (le_or_lt size n))

  module _ (W U : ℕ) where
    -- s is just the bytes of allowed codes
    pub record Exactly (q : ℕ) (s cs : List ℕ) : Type 0 where
      pub bytes : s ≡ groups_bytes size q cs
      pub below : Below (2 ^ W) cs
      pub limited : Limited U cs

    good_exactly : (q n : ℕ) (s : List ℕ) (i : ℕ) → Below 256 s → first_fault W U size q n s i ≡ good → Exactly q s (groups_codes size q n s)
    unfolding first_fault groups_codes groups_bytes
    good_exactly zero n s i below e = record { bytes = left_over s i e; below = λ k. pow_pos W; limited = λ k. zero-le }
    good_exactly (suc q) n s i below e = go (good_exactly q) (good_group W U (min size n) s) refl
      where
        go : ((n : ℕ) (s : List ℕ) (i : ℕ) → Below 256 s → first_fault W U size q n s i ≡ good → Exactly q s (groups_codes size q n s))
            → (b : Bool) → good_group W U (min size n) s ≡ b → Exactly (suc q) s (groups_codes size (suc q) n s)
        go again true g =
            let k = group_length (min size n) s in
            let first = accepted_starts W U (min size n) s below g in
            let rest = again (n - size) (drop k s) (suc i) (below_drop 256 k s below) (rw g at e) in
            record {
              bytes =
                  sym (take-append-drop k s)
                  ∙ ap₂ ◌++◌ (read_written below (true_good W U (min size n) s g)) rest.bytes
                  ∙ sym (bytes_split q n s (drop k s));
              below = below_append (2 ^ W) (group_codes (min size n) s) (groups_codes size q (n - size) (drop k s)) first.below rest.below;
              limited = limited_append U (group_codes (min size n) s) (groups_codes size q (n - size) (drop k s)) first.limited rest.limited;
            }
        go again false g = absurd (never_good i (rw g at e))

    -- what is accepted is just the bytes of the codes that are read, and these are allowed
    pub good_is_exact : (n : ℕ) (s : List ℕ) → Below 256 s → chunk_answer W U size n s ≡ good → Exactly (groups_in size n) s (chunk_codes size n s)
    unfolding chunk_answer chunk_codes
    good_is_exact n s below e = good_exactly (groups_in size n) n s 0 below e

  length_groups : (q n : ℕ) (s : List ℕ) → n ≤ q * size → length (groups_codes size q n s) ≡ n
  unfolding groups_codes
  length_groups zero n s h = omega (arith, zero-mul size)
  length_groups (suc q) n s h =
      let t = drop (group_length (min size n) s) s in
      length-append (group_codes (min size n) s) (groups_codes size q (n - size) t)
      ∙ ap₂ ◌+◌ (length_codes (min size n) s) (length_groups q (n - size) t (omega (arith, suc-mul q size)))
      ∙ (let e : min size n + (n - size) ≡ n = omega arith in e)

  -- as many codes are read as the chunk has values, whatever its bytes are
  pub length_chunk_codes : (n : ℕ) (s : List ℕ) → length (chunk_codes size n s) ≡ n
  unfolding chunk_codes
  length_chunk_codes n s = length_groups (groups_in size n) n s (groups_hold n)

  -- "Packed length is never above ..": a byte for each group, and b bytes for each value of 8 * b bits
  groups_most : (b q : ℕ) (cs : List ℕ) → Below (2 ^ (8 * b)) cs → length (groups_bytes size q cs) ≤ q + b * length cs
  unfolding groups_bytes
  groups_most b zero cs below = zero-le
  groups_most b (suc q) cs below =
      let first = length_group_most (8 * b) (take size cs) (below_take (2 ^ (8 * b)) size cs below) in
      let rest = groups_most b q (drop size cs) (below_drop (2 ^ (8 * b)) size cs below) in
      let parts : b * length (take size cs) + b * length (drop size cs) ≡ b * length cs =
      sym (mul-add b (length (take size cs)) (length (drop size cs)))
      ∙ ap (λ (n : ℕ). b * n) (sym (length-append (take size cs) (drop size cs)) ∙ ap length (take-append-drop size cs)) in
      rw (length-append (group_bytes (take size cs)) (groups_bytes size q (drop size cs))) (omega (arith, whole_bytes b (length (take size cs))))

  pub chunk_most : (b : ℕ) (cs : List ℕ) → Below (2 ^ (8 * b)) cs → length (chunk_bytes size cs) ≤ groups_in size (length cs) + b * length cs
  unfolding chunk_bytes
  chunk_most b cs below = groups_most b (groups_in size (length cs)) cs below
