-- A list cut into chunks of 1,024 values, the chunks' bytes, and where they end. Over the width and the setting.
use mathlib.Core.Path.{◌≡◌, refl, sym, ap, ◌∙◌}
use mathlib.Core.Logic.{◌⊎◌, inl, inr}
use mathlib.Core.Bool.{true}
use mathlib.Core.List.{List, ◌++◌}
use Prim.Native.Nat.{ℕ, zero, suc, ◌+◌, ◌-◌, ◌*◌, ◌/◌, ◌^◌, ◌≤◌, ◌<◌, min, zero-le}
use native.Mathlib.Nat.{add-zero, add_assoc, mul-suc, mul-add, mul_assoc, mul_comm, mul_left_comm, mul-le-mul, mul-add-div, div-eq_of_lt}
use native.Mathlib.Numerals.{add-one}
use native.Mathlib.Omega.{arith}
use lib.ListN.{length, take, drop, length-append, length-take, length-drop}
use lib.Seq.{take_all, take-add}
use Rattle.blocks.specs.Bytes.{Below}
use Rattle.stream.specs.Setting.{known_width, group_size, codes_of}
use Rattle.stream.specs.Chunk.{groups_in, chunk_bytes}
use Rattle.stream.specs.Header.{chunks_in}
use Rattle.stream.specs.Stream.{joined}
use Rattle.stream.specs.Writing.{piece, piece_bytes, data_of, starts_of, header_numbers, end_of}
use Rattle.stream.specs.Packing.{most_bytes}
use Rattle.stream.specs.declared.setting.Setting.{Setting}
use Rattle.blocks.proofs.Law.Truth.{le_or_lt}
use Rattle.blocks.proofs.Law.Digits.{below_take, below_drop}
use Rattle.stream.proofs.Law.Setting.Allowed.{Dividing, dividing, size_some}
use Rattle.stream.proofs.Law.Chunk.BytesLeft.{take_there, drop_there, bytes_small, groups_few}
use Rattle.stream.proofs.Law.Setting.Widths.{width_bytes}
use Rattle.stream.proofs.Law.Plain.Joined.{length_joined, joined_grows, length_singles}

-- ---- the pieces

pub length_piece : (vs : List ℕ) (j : ℕ) → length (piece vs j) ≡ min 1024 (length vs - 1024 * j)
unfolding piece
length_piece vs j = length-take 1024 (drop (1024 * j) vs) ∙ ap (min 1024) (length-drop (1024 * j) vs)

pub piece_below : (b : ℕ) (vs : List ℕ) (j : ℕ) → Below b vs → Below b (piece vs j)
unfolding piece
piece_below b vs j h = below_take b 1024 (drop (1024 * j) vs) (below_drop b (1024 * j) vs h)

-- the first k pieces
pieces : (vs : List ℕ) (k : ℕ) → joined (piece vs) k ≡ take (1024 * k) vs
unfolding joined piece
pieces vs zero = refl
pieces vs (suc k) =
    ap (λ (l : List ℕ). l ++ take 1024 (drop (1024 * k) vs)) (pieces vs k)
    ∙ sym (take-add (1024 * k) 1024 vs)
    ∙ ap (λ (n : ℕ). take n vs) (sym (mul-suc 1024 k))

-- all pieces are the list
pub pieces_whole : (vs : List ℕ) → joined (piece vs) (chunks_in (length vs)) ≡ vs
unfolding chunks_in
pieces_whole vs = pieces vs ((length vs + 1023) / 1024) ∙ take_all (1024 * ((length vs + 1023) / 1024)) vs (omega arith)

-- the same of a list that may be too short to have it
pub piece_clipped : (vs : List ℕ) (j from to : ℕ) → from ≡ min (1024 * j) (length vs) → to ≡ min (from + 1024) (length vs)
    → take (to - from) (drop from vs) ≡ piece vs j
unfolding piece
piece_clipped vs j from to e l =
    ap (λ (n : ℕ). take n (drop from vs))
    (let q : to - from ≡ min 1024 (length vs - from) = omega arith in q ∙ ap (min 1024) (sym (length-drop from vs)))
    ∙ sym (take_there 1024 (drop from vs))
    ∙ ap (λ (l : List ℕ). take 1024 l) (ap (λ (n : ℕ). drop n vs) e ∙ sym (drop_there (1024 * j) vs))

-- ---- their bytes

-- n values of some bytes each
pub whole_values : (n size : ℕ) → n * (8 * size) / 8 ≡ n * size
whole_values n size = ap (λ (x : ℕ). x / 8) (mul_left_comm n 8 size) ∙ (let q : 8 * (n * size) / 8 ≡ n * size = omega arith in q)

-- groups of whole chunks, and of what comes behind them
module _ (size : ℕ) (d : Dividing size) where
  groups_more : (j p : ℕ) → groups_in size (1024 * j + p) ≡ d.parts * j + groups_in size p
  unfolding groups_in
  groups_more j p =
      ap (λ (n : ℕ). n / size)
      (ap (λ (n : ℕ). n * j + p + (size - 1)) (sym d.whole) ∙ ap (λ (n : ℕ). n + p + (size - 1)) (mul_assoc size d.parts j) ∙ add_assoc (size * (d.parts * j)) p (size - 1))
      ∙ mul-add-div d.some (d.parts * j) (p + (size - 1))

  groups_none : groups_in size 0 ≡ 0
  unfolding groups_in
  groups_none = let l : 0 + (size - 1) < size = omega (arith, d.some) in div-eq_of_lt l

  groups_join : (n j : ℕ) → groups_in size (min n (1024 * j)) + groups_in size (min 1024 (n - 1024 * j)) ≡ groups_in size (min n (1024 * j) + min 1024 (n - 1024 * j))
  groups_join n j = go (le_or_lt (1024 * j) n)
    where
      go : (1024 * j ≤ n) ⊎ (n < 1024 * j)
          → groups_in size (min n (1024 * j)) + groups_in size (min 1024 (n - 1024 * j)) ≡ groups_in size (min n (1024 * j) + min 1024 (n - 1024 * j))
      go (inl h) =
          let m : min n (1024 * j) ≡ 1024 * j + 0 = omega arith in
          let p = min 1024 (n - 1024 * j) in
          ap (λ (x : ℕ). groups_in size x + groups_in size p) m
          ∙ ap (λ (x : ℕ). x + groups_in size p) (groups_more j 0 ∙ ap (λ (x : ℕ). d.parts * j + x) groups_none ∙ add-zero (d.parts * j))
          ∙ sym (ap (λ (x : ℕ). groups_in size (x + p)) (m ∙ add-zero (1024 * j)) ∙ groups_more j p)
      go (inr h) =
          let p : min 1024 (n - 1024 * j) ≡ 0 = omega arith in
          rw (p, groups_none, add-zero (groups_in size (min n (1024 * j))), add-zero (min n (1024 * j)))

module _ (t : Setting) (vs : List ℕ) where
  -- one chunk more
  pub data_next : (j : ℕ) → length (data_of t vs (j + 1)) ≡ length (data_of t vs j) + length (piece_bytes t vs j)
  unfolding data_of
  data_next j = ap (λ (n : ℕ). length (joined (piece_bytes t vs) n)) (add-one j) ∙ length_joined (piece_bytes t vs) j

  pub end_next : (j : ℕ) → end_of t vs (j + 1) ≡ end_of t vs j + length (piece_bytes t vs j)
  unfolding end_of
  end_next j = let e = data_next j in omega arith

  pub end_grows : (i j : ℕ) → i ≤ j → end_of t vs i ≤ end_of t vs j
  unfolding end_of data_of
  end_grows i j h = let l = joined_grows (piece_bytes t vs) i j h in omega arith

  -- the numbers of the header and of the first j starts
  pub length_front : (level n sides end j : ℕ) → length (header_numbers level t n sides end ++ starts_of t vs j) ≡ 12 + j
  unfolding header_numbers starts_of
  length_front level n sides end j =
      length-append (header_numbers level t n sides end) (starts_of t vs j)
      ∙ ap (λ (m : ℕ). 12 + m) (length_singles (λ i. length (data_of t vs i)) j)

  pub end_is : (j : ℕ) → 48 + 4 * chunks_in (length vs) + length (data_of t vs j) ≡ end_of t vs j
  unfolding end_of
  end_is j = refl

  pub end_start : 48 + 4 * chunks_in (length vs) ≡ end_of t vs 0
  unfolding end_of data_of joined
  end_start = sym (add-zero (48 + 4 * chunks_in (length vs)))

  -- the bytes of a chunk, by its values
  pub piece_bytes_lem : (j : ℕ) (p : List ℕ) → p ≡ piece vs j → chunk_bytes (group_size t) (codes_of t p) ≡ piece_bytes t vs j
  unfolding piece_bytes
  piece_bytes_lem j p e = rw e

  module _ (known : known_width t.width ≡ true) (below : Below (2 ^ t.width) vs) where
    abbrev bytes : ℕ
    bytes = (width_bytes t.width known).bytes

    abbrev groups : ℕ → ℕ
    groups = groups_in (group_size t)

    piece_most : (j : ℕ) → length (piece_bytes t vs j) ≤ groups (min 1024 (length vs - 1024 * j)) + bytes * min 1024 (length vs - 1024 * j)
    unfolding piece_bytes
    piece_most j =
        rw (← (length_piece vs j))
        (bytes_small (group_size t) (size_some t) t (piece vs j) bytes (width_bytes t.width known).whole (width_bytes t.width known).format (piece_below (2 ^ t.width) vs j below))

    -- of the first j chunks, a byte for each group and the bytes of the width for each value
    data_most : (j : ℕ) → length (data_of t vs j) ≤ groups (min (length vs) (1024 * j)) + bytes * min (length vs) (1024 * j)
    unfolding data_of joined
    data_most zero = zero-le
    data_most (suc j) =
        let n = length vs in
        let p = min 1024 (n - 1024 * j) in
        let m = min n (1024 * j) in
        let more = piece_most j in
        let so_far = data_most j in
        let whole : min n (1024 * suc j) ≡ m + p = omega arith in
        rw (length_joined (piece_bytes t vs) j, whole, mul-add bytes m p) (omega (arith, groups_join (group_size t) (dividing t) n j))

    all_most : end_of t vs (chunks_in (length vs)) ≤ 48 + 4 * chunks_in (length vs) + groups (length vs) + bytes * length vs
    unfolding end_of chunks_in
    all_most =
        let all : min (length vs) (1024 * ((length vs + 1023) / 1024)) ≡ length vs = omega arith in
        let most = rw all at (data_most ((length vs + 1023) / 1024)) in
        omega arith

    -- "Packed length is never above 48 + 4c + (n/32 rounded up) + n·W/8."
    pub end_most : end_of t vs (chunks_in (length vs)) ≤ most_bytes t (length vs)
    unfolding most_bytes
    end_most =
        let whole : length vs * t.width / 8 ≡ bytes * length vs =
        ap (λ (x : ℕ). length vs * x / 8) (width_bytes t.width known).whole ∙ whole_values (length vs) bytes ∙ mul_comm (length vs) bytes in
        omega (arith, all_most)

    -- so it is a number of 32 bits, and so is the end of the first chunks
    pub end_small : length vs ≤ 1048576 → (j : ℕ) → j ≤ chunks_in (length vs) → end_of t vs j < 2 ^ 24
    unfolding chunks_in
    end_small few j h =
        omega (arith, end_grows j ((length vs + 1023) / 1024) h, all_most, groups_few (group_size t) (length vs) (size_some t), mul-le-mul (width_bytes t.width known).few few)
