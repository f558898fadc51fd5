-- The chunk table and the chunks of a written stream, whatever stands behind its data: each chunk is found, good, and read back.
use mathlib.Core.Path.{◌≡◌, refl, sym, ap, ◌∙◌}
use mathlib.Core.Logic.{◌⊎◌, inl, inr}
use mathlib.Core.Bool.{Bool, true, false, cond}
use mathlib.Core.List.{List, [], ◌∷◌, ◌++◌, map}
use Prim.Native.Nat.{ℕ, zero, suc, ◌+◌, ◌-◌, ◌*◌, ◌/◌, ◌^◌, ◌≤◌, ◌<◌, min, zero-le}
use native.Mathlib.Nat.{two-pow-succ}
use native.Mathlib.Omega.{arith}
use borrow.Author.Tests.{lt-ltb, le-ltb, eq-eqb, ne_eqb, eqb-true}
use lib.Dec.{eqb}
use lib.ListN.{length, take, drop, get_or, length-append}
use lib.Seq.{drop_at, drop-drop, get_or-append-add}
use Rattle.bins.specs.Tolerance.{largest_u}
use Rattle.numbers.specs.Theorem.{Format}
use Rattle.numbers.proofs.Theorems.{no_u_is_larger}
use Rattle.blocks.specs.Bytes.{Below}
use Rattle.stream.specs.Group.{group_bytes}
use Rattle.stream.specs.Setting.{known_width, fraction_bits, ruled, group_size, clipped, code_at, codes_of, patterns_of, limit_of}
use Rattle.stream.specs.Chunk.{good, chunk_bytes}
use Rattle.stream.specs.Header.{word, k_of, setting_in, chunks_in}
use Rattle.stream.specs.Tables.{every, start_at, start_right, chunk_table_right}
use Rattle.stream.specs.Stream.{joined, count_of, chunk_of, chunk_state, chunk_values, values_in}
use Rattle.stream.specs.Writing.{spell, piece, piece_bytes, data_of, starts_of, header_numbers, end_of}
use Rattle.stream.specs.Theorem.{Limited, coming_back}
use Rattle.stream.specs.declared.header.Header.{Header}
use Rattle.stream.specs.declared.setting.Setting.{Setting}
use Rattle.blocks.proofs.Law.Truth.{le_or_lt}
use Rattle.stream.proofs.Law.Group.RoundTrip.{length_group}
use Rattle.stream.proofs.Law.Chunk.Groups.{chunk_step, written_is_good, written_is_read}
use Rattle.stream.proofs.Law.Setting.Codes.{bin_in, codes_each, codes_under, length_codes_after}
use Rattle.stream.proofs.Law.Setting.Allowed.{Storable, size_some, ruled_size, ruled_limit, ruled_patterns}
use Rattle.stream.proofs.Law.Setting.Widths.{width_bytes}
use Rattle.stream.proofs.Law.Setting.Exponent.{setting_back}
use Rattle.stream.proofs.Law.Plain.Joined.{joined_part, joined_same, singles_at}
use Rattle.stream.proofs.Law.Written.Numbers.{length_spell}
use Rattle.stream.proofs.Law.Written.Pieces.{length_piece, piece_below, data_next, end_is}
use Rattle.stream.proofs.Law.ReadBack.Header.{header_for, Front, front_numbers, length_numbers, front_word}

-- what holds of each number of a scan holds of the scan
pub every_all : (f : ℕ → Bool) (k i : ℕ) → ((j : ℕ) → i ≤ j → j < i + k → f j ≡ true) → every f k i ≡ true
unfolding every
every_all f zero i h = refl
every_all f (suc k) i h = rw (h i (omega arith) (omega arith)) (every_all f k (suc i) (λ j l m. h j (omega arith) (omega arith)))

-- ---- no code is above the limit

map_limited : (f : ℕ → ℕ) (a U : ℕ) → ((x : ℕ) → x < a → f x / 2 ≤ U) → (xs : List ℕ) → Below a xs → Limited U (map f xs)
map_limited f a U h [] below i = zero-le
map_limited f a U h (x ∷ xs) below zero = h x (below 0)
map_limited f a U h (x ∷ xs) below (suc i) = map_limited f a U h xs (λ k. below (suc k)) i

module _ (t : Setting) (known : known_width t.width ≡ true) where
  abbrev W : ℕ
  W = t.width

  format : Format W (fraction_bits W)
  format = (width_bytes W known).format

  -- a code of W bits
  half_small : (c : ℕ) → c < 2 ^ W → c / 2 ≤ 2 ^ (W - 1) - 1
  half_small c h =
      let twice : 2 ^ W ≡ 2 ^ (W - 1) + 2 ^ (W - 1) = ap (λ (n : ℕ). 2 ^ n) (let e : W ≡ suc (W - 1) = omega (arith, format.room) in e) ∙ two-pow-succ (W - 1) in
      omega (arith, h, twice)

  tolerance_limited : t.mode ≡ 1 → (p : ℕ) → p < 2 ^ W → code_at t p / 2 ≤ largest_u W (fraction_bits W) (clipped t)
  unfolding code_at
  tolerance_limited e p h = rw (ne_eqb t.mode 0 (λ z. omega arith)) (no_u_is_larger W (fraction_bits W) format (clipped t) (bin_in t format) t.halves p h)

  codes_limited : (vs : List ℕ) → Below (2 ^ W) vs → Limited (limit_of t) (codes_of t vs)
  unfolding limit_of
  codes_limited vs below = go (eqb t.mode 1) refl
    where
      go : (b : Bool) → eqb t.mode 1 ≡ b → Limited (cond b (largest_u W (fraction_bits W) (clipped t)) (2 ^ (W - 1) - 1)) (codes_of t vs)
      go true e =
          let lossy = eqb-true t.mode 1 e in
          rw (codes_each t 0 vs (λ z. omega arith)) (map_limited (code_at t) (2 ^ W) (largest_u W (fraction_bits W) (clipped t)) (tolerance_limited lossy) vs below)
      go false e = λ i. half_small (get_or (codes_of t vs) i 0) (codes_under t format 0 vs below i)

-- ---- the table and the chunks

-- a chunk has a byte at least
piece_some : (t : Setting) (vs : List ℕ) (j : ℕ) → j < chunks_in (length vs) → 0 < length (piece_bytes t vs j)
unfolding piece_bytes chunks_in
piece_some t vs j h =
    let cs = codes_of t (piece vs j) in
    let long : length cs ≡ min 1024 (length vs - 1024 * j) = length_codes_after t 0 (piece vs j) ∙ length_piece vs j in
    rw (chunk_step (group_size t) (size_some t) cs (omega arith), length-append (group_bytes (take (group_size t) cs)) (chunk_bytes (group_size t) (drop (group_size t) cs)), length_group (take (group_size t) cs)) (omega arith)

module _ (level needed : ℕ) (t : Setting) (vs : List ℕ) (sides : ℕ) (f : Front level needed t vs sides) (rest : List ℕ) where
  abbrev p : Storable level t vs
  p = f.list

  abbrev chunks : ℕ
  chunks = chunks_in (length vs)

  abbrev header : Header
  header = header_for level needed t vs sides

  abbrev bytes : List ℕ
  bytes = spell (front_numbers level needed t vs sides) ++ (data_of t vs chunks ++ rest)

  start_is : (j : ℕ) → j ≤ chunks → start_at header bytes j ≡ length (data_of t vs j)
  unfolding start_at header_numbers starts_of
  start_is j h = go (le_or_lt chunks j)
    where
      go : (chunks ≤ j) ⊎ (j < chunks) → start_at header bytes j ≡ length (data_of t vs j)
      go (inl l) =
          let last : j ≡ chunks = omega arith in
          rw (le-ltb j chunks l, last) (omega (arith, end_is t vs chunks))
      go (inr l) =
          rw (lt-ltb j chunks l)
          (ap (word bytes) (let e : 48 + 4 * j ≡ 4 * (12 + j) = omega arith in e)
          ∙ front_word level needed t vs sides f (data_of t vs chunks ++ rest) (12 + j) (omega arith)
          ∙ get_or-append-add (1 ∷ level ∷ needed ∷ drop 3 (header_numbers level t (length vs) sides (end_of t vs chunks))) (starts_of t vs chunks) j 0
          ∙ singles_at (λ i. length (data_of t vs i)) chunks j l)

  data_none : length (data_of t vs 0) ≡ 0
  unfolding data_of joined
  data_none = refl

  pub chunk_table_right_lem : chunk_table_right header bytes ≡ true
  unfolding chunk_table_right start_right
  chunk_table_right_lem =
      rw (eq-eqb (start_at header bytes 0) 0 (start_is 0 zero-le ∙ data_none))
      (every_all (start_right header bytes) chunks 0
      λ j l h.
      let some = piece_some t vs j (omega arith) in
      lt-ltb (start_at header bytes j) (start_at header bytes (j + 1))
      (omega (arith, start_is j (omega arith), start_is (j + 1) (omega arith), data_next t vs j)))

  chunk_is : (j : ℕ) → j < chunks → chunk_of header bytes j ≡ piece_bytes t vs j
  unfolding chunk_of data_of
  chunk_is j h =
      let long : length (spell (front_numbers level needed t vs sides)) ≡ 48 + 4 * chunks =
      length_spell (front_numbers level needed t vs sides) ∙ ap (λ (n : ℕ). 4 * n) (length_numbers level needed t vs sides)
      ∙ (let e : 4 * (12 + chunks) ≡ 48 + 4 * chunks = omega arith in e) in
      rw (start_is j (omega arith), start_is (j + 1) (omega arith))
      (ap (take (length (data_of t vs (j + 1)) - length (data_of t vs j)))
      (sym (drop-drop (length (data_of t vs j)) (48 + 4 * chunks) bytes)
      ∙ ap (drop (length (data_of t vs j))) (drop_at (spell (front_numbers level needed t vs sides)) (data_of t vs chunks ++ rest) (48 + 4 * chunks) long))
      ∙ joined_part (piece_bytes t vs) j chunks rest h)

  setting_is : setting_in header ≡ ruled 0 t
  unfolding k_of
  setting_is = setting_back t p.setting

  count_is : (j : ℕ) → count_of header j ≡ length (codes_of t (piece vs j))
  unfolding count_of
  count_is j = sym (length_codes_after t 0 (piece vs j) ∙ length_piece vs j)

  pub chunk_good : (j : ℕ) → j < chunks → chunk_state header bytes j ≡ good
  unfolding chunk_state piece_bytes
  chunk_good j h =
      let below = piece_below (2 ^ t.width) vs j p.patterns in
      rw (setting_is, ruled_size 0 t, ruled_limit 0 t, count_is j, chunk_is j h)
      (written_is_good (group_size t) (size_some t) t.width (limit_of t) (codes_of t (piece vs j))
      (codes_under t (width_bytes t.width p.setting.known).format 0 (piece vs j) below) (codes_limited t p.setting.known (piece vs j) below))

  chunk_back : (j : ℕ) → j < chunks → chunk_values header bytes j ≡ patterns_of t (codes_of t (piece vs j))
  unfolding chunk_values piece_bytes
  chunk_back j h = rw (setting_is, ruled_size 0 t, count_is j, chunk_is j h) (ruled_patterns 0 t 0 _ ∙ ap (patterns_of t) (written_is_read (group_size t) (size_some t) (codes_of t (piece vs j))))

  pub values_back : values_in header bytes ≡ coming_back t vs
  unfolding values_in coming_back
  values_back = joined_same (chunk_values header bytes) (λ j. patterns_of t (codes_of t (piece vs j))) chunks chunk_back
