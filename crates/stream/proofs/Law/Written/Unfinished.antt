-- The stream as pack writes it: header and table with zeros, chunk after chunk, and the end of data last. Over the setting.
use mathlib.Core.Path.{◌≡◌, refl, sym, ap, ap₂, ◌∙◌}
use mathlib.Core.Bool.{true}
use mathlib.Core.List.{List, [], ◌∷◌, ◌++◌, append_assoc, append-nil}
use Prim.Native.Nat.{ℕ, suc, ◌+◌, ◌-◌, ◌*◌, ◌^◌, ◌≤◌, ◌<◌}
use native.Mathlib.Numerals.{add-one}
use native.Mathlib.Omega.{arith}
use lib.ListN.{length, take, drop, replicate, length-append, length-replicate}
use lib.Seq.{take_at, drop_at, drop-drop, append_snoc}
use borrow.Rule.Slice.PartMut.{put_mid}
use Rattle.blocks.specs.Bytes.{Below, digits}
use Rattle.stream.specs.Setting.{known_width, need, k_bits, mode_number}
use Rattle.stream.specs.Header.{chunks_in}
use Rattle.stream.specs.Stream.{joined}
use Rattle.stream.specs.Writing.{spell, piece_bytes, data_of, starts_of, header_numbers, end_of, body, stream, unfinished}
use Rattle.stream.specs.declared.setting.Setting.{Setting}
use Rattle.stream.proofs.Law.Plain.Appended.{Appended, one_piece, all_there}
use Rattle.stream.proofs.Law.Written.Numbers.{length_spell, spell_put}
use Rattle.stream.proofs.Law.Written.Pieces.{length_front, data_next, end_is, end_next, end_grows, end_start, end_small}

-- a piece written into the part behind P
piece_put : (P Y piece ys : List ℕ) (at r : ℕ) → length P ≡ at → length piece ≤ length Y → r ≡ length piece
    → ys ≡ piece ++ drop r (take (length (P ++ Y) - at) (drop at (P ++ Y)))
    → put_mid at (length (P ++ Y) - at) (P ++ Y) ys ≡ P ++ piece ++ drop r Y
piece_put P Y piece ys at r long room l is =
    let base = P ++ Y in
    let start : Appended (P ++ piece) piece base base at = record {
      whole = ap (λ (n : ℕ). n + length piece) (sym long) ∙ sym (length-append P piece);
      left = drop_at P piece at long;
      out_is = sym (ap₂ ◌++◌ (take_at P piece at long) (drop_at P Y at long));
      room = rw (length-append P piece, length-append P Y) (omega arith);
    } in
    all_there (P ++ piece) base (put_mid at (length base - at) base ys) (at + r)
    (one_piece (P ++ piece) piece base base at start piece [] ys r (sym (append-nil piece)) l is)
    ∙ ap (λ (l : List ℕ). P ++ piece ++ l) (sym (drop-drop r at base) ∙ ap (drop r) (drop_at P Y at long))

-- the numbers that the code puts first are the header's
pub front_spelled : (level : ℕ) (t : Setting) (n chunks needed mode bits : ℕ) (out : List ℕ) → chunks ≡ chunks_in n → needed ≡ need t → mode ≡ mode_number t → bits ≡ k_bits t
    → spell ((1 ∷ level ∷ needed ∷ t.width ∷ mode ∷ bits ∷ n ∷ chunks ∷ 48 ∷ (48 + 4 * chunks) ∷ 0 ∷ 0 ∷ []) ++ replicate (12 + chunks - 12) 0) ++ drop (4 * (12 + chunks)) out
    ≡ spell (header_numbers level t n 0 0 ++ replicate (chunks_in n) 0) ++ drop (48 + 4 * chunks_in n) out
unfolding header_numbers
front_spelled level t n chunks needed mode bits out counts needs says are =
    let all : 12 + chunks - 12 ≡ chunks = omega arith in
    let end : 4 * (12 + chunks) ≡ 48 + 4 * chunks = omega arith in
    rw (all, end, needs, says, are, counts)

-- where chunk j goes, and that there is room for it: `chunks` and `start` are those of the code
pub record Turn (t : Setting) (vs : List ℕ) (j start chunks room : ℕ) : Type 0 where
  pub place : 48 + 4 * chunks + start ≡ end_of t vs j
  pub table : 48 + 4 * j + 4 ≤ room
  pub next : start + length (piece_bytes t vs j) ≡ length (data_of t vs (j + 1))
  pub next_place : 48 + 4 * chunks + start + length (piece_bytes t vs j) ≡ end_of t vs (j + 1)
  pub fits : end_of t vs (j + 1) ≤ room
  pub small : end_of t vs (j + 1) < 2 ^ 24

pub turn : (t : Setting) (vs : List ℕ) (j start chunks room : ℕ) → known_width t.width ≡ true → Below (2 ^ t.width) vs → length vs ≤ 1048576
    → j < chunks_in (length vs) → start ≡ length (data_of t vs j) → chunks ≡ chunks_in (length vs)
    → end_of t vs (chunks_in (length vs)) ≤ room → Turn t vs j start chunks room
turn t vs j start chunks room known below few h starts counts enough =
    let place = ap₂ (λ (c s : ℕ). 48 + 4 * c + s) counts starts ∙ end_is t vs j in
    let next = data_next t vs j in
    let grows = end_grows t vs (j + 1) (chunks_in (length vs)) (omega arith) in
    record {
      place = place;
      table = omega (arith, end_is t vs (j + 1));
      next = omega arith;
      next_place = omega (arith, end_next t vs j);
      fits = omega arith;
      small = end_small t vs known below few (j + 1) (omega arith);
    }

module _ (level : ℕ) (t : Setting) (vs base : List ℕ) where
  -- how many chunks, the header before the end is known, and with that the front numbers up to chunk j
  abbrev chunks : ℕ
  chunks = chunks_in (length vs)

  abbrev front : ℕ → List ℕ
  front j = header_numbers level t (length vs) 0 0 ++ starts_of t vs j

  length_numbers : (j : ℕ) → j ≤ chunks → length (front j ++ replicate (chunks - j) 0) ≡ 12 + chunks
  length_numbers j h =
      length-append (front j) (replicate (chunks - j) 0) ∙ ap₂ ◌+◌ (length_front t vs level (length vs) 0 0 j) (length-replicate (chunks - j) 0)
      ∙ (let e : 12 + j + (chunks - j) ≡ 12 + chunks = omega arith in e)

  -- before the first chunk
  pub front_put : spell (header_numbers level t (length vs) 0 0 ++ replicate chunks 0) ++ drop (48 + 4 * chunks) base ≡ unfinished level t vs 0 base
  unfolding unfinished starts_of data_of joined
  front_put =
      ap₂ ◌++◌
      (ap spell
      (ap₂ (λ (l : List ℕ) (n : ℕ). l ++ replicate n 0) (sym (append-nil (header_numbers level t (length vs) 0 0)))
      (let e : chunks ≡ chunks - 0 = omega arith in e))
      ∙ sym (append-nil (spell (front 0 ++ replicate (chunks - 0) 0))))
      (ap (λ (n : ℕ). drop n base) (end_start t vs))

  module _ (j : ℕ) (h : j < chunks) where
    -- chunk j's start is in the table, and its bytes are still to come
    abbrev marked : List ℕ
    marked = spell (front (j + 1) ++ replicate (chunks - (j + 1)) 0) ++ data_of t vs j ++ drop (end_of t vs j) base

    numbers_next : front j ++ length (data_of t vs j) ∷ replicate (chunks - (j + 1)) 0 ≡ front (j + 1) ++ replicate (chunks - (j + 1)) 0
    unfolding starts_of joined
    numbers_next =
        sym
        (ap (λ (i : ℕ). front i ++ replicate (chunks - (j + 1)) 0) (add-one j)
        ∙ ap (λ (l : List ℕ). l ++ replicate (chunks - (j + 1)) 0)
        (sym (append_assoc (header_numbers level t (length vs) 0 0) (starts_of t vs j) (length (data_of t vs j) ∷ [])))
        ∙ append_snoc (front j) (length (data_of t vs j)) (replicate (chunks - (j + 1)) 0))

    pub start_put : (at n : ℕ) (out : List ℕ) → at ≡ 48 + 4 * j → n ≡ length (data_of t vs j) → out ≡ unfinished level t vs j base
        → take at out ++ digits 256 4 n ++ drop (at + 4) out ≡ marked
    unfolding unfinished
    start_put at n out e is out_is =
        let zeros : List ℕ = replicate (chunks - (j + 1)) 0 in
        let behind = data_of t vs j ++ drop (end_of t vs j) base in
        ap (λ (l : List ℕ). take at l ++ digits 256 4 n ++ drop (at + 4) l)
        (out_is
        ∙ append_assoc (spell (front j ++ replicate (chunks - j) 0)) (data_of t vs j) (drop (end_of t vs j) base)
        ∙ ap (λ (m : ℕ). spell (front j ++ replicate m 0) ++ behind) (let q : chunks - j ≡ suc (chunks - (j + 1)) = omega arith in q))
        ∙ spell_put (front j) zeros behind at (e ∙ (let q : 48 + 4 * j ≡ 4 * length (front j) = omega (arith, length_front t vs level (length vs) 0 0 j) in q)) 0 n
        ∙ ap (λ (l : List ℕ). spell l ++ behind) (ap (λ (m : ℕ). front j ++ m ∷ zeros) is ∙ numbers_next)
        ∙ sym (append_assoc (spell (front (j + 1) ++ zeros)) (data_of t vs j) (drop (end_of t vs j) base))

    length_marked : length (spell (front (j + 1) ++ replicate (chunks - (j + 1)) 0) ++ data_of t vs j) ≡ end_of t vs j
    unfolding end_of
    length_marked =
        length-append (spell (front (j + 1) ++ replicate (chunks - (j + 1)) 0)) (data_of t vs j)
        ∙ ap (λ (n : ℕ). n + length (data_of t vs j))
        (length_spell (front (j + 1) ++ replicate (chunks - (j + 1)) 0) ∙ ap (λ (n : ℕ). 4 * n) (length_numbers (j + 1) (omega arith))
        ∙ (let e : 4 * (12 + chunks) ≡ 48 + 4 * chunks = omega arith in e))

    -- its bytes, written into the part behind the chunks before it
    pub chunk_put : (mid bytes ys : List ℕ) (at r : ℕ) → mid ≡ marked → bytes ≡ piece_bytes t vs j → at ≡ end_of t vs j
        → end_of t vs (j + 1) ≤ length mid → r ≡ length bytes → ys ≡ bytes ++ drop r (take (length mid - at) (drop at mid))
        → put_mid at (length mid - at) mid ys ≡ unfinished level t vs (j + 1) base
    unfolding unfinished data_of joined
    chunk_put mid bytes ys at r mid-is bytes_are at-is room is ys-is =
        let numbers = front (j + 1) ++ replicate (chunks - (j + 1)) 0 in
        let before = spell numbers ++ data_of t vs j in
        let behind = drop (end_of t vs j) base in
        let long = length_marked ∙ sym at-is in
        let whole = ap length mid-is ∙ length-append before behind in
        let more = end_next t vs j ∙ ap (λ (l : List ℕ). end_of t vs j + length l) (sym bytes_are) in
        ap (λ (m : List ℕ). put_mid at (length m - at) m ys) mid-is
        ∙ piece_put before behind bytes ys at r long (omega arith) is
        (ys-is ∙ ap (λ (m : List ℕ). bytes ++ drop r (take (length m - at) (drop at m))) mid-is)
        ∙ ap₂ ◌++◌
        (append_assoc (spell numbers) (data_of t vs j) bytes
        ∙ ap (λ (l : List ℕ). spell numbers ++ (data_of t vs j ++ l)) bytes_are
        ∙ ap (λ (i : ℕ). spell numbers ++ data_of t vs i) (sym (add-one j)))
        (drop-drop r (end_of t vs j) base
        ∙ ap (λ (n : ℕ). drop n base) (let q : end_of t vs j + r ≡ end_of t vs (j + 1) = omega arith in q))

  -- behind the last chunk the end of data makes it the stream
  pub end_put : (end : ℕ) (out : List ℕ) → end ≡ end_of t vs chunks → out ≡ unfinished level t vs chunks base
      → take 44 out ++ digits 256 4 end ++ drop (44 + 4) out ≡ stream level t vs ++ drop end base
  unfolding unfinished stream body header_numbers
  end_put end out is out_is =
      let starts = starts_of t vs chunks in
      let zeros : List ℕ = replicate (chunks - chunks) 0 in
      let behind = data_of t vs chunks ++ drop (end_of t vs chunks) base in
      let known : List ℕ = 1 ∷ level ∷ need t ∷ t.width ∷ mode_number t ∷ k_bits t ∷ length vs ∷ chunks ∷ 48 ∷ (48 + 4 * chunks) ∷ 0 ∷ [] in
      ap (λ (l : List ℕ). take 44 l ++ digits 256 4 end ++ drop 48 l)
      (out_is ∙ append_assoc (spell (front chunks ++ zeros)) (data_of t vs chunks) (drop (end_of t vs chunks) base))
      ∙ spell_put known (starts ++ zeros) behind 44 refl 0 end
      ∙ ap (λ (l : List ℕ). spell (known ++ end ∷ l) ++ behind)
      (ap (λ (n : ℕ). starts ++ replicate n 0) (let e : chunks - chunks ≡ 0 = omega arith in e) ∙ append-nil starts)
      ∙ sym (append_assoc (spell (known ++ end ∷ starts)) (data_of t vs chunks) (drop (end_of t vs chunks) base))
      ∙ ap₂ (λ (e n : ℕ). spell (known ++ e ∷ starts) ++ data_of t vs chunks ++ drop n base) is (sym is)
