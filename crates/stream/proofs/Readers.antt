-- What is demanded of reading, as theorems about the promises: `check_answer`, `unpack_answer`, `unpack_out` and `probe_answer32` (64) are what
-- the operations are proved to answer and to leave in the output.
use mathlib.Core.Path.{◌≡◌, refl, sym, ap, ◌∙◌}
use mathlib.Core.Logic.{◌⊎◌, ◌↔◌}
use mathlib.Core.Bool.{true}
use mathlib.Core.List.{List, [], ◌∷◌, ◌++◌}
use Prim.Native.Nat.{ℕ, ◌+◌, ◌-◌, ◌/◌, ◌≤◌, ◌<◌}
use native.Mathlib.Omega.{arith}
use lib.ListN.{length, drop, set, get_or, replicate, get_or-append}
use lib.Seq.{get_or-append-add, get_or-drop}
use Rattle.stream.specs.Setting.{known_level}
use Rattle.stream.specs.Header.{header_of, k_of, said_mode, said_size}
use Rattle.stream.specs.Stream.{values, value_at}
use Rattle.stream.specs.Tables.{ids_in}
use Rattle.stream.specs.Rows.{Row, first, Decides, numbers_of, answer, after}
use Rattle.stream.specs.Probe.{shown32, shown64}
use Rattle.stream.specs.Operations.{header_rows, opening_rows, need_row, side_rows, table_rows, chunk_row, chunk_rows, content_rows, width_row, room_row, index_row, own_rows, check_rows, check_answer, unpack_rows, unpack_answer, unpack_out, probe_rows, probe_answer32, probe_answer64}
use Rattle.stream.specs.Theorem.{refusals, RefusalTable, Apart, InChunk}
use Rattle.std.specs.Prelude.{⊤, Result, Ok, Err}
use Rattle.stream.specs.declared.answers.Refusal.{Refusal}
use Rattle.stream.proofs.Law.Values.OtherChunks.{byte_apart, probe_same, value_same}
use Rattle.stream.proofs.Law.Header.Layout.{laid_out}
use Rattle.stream.proofs.Law.Setting.Allowed.{mode_allowed, mode_small, settled}
use Rattle.stream.proofs.Law.Setting.Exponent.{said_cases}
use Rattle.stream.proofs.Law.Rows.First.{decides, decided, done_pass, refused_stop}
use Rattle.stream.proofs.Law.Rows.Ids.{id_numbers, length_ids}
use Rattle.stream.proofs.Law.Rows.Chunks.{chunk_numbers, own_number}
use Rattle.stream.proofs.Law.Rows.Passed.{opening, tables, checking, unpacking}
use Rattle.stream.proofs.Law.Values.ThreeReaders.{unpack_check, counted, probe_passes, probe_value, higher_check, higher_unpack, higher_probe}

-- ---- what a refusal tells: its number and its detail

pub the_refusal_table : RefusalTable
unfolding refusals
the_refusal_table = record { numbers = λ needed minor place id. refl; details = λ needed minor place id. refl }

-- ---- a refusal is the first row that is given: "given exactly when"

pub refused_check : (level : ℕ) (s : List ℕ) (refusal : Refusal) → check_answer level s ≡ Err refusal ↔ Decides (check_rows level s) refusal
unfolding check_answer answer
refused_check level s refusal = (
  λ e. decides (check_rows level s) refusal (refused_stop (first (check_rows level s)) (header_of s).count refusal e),
  λ d. ap (λ (a : Result ⊤ Refusal). answer a (header_of s).count) (decided (check_rows level s) refusal d),
)

pub refused_unpack : (W level : ℕ) (s : List ℕ) (room : ℕ) (refusal : Refusal) → unpack_answer W level s room ≡ Err refusal ↔ Decides (unpack_rows W level s room) refusal
unfolding unpack_answer answer
refused_unpack W level s room refusal = (
  λ e. decides (unpack_rows W level s room) refusal (refused_stop (first (unpack_rows W level s room)) (header_of s).count refusal e),
  λ d. ap (λ (a : Result ⊤ Refusal). answer a (header_of s).count) (decided (unpack_rows W level s room) refusal d),
)

pub refused_probe32 : (level : ℕ) (s : List ℕ) (i : ℕ) (refusal : Refusal) → probe_answer32 level s i ≡ Err refusal ↔ Decides (probe_rows 32 level s i) refusal
unfolding probe_answer32 answer
refused_probe32 level s i refusal = (
  λ e. decides (probe_rows 32 level s i) refusal (refused_stop (first (probe_rows 32 level s i)) (shown32 (value_at s i)) refusal e),
  λ d. ap (λ (a : Result ⊤ Refusal). answer a (shown32 (value_at s i))) (decided (probe_rows 32 level s i) refusal d),
)

pub refused_probe64 : (level : ℕ) (s : List ℕ) (i : ℕ) (refusal : Refusal) → probe_answer64 level s i ≡ Err refusal ↔ Decides (probe_rows 64 level s i) refusal
unfolding probe_answer64 answer
refused_probe64 level s i refusal = (
  λ e. decides (probe_rows 64 level s i) refusal (refused_stop (first (probe_rows 64 level s i)) (shown64 (value_at s i)) refusal e),
  λ d. ap (λ (a : Result ⊤ Refusal). answer a (shown64 (value_at s i))) (decided (probe_rows 64 level s i) refusal d),
)

-- ---- the stated order: check 1 5 6 7 8 9 8 15 10, unpack 1 5 6 7 8 14 4 9 8 15 10, probe 1 5 6 7 8 14 11 9 8 15 10, with a row 15 for each side
-- part and a row 10 for each chunk

-- 9 8 15 and what comes behind
table_order : (s : List ℕ) (rows : List Row) → numbers_of (table_rows (header_of s) s ++ rows) ≡ 9 ∷ 8 ∷ (replicate (header_of s).sides 15 ++ numbers_of rows)
unfolding table_rows side_rows need_row numbers_of
table_order s rows =
    ap (λ (l : List ℕ). 9 ∷ 8 ∷ l)
    (id_numbers (ids_in (header_of s) s) rows ∙ ap (λ (n : ℕ). replicate n 15 ++ numbers_of rows) (length_ids (header_of s) s))

content_order : (s : List ℕ) → numbers_of (content_rows (header_of s) s) ≡ 9 ∷ 8 ∷ (replicate (header_of s).sides 15 ++ replicate (header_of s).chunks 10)
unfolding content_rows
content_order s =
    table_order s (chunk_rows (header_of s) s) ∙ ap (λ (l : List ℕ). 9 ∷ 8 ∷ (replicate (header_of s).sides 15 ++ l)) (chunk_numbers (header_of s) s)

pub check_order : (level : ℕ) (s : List ℕ)
    → numbers_of (check_rows level s) ≡ 1 ∷ 5 ∷ 6 ∷ 7 ∷ 8 ∷ 9 ∷ 8 ∷ (replicate (header_of s).sides 15 ++ replicate (header_of s).chunks 10)
unfolding check_rows opening_rows header_rows numbers_of
check_order level s = ap (λ (l : List ℕ). 1 ∷ 5 ∷ 6 ∷ 7 ∷ 8 ∷ l) (content_order s)

pub unpack_order : (W level : ℕ) (s : List ℕ) (room : ℕ)
    → numbers_of (unpack_rows W level s room) ≡ 1 ∷ 5 ∷ 6 ∷ 7 ∷ 8 ∷ 14 ∷ 4 ∷ 9 ∷ 8 ∷ (replicate (header_of s).sides 15 ++ replicate (header_of s).chunks 10)
unfolding unpack_rows opening_rows header_rows width_row room_row numbers_of
unpack_order W level s room = ap (λ (l : List ℕ). 1 ∷ 5 ∷ 6 ∷ 7 ∷ 8 ∷ 14 ∷ 4 ∷ l) (content_order s)

pub probe_order : (W level : ℕ) (s : List ℕ) (i : ℕ)
    → numbers_of (probe_rows W level s i) ≡ 1 ∷ 5 ∷ 6 ∷ 7 ∷ 8 ∷ 14 ∷ 11 ∷ 9 ∷ 8 ∷ (replicate (header_of s).sides 15 ++ (10 ∷ []))
unfolding probe_rows opening_rows header_rows width_row index_row own_rows numbers_of
probe_order W level s i =
    ap (λ (l : List ℕ). 1 ∷ 5 ∷ 6 ∷ 7 ∷ 8 ∷ 14 ∷ 11 ∷ l)
    (table_order s (chunk_row (header_of s) s (i / 1024) ∷ []) ∙ ap (λ (l : List ℕ). 9 ∷ 8 ∷ (replicate (header_of s).sides 15 ++ l)) (own_number (header_of s) s (i / 1024)))

-- ---- unpack's output

-- A refused unpack leaves its output as it was.
pub refused_untouched : (W level : ℕ) (s out : List ℕ) (refusal : Refusal)
    → unpack_answer W level s (length out) ≡ Err refusal → unpack_out W level s out ≡ out
unfolding unpack_answer unpack_out after
refused_untouched W level s out refusal e =
    rw (refused_stop (first (unpack_rows W level s (length out))) (header_of s).count refusal e)

-- what an accepted unpack leaves
accepted_out : (W level : ℕ) (s out : List ℕ) (n : ℕ) → unpack_answer W level s (length out) ≡ Ok n
    → (first (unpack_rows W level s (length out)) ≡ Ok tt) × ((header_of s).count ≡ n) × (unpack_out W level s out ≡ values s ++ drop n out)
unfolding unpack_answer unpack_out after
accepted_out W level s out n e =
    let d = done_pass (first (unpack_rows W level s (length out))) (header_of s).count n e in
    (d.0, d.1, rw (d.0, d.1))

-- An accepted unpack has written n values, those of the stream.
pub written_values : (W level : ℕ) (s out : List ℕ) (n : ℕ) → unpack_answer W level s (length out) ≡ Ok n
    → (length (values s) ≡ n) × ((i : ℕ) → i < n → get_or (unpack_out W level s out) i 0 ≡ get_or (values s) i 0)
written_values W level s out n e =
    let a = accepted_out W level s out n e in
    let l = counted W level s (length out) a.0 ∙ a.1 in
    (l, λ i b. ap (λ (o : List ℕ). get_or o i 0) a.2 ∙ get_or-append (values s) (drop n out) 0 i (omega arith))

-- "past n .. nothing is altered"
pub past_n_untouched : (W level : ℕ) (s out : List ℕ) (n : ℕ) → unpack_answer W level s (length out) ≡ Ok n
    → (i : ℕ) → n ≤ i → get_or (unpack_out W level s out) i 0 ≡ get_or out i 0
past_n_untouched W level s out n e i b =
    let a = accepted_out W level s out n e in
    let l = counted W level s (length out) a.0 ∙ a.1 in
    let at : length (values s) + (i - n) ≡ i = omega arith in
    let back : n + (i - n) ≡ i = omega arith in
    ap (λ (o : List ℕ). get_or o i 0) a.2
    ∙ sym (ap (λ (k : ℕ). get_or (values s ++ drop n out) k 0) at)
    ∙ get_or-append-add (values s) (drop n out) (i - n) 0
    ∙ get_or-drop n out (i - n) 0
    ∙ ap (λ (k : ℕ). get_or out k 0) back

-- ---- check

-- Check answers what unpack answers, of the stream's own width and with room for its values: it accepts exactly the same streams.
pub check_as_unpack : (level : ℕ) (s : List ℕ) (room : ℕ) → (header_of s).count ≤ room → check_answer level s ≡ unpack_answer (header_of s).width level s room
unfolding check_answer unpack_answer
check_as_unpack level s room l = ap (λ (a : Result ⊤ Refusal). answer a (header_of s).count) (sym (unpack_check level s room l))

-- What check accepts says one of six mode numbers: 0, 1 and 2, or 256 more.
pub accepted_mode : (level : ℕ) (s : List ℕ) (n : ℕ) → check_answer level s ≡ Ok n → ((header_of s).mode ≤ 2) ⊎ ((256 ≤ (header_of s).mode) × ((header_of s).mode ≤ 258))
unfolding check_answer
accepted_mode level s n e =
    let h = header_of s in
    let right = (checking level s (done_pass (first (check_rows level s)) h.count n e).0).0.setting in
    let modes = mode_allowed h.width (said_mode h.mode) (k_of h) (said_size h.mode) (settled h right).allowed in
    said_cases h.mode (mode_small h.width (said_mode h.mode) (k_of h) modes)

-- Unpack accepts streams of its own width alone ..
pub accepted_width : (W level : ℕ) (s out : List ℕ) (n : ℕ) → unpack_answer W level s (length out) ≡ Ok n → (header_of s).width ≡ W
accepted_width W level s out n e = (unpacking W level s (length out) (accepted_out W level s out n e).0).width

-- .. and what it accepts, check accepts with the same n.
pub unpack_as_check : (W level : ℕ) (s out : List ℕ) (n : ℕ) → unpack_answer W level s (length out) ≡ Ok n → check_answer level s ≡ Ok n
unpack_as_check W level s out n e =
    let u = unpacking W level s (length out) (accepted_out W level s out n e).0 in
    check_as_unpack level s (length out) u.enough ∙ ap (λ (w : ℕ). unpack_answer w level s (length out)) u.width ∙ e

-- ---- probe

probe_steps : (W level : ℕ) (s out : List ℕ) (n i : ℕ) → unpack_answer W level s (length out) ≡ Ok n → i < n
    → (first (probe_rows W level s i) ≡ Ok tt) × (value_at s i ≡ get_or (unpack_out W level s out) i 0)
probe_steps W level s out n i e b =
    let a = accepted_out W level s out n e in
    let below : i < (header_of s).count = omega (arith, a.1) in (
      probe_passes W level s (length out) a.0 i below,
      sym ((written_values W level s out n e).1 i b ∙ probe_value W level s (length out) a.0 i below),
    )

-- Probe shows, at each index, the value that unpack writes there.
pub probe_as_unpack32 : (level : ℕ) (s out : List ℕ) (n i : ℕ) → unpack_answer 32 level s (length out) ≡ Ok n → i < n
    → probe_answer32 level s i ≡ Ok (shown32 (get_or (unpack_out 32 level s out) i 0))
unfolding probe_answer32 answer
probe_as_unpack32 level s out n i e b = let p = probe_steps 32 level s out n i e b in rw p.0 (ap (λ (v : ℕ). Ok (shown32 v)) p.1)

pub probe_as_unpack64 : (level : ℕ) (s out : List ℕ) (n i : ℕ) → unpack_answer 64 level s (length out) ≡ Ok n → i < n
    → probe_answer64 level s i ≡ Ok (shown64 (get_or (unpack_out 64 level s out) i 0))
unfolding probe_answer64 answer
probe_as_unpack64 level s out n i e b = let p = probe_steps 64 level s out n i e b in rw p.0 (ap (λ (v : ℕ). Ok (shown64 v)) p.1)

-- "so no other chunk's bytes touch its answer"
pub probe_apart32 : (level : ℕ) (s t : List ℕ) (i : ℕ) → Apart (i / 1024) s t → probe_answer32 level s i ≡ probe_answer32 level t i
unfolding probe_answer32
probe_apart32 level s t i apart = rw (probe_same s t i apart 32 level, value_same s t i apart)

pub probe_apart64 : (level : ℕ) (s t : List ℕ) (i : ℕ) → Apart (i / 1024) s t → probe_answer64 level s i ≡ probe_answer64 level t i
unfolding probe_answer64
probe_apart64 level s t i apart = rw (probe_same s t i apart 64 level, value_same s t i apart)

-- The same of one byte, wherever header and tables are right: a byte of another chunk's data may be any other.
byte_elsewhere : (level : ℕ) (s : List ℕ) → first (opening_rows level s) ≡ Ok tt → first (table_rows (header_of s) s) ≡ Ok tt
    → (i : ℕ) → i < (header_of s).count → (j p b : ℕ) → InChunk s j p → (j ≡ i / 1024 → ⊥) → Apart (i / 1024) s (set s p b)
byte_elsewhere level s e t i below j p b inside other =
    let l = laid_out (length s) (header_of s) (opening level s e).layout in
    byte_apart s l (tables (header_of s) s t).chunks j (i / 1024) p b inside (omega arith) other

pub probe_other_byte32 : (level : ℕ) (s : List ℕ) → first (opening_rows level s) ≡ Ok tt → first (table_rows (header_of s) s) ≡ Ok tt
    → (i : ℕ) → i < (header_of s).count → (j p b : ℕ) → InChunk s j p → (j ≡ i / 1024 → ⊥) → probe_answer32 level (set s p b) i ≡ probe_answer32 level s i
probe_other_byte32 level s e t i below j p b inside other =
    sym (probe_apart32 level s (set s p b) i (byte_elsewhere level s e t i below j p b inside other))

pub probe_other_byte64 : (level : ℕ) (s : List ℕ) → first (opening_rows level s) ≡ Ok tt → first (table_rows (header_of s) s) ≡ Ok tt
    → (i : ℕ) → i < (header_of s).count → (j p b : ℕ) → InChunk s j p → (j ≡ i / 1024 → ⊥) → probe_answer64 level (set s p b) i ≡ probe_answer64 level s i
probe_other_byte64 level s e t i below j p b inside other =
    sym (probe_apart64 level s (set s p b) i (byte_elsewhere level s e t i below j p b inside other))

-- ---- levels: bytes that one level accepts are accepted by each higher one, with the same values

module _ (level level' : ℕ) (s : List ℕ) (higher : level ≤ level') (known : known_level level' ≡ true) where
  pub check_higher : (n : ℕ) → check_answer level s ≡ Ok n → check_answer level' s ≡ Ok n
  unfolding check_answer answer
  check_higher n e =
      let d = done_pass (first (check_rows level s)) (header_of s).count n e in
      rw (higher_check level level' s higher known d.0) (ap Ok d.1)

  pub unpack_higher : (W : ℕ) (out : List ℕ) (n : ℕ) → unpack_answer W level s (length out) ≡ Ok n
      → (unpack_answer W level' s (length out) ≡ Ok n) × (unpack_out W level' s out ≡ unpack_out W level s out)
  unfolding unpack_answer unpack_out answer after
  unpack_higher W out n e =
      let d = done_pass (first (unpack_rows W level s (length out))) (header_of s).count n e in
      let p = higher_unpack level level' s higher known W (length out) d.0 in
      (rw p (ap Ok d.1), rw (p, d.0))

  pub probe_higher32 : (i p : ℕ) → probe_answer32 level s i ≡ Ok (shown32 p) → probe_answer32 level' s i ≡ Ok (shown32 p)
  unfolding probe_answer32
  probe_higher32 i p e =
      let passes = (done_pass (first (probe_rows 32 level s i)) (shown32 (value_at s i)) (shown32 p) e).0 in
      rw (higher_probe level level' s higher known 32 i passes) (rw passes at e)

  pub probe_higher64 : (i p : ℕ) → probe_answer64 level s i ≡ Ok (shown64 p) → probe_answer64 level' s i ≡ Ok (shown64 p)
  unfolding probe_answer64
  probe_higher64 i p e =
      let passes = (done_pass (first (probe_rows 64 level s i)) (shown64 (value_at s i)) (shown64 p) e).0 in
      rw (higher_probe level level' s higher known 64 i passes) (rw passes at e)
