-- The three demands, to be read aloud. proofs/Demands.antt proves them: `demand_1 : Demand1`, `demand_2 : Demand2`, `demand_3 : Demand3`; and what
-- document 02 adds: to the third, `not_skipped : NotSkipped`, and to the operations, `summary_beside : SummaryBeside`.
-- They speak of what the operations answer and leave: `pack_answer` and `pack_out` of specs/Operations.antt in the crate `stream`, and their
-- like. The promise of each operation is an equation with these; C gets the answer as one number, of which nothing is cut (`Spelled`, and `Uncut`
-- for probe and the number rules), and a pattern or a code in what it lent.
-- W is a width, 32 or 64; `group` a group size, 32 or 128; vs a list of values, patterns of W bits; s any bytes; `level` is the writer's level and L the
-- reader's.
use Rattle.std.specs.Prelude.{◌≡◌, ◌⊎◌, ◌↔◌, Bool, true, false, cond, List, [], ◌∷◌, ◌++◌, ℕ, suc, ◌+◌, ◌-◌, ◌*◌, ◌/◌, ◌%◌, ◌^◌, ◌≤◌, ◌<◌, max, ℤ, pos, length, take, drop, get_or, replicate, Some, None, Ok, Err}
use Rattle.std.specs.Float.Ieee.{of_bits}
use Rattle.std.specs.Float.{nan}
use Rattle.bins.specs.Tolerance.{allowed_k, bin_of, sign, ordinal, magnitude, threshold, threshold_ordinal, tolerance_code, tolerance_restored, largest_u}
use Rattle.numbers.specs.Lossless.{lossless_code, lossless_restored}
use Rattle.numbers.specs.Difference.{difference_codes, running_sums}
use Rattle.numbers.specs.Answers.{code_answer, code_number, pattern_answer, pattern_number}
use Rattle.numbers.specs.Bound.{bound_answer, bound_number, bound_detail}
use Rattle.numbers.specs.Theorem.{Reads, Nearest, Returned, BoundFor}
use Rattle.numbers.specs.declared.bound.BoundError.TheVariants.{UnknownWidth}
use Rattle.numbers.specs.declared.tolerance.PatternError.TheVariants.{NotAllowed, AboveLargest}
use Rattle.blocks.specs.Bytes.{Below}
use Rattle.stream.specs.Setting.{known_level, known_width, fraction_bits, lossless_mode, allowed_setting, setting_of, halves_at, setting_at, need, stream_need}
use Rattle.stream.specs.Rows.{Decides, numbers_of}
use Rattle.stream.specs.Header.{header_of, chunks_in}
use Rattle.stream.specs.Tables.{side_id, side_place, side_length, ids_in, high_id, some_high, first_high}
use Rattle.stream.specs.Stream.{values}
use Rattle.stream.specs.Writing.{stream, Side, placed, add_sides, ids_of, WellFormedSides}
use Rattle.stream.specs.Probe.{shown32, shown64}
use Rattle.stream.specs.Operations.{check_rows, check_answer, unpack_rows, unpack_answer, unpack_out, probe_rows, probe_answer32, probe_answer64, length_rows, length_answer, pack_rows, pack_answer, pack_out}
use Rattle.stream.specs.Theorem.{RefusalTable, TooNew, RefusedBy, RefusedByAll}
use Rattle.std.specs.Prelude.{Ok, Err}
use Rattle.stream.specs.declared.answers.Refusal.{Refusal}
use Rattle.stream.specs.declared.answers.Refusal.TheVariants.{NotAllowed, NoRoom, NeedsMinor, BrokenHeader, MustBeUnderstood, HasSideParts, NoTrueSummary}
use Rattle.summary.specs.Summary.{with_summary}
use Rattle.summary.specs.Operations.{add_rows, add_answer, add_out, test_rows, test_answer, list_rows, list_answer, list_out}
use Rattle.summary.specs.Theorem.{counted, ReadAs, TrueSummary, Says, format_of, HoldsSome}
use Rattle.gwizdorad_numbers.specs.Result.{code_out, pattern_out}
use Rattle.gwizdorad.specs.Result.{probe_out32, probe_out64}

-- ---- Demand 1: "Every entry point takes every input, ends, and touches nothing outside what it was lent." That is what the check of each
-- function says, and that no entry point has a `requires`: these are the public functions of `numbers`, `stream`, `summary` and the two crates for C.
-- (`words`, `bins` and `blocks` are inner libraries, which no user reaches. `one_chunk` and `sides` of `stream` are total too, but no operations: they serve the libraries
-- above, which have made a check before, look at no level and at no id, and are meant nowhere below where a reader is spoken of.) "Bad input gets one refusal, the first in the stated order, with its stated
-- detail. A refused call changes nothing it was lent." Of an operation's rows the refusal is the one that `Decides`: it is given, and none
-- before it. Its number is `number_of`, its detail `detail_of` (specs/Rows.antt): those that the table states, `RefusalTable`.

-- Pack: 1 2 3 4. Length: 1 2 3. Check: 1 5 6 7 8 9 8 15 10. Unpack: 1 5 6 7 8 14 4 9 8 15 10. Probe: 1 5 6 7 8 14 11 9 8 15 10. These are document 01's,
-- with the rows of document 02, R-4: 15 "after 9 and after that late use of 8, before 10". 15 stands once for each side part, 10 once for each
-- chunk, in probe for its own. Document 02, R-5: add 1 5 6 7 8 9 8 15 10 16 4, test 1 5 6 7 8 9 8 15 10 17, list 1 2 5 6 7 8 14 9 8 15 10 17 4.
pub record StatedOrder : Type 0 where
  pub pack : (W level mode : ℕ) (k : ℤ) (group : ℕ) (vs : List ℕ) (room : ℕ) → numbers_of (pack_rows W level mode k group vs room) ≡ 1 ∷ 2 ∷ 3 ∷ 4 ∷ []
  pub length_of : (W level mode : ℕ) (k : ℤ) (group : ℕ) (n : ℕ) → numbers_of (length_rows W level mode k group n) ≡ 1 ∷ 2 ∷ 3 ∷ []
  pub check : (L : ℕ) (s : List ℕ)
      → numbers_of (check_rows L s) ≡ 1 ∷ 5 ∷ 6 ∷ 7 ∷ 8 ∷ 9 ∷ 8 ∷ (replicate (header_of s).sides 15 ++ replicate (header_of s).chunks 10)
  pub unpack : (W L : ℕ) (s : List ℕ) (room : ℕ)
      → numbers_of (unpack_rows W L s room) ≡ 1 ∷ 5 ∷ 6 ∷ 7 ∷ 8 ∷ 14 ∷ 4 ∷ 9 ∷ 8 ∷ (replicate (header_of s).sides 15 ++ replicate (header_of s).chunks 10)
  pub probe : (W L : ℕ) (s : List ℕ) (i : ℕ)
      → numbers_of (probe_rows W L s i) ≡ 1 ∷ 5 ∷ 6 ∷ 7 ∷ 8 ∷ 14 ∷ 11 ∷ 9 ∷ 8 ∷ (replicate (header_of s).sides 15 ++ (10 ∷ []))
  pub add : (L : ℕ) (s : List ℕ) (room : ℕ)
      → numbers_of (add_rows L s room) ≡ 1 ∷ 5 ∷ 6 ∷ 7 ∷ 8 ∷ 9 ∷ 8 ∷ (replicate (header_of s).sides 15 ++ replicate (header_of s).chunks 10 ++ (16 ∷ 4 ∷ []))
  pub test : (L : ℕ) (s : List ℕ)
      → numbers_of (test_rows L s) ≡ 1 ∷ 5 ∷ 6 ∷ 7 ∷ 8 ∷ 9 ∷ 8 ∷ (replicate (header_of s).sides 15 ++ replicate (header_of s).chunks 10 ++ (17 ∷ []))
  pub list : (W L x : ℕ) (s : List ℕ) (room : ℕ)
      → numbers_of (list_rows W L x s room)
      ≡ 1 ∷ 2 ∷ 5 ∷ 6 ∷ 7 ∷ 8 ∷ 14 ∷ 9 ∷ 8 ∷ (replicate (header_of s).sides 15 ++ replicate (header_of s).chunks 10 ++ (17 ∷ 4 ∷ []))

pub record Demand1 : Type 0 where
  pub order : StatedOrder
  pub table : RefusalTable
  -- the values vs, packed into `out`
  pub pack : (W level mode : ℕ) (k : ℤ) (group : ℕ) (vs out : List ℕ) (refusal : Refusal)
      → (pack_answer W level mode k group vs (length out) ≡ Err refusal ↔ Decides (pack_rows W level mode k group vs (length out)) refusal)
      × (pack_answer W level mode k group vs (length out) ≡ Err refusal → pack_out W level mode k group vs out ≡ out)
  pub length_of : (W level mode : ℕ) (k : ℤ) (group : ℕ) (vs : List ℕ) (refusal : Refusal)
      → length_answer W level mode k group vs ≡ Err refusal ↔ Decides (length_rows W level mode k group (length vs)) refusal
  pub check : (L : ℕ) (s : List ℕ) (refusal : Refusal) → check_answer L s ≡ Err refusal ↔ Decides (check_rows L s) refusal
  pub unpack : (W L : ℕ) (s out : List ℕ) (refusal : Refusal)
      → (unpack_answer W L s (length out) ≡ Err refusal ↔ Decides (unpack_rows W L s (length out)) refusal)
      × (unpack_answer W L s (length out) ≡ Err refusal → unpack_out W L s out ≡ out)
  -- probe is lent one pattern, which was `old`
  pub probe32 : (L : ℕ) (s : List ℕ) (i old : ℕ) (refusal : Refusal)
      → (probe_answer32 L s i ≡ Err refusal ↔ Decides (probe_rows 32 L s i) refusal)
      × (probe_answer32 L s i ≡ Err refusal → probe_out32 (probe_answer32 L s i) old ≡ old)
  pub probe64 : (L : ℕ) (s : List ℕ) (i old : ℕ) (refusal : Refusal)
      → (probe_answer64 L s i ≡ Err refusal ↔ Decides (probe_rows 64 L s i) refusal)
      × (probe_answer64 L s i ≡ Err refusal → probe_out64 (probe_answer64 L s i) old ≡ old)
  -- the summary: added into `out`, tested, and the chunks from x on listed into `out`
  pub add : (L : ℕ) (s out : List ℕ) (refusal : Refusal)
      → (add_answer L s (length out) ≡ Err refusal ↔ Decides (add_rows L s (length out)) refusal)
      × (add_answer L s (length out) ≡ Err refusal → add_out L s out ≡ out)
  pub test : (L : ℕ) (s : List ℕ) (refusal : Refusal) → test_answer L s ≡ Err refusal ↔ Decides (test_rows L s) refusal
  pub list : (W L x : ℕ) (s out : List ℕ) (refusal : Refusal)
      → (list_answer W L x s (length out) ≡ Err refusal ↔ Decides (list_rows W L x s (length out)) refusal)
      × (list_answer W L x s (length out) ≡ Err refusal → list_out W L x s out ≡ out)
  -- the number rules, whose details are 0. "Bound: 2 12 13": 2 for a width that is not known; when 12 and 13 are given is part of demand 2.
  -- A code: 2 for a rule for halves that is not known and for a k that is not allowed. The way back: 2 for such a k, then 10 for a u above the largest.
  pub bound : (W t : ℕ) → (known_width W ≡ false → bound_answer W t ≡ Err UnknownWidth)
      × ((bound_number (bound_answer W t) ≡ 0 → ⊥) → bound_detail (bound_answer W t) ≡ pos 0)
  pub code : (W m halves : ℕ) (k : ℤ) (p old : ℕ) → (code_answer W m halves k p ≡ None ↔ (1 < halves) ⊎ (allowed_k W m k ≡ false))
      × ((code_number (code_answer W m halves k p) ≡ 0 → ⊥) → code_out (code_answer W m halves k p) old ≡ old)
  pub pattern : (W m : ℕ) (k : ℤ) (c old : ℕ) → (pattern_answer W m k c ≡ Err NotAllowed ↔ allowed_k W m k ≡ false)
      × (pattern_answer W m k c ≡ Err AboveLargest ↔ (allowed_k W m k ≡ true) × (largest_u W m (bin_of W m k) < c / 2))
      × ((pattern_number (pattern_answer W m k c) ≡ 0 → ⊥) → pattern_out (pattern_answer W m k c) old ≡ old)

-- ---- Demand 2: "Codes and streams are those of IEEE 754, the published SLEEK rules and document 01. Lossless packing restores every bit
-- pattern. Under tolerance 2^k, a value whose magnitude is below the threshold returns at most 2^k off, exactly; all else returns bit for bit,
-- infinities and not-a-numbers too." (That the codes are SLEEK's is computed, on its Table II and on the values that document 01 marks:
-- `sleek_known`, `marked_values`. Where SLEEK and document 01 differ, document 01 holds.)

-- How a pattern p comes back as q: in the modes 0 and 2, which `lossless_mode` names, as itself. `Returned` is the tolerance in the words of IEEE 754. It
-- counts in units of 2^-149 or 2^-1074, where the bin E = 2^(k+1) is 2 ^ bin_of: twice the distance is at most E, so the distance is at most 2^k.
pub record ComesBack (W mode : ℕ) (k : ℤ) (p q : ℕ) : Type 0 where
  pub lossless : lossless_mode mode ≡ true → q ≡ p
  pub within : mode ≡ 1 → Returned (format_of W) (bin_of W (fraction_bits W) k) p q

-- s is the bytes b, or b with well-formed side parts added, none of them with a high id: document 02, R-4, "gives 'any well-formed side parts' only
-- ids below 2^31"
pub data Sided (b s : List ℕ) : Type 0 where
  plain : s ≡ b → Sided b s
  with_parts : (parts : List Side) → WellFormedSides (length b + 12 * length parts) parts → some_high (ids_of parts) ≡ false → s ≡ add_sides b parts → Sided b s

-- s is what pack has left of the values vs, as it is or with side parts added that may be skipped
pub record Packed (W level mode : ℕ) (k : ℤ) (group : ℕ) (vs s : List ℕ) : Type 0 where
  pub out : List ℕ
  pub size : ℕ
  pub done : pack_answer W level mode k group vs (length out) ≡ Ok size
  pub given : Sided (take size (pack_out W level mode k group vs out)) s

pub record Demand2 : Type 0 where
  -- pack leaves the stream that document 01 lays out (`stream`, with its codes), and past it nothing is altered. Document 02, R-7: "the code is the rule's of the
  -- written level", which is part of the writer's setting (`setting_at`).
  pub layout : (W level mode : ℕ) (k : ℤ) (group : ℕ) (vs out : List ℕ) (size : ℕ) → pack_answer W level mode k group vs (length out) ≡ Ok size
      → (size ≡ length (stream level (setting_at level W mode k group) vs)) × (pack_out W level mode k group vs out ≡ stream level (setting_at level W mode k group) vs ++ drop size out)
  -- "Pack at level L writes L as written minor and the exact need as needed minor"
  pub minors : (W level mode : ℕ) (k : ℤ) (group : ℕ) (vs s : List ℕ) → known_width W ≡ true → Below (2 ^ W) vs → Packed W level mode k group vs s
      → ((header_of s).written ≡ level) × ((header_of s).needed ≡ need (setting_of W mode k group))
  -- "Writers at level 14 and later" send halves to even (1), "writers at 8 to 13 keep the old rule", away from zero (0); and in mode 1 what comes back is the pattern
  -- of the code by the rule of the level that packed it
  pub rule : (level : ℕ) → (level < 14 → halves_at level ≡ 0) × (14 ≤ level → halves_at level ≡ 1)
  pub ruled : (W level : ℕ) (k : ℤ) (group : ℕ) (vs s : List ℕ) → known_width W ≡ true → Below (2 ^ W) vs → Packed W level 1 k group vs s
      → (L n : ℕ) (back : List ℕ) → unpack_answer W L s (length back) ≡ Ok n → (i : ℕ) → i < n
      → get_or (unpack_out W L s back) i 0
      ≡ tolerance_restored W (fraction_bits W) (bin_of W (fraction_bits W) k) (tolerance_code W (fraction_bits W) (halves_at level) (bin_of W (fraction_bits W) k) (get_or vs i 0))
  -- "writers at 8 to 13 keep the old rule for clients who compare files": where two levels code alike, in the modes that lose nothing or by the same rule, their
  -- streams of a list differ in the written minor alone, which stands at 4
  pub alike : (W level level' mode : ℕ) (k : ℤ) (group : ℕ) (vs : List ℕ) → (lossless_mode mode ≡ true) ⊎ (halves_at level ≡ halves_at level')
      → stream level' (setting_at level' W mode k group) vs ≡ placed 4 level' (stream level (setting_at level W mode k group) vs)
  -- what was packed and is unpacked, whatever the levels
  pub values : (W level mode : ℕ) (k : ℤ) (group : ℕ) (vs s : List ℕ) → known_width W ≡ true → Below (2 ^ W) vs → Packed W level mode k group vs s
      → (L n : ℕ) (back : List ℕ) → unpack_answer W L s (length back) ≡ Ok n
      → (n ≡ length vs) × ((i : ℕ) → i < n → ComesBack W mode k (get_or vs i 0) (get_or (unpack_out W L s back) i 0))
  -- of any bytes that unpack accepts, probe shows the value that unpack leaves, and writes its pattern
  pub probe32 : (L : ℕ) (s back : List ℕ) (n i old : ℕ) → Below 256 s → unpack_answer 32 L s (length back) ≡ Ok n → i < n
      → (probe_answer32 L s i ≡ Ok (shown32 (get_or (unpack_out 32 L s back) i 0))) × (probe_out32 (probe_answer32 L s i) old ≡ get_or (unpack_out 32 L s back) i 0)
  pub probe64 : (L : ℕ) (s back : List ℕ) (n i old : ℕ) → Below 256 s → unpack_answer 64 L s (length back) ≡ Ok n → i < n
      → (probe_answer64 L s i ≡ Ok (shown64 (get_or (unpack_out 64 L s back) i 0))) × (probe_out64 (probe_answer64 L s i) old ≡ get_or (unpack_out 64 L s back) i 0)
  -- the number rules alone: a pattern, its code, and the pattern that the code restores; a list behind a pattern, its differences, and their running
  -- sums; and the k of a tolerance
  pub lossless : (W p : ℕ) → known_width W ≡ true → p < 2 ^ W → lossless_restored W (fraction_bits W) (lossless_code W (fraction_bits W) p) ≡ p
  pub differences : (W before : ℕ) (ps : List ℕ) → known_width W ≡ true → before < 2 ^ W → Below (2 ^ W) ps
      → running_sums W before (difference_codes W before ps) ≡ ps
  pub coded : (W m halves : ℕ) (k : ℤ) (p old : ℕ) → halves ≤ 1 → allowed_k W m k ≡ true
      → (code_answer W m halves k p ≡ Some (tolerance_code W m halves (bin_of W m k) p)) × (code_out (code_answer W m halves k p) old ≡ tolerance_code W m halves (bin_of W m k) p)
  pub decoded : (W m : ℕ) (k : ℤ) (c old : ℕ) → allowed_k W m k ≡ true → c / 2 ≤ largest_u W m (bin_of W m k)
      → (pattern_answer W m k c ≡ Ok (tolerance_restored W m (bin_of W m k) c)) × (pattern_out (pattern_answer W m k c) old ≡ tolerance_restored W m (bin_of W m k) c)
  pub within : (W halves : ℕ) (k : ℤ) (p c : ℕ) → known_width W ≡ true → p < 2 ^ W → code_answer W (fraction_bits W) halves k p ≡ Some c
      → (q : ℕ) × (pattern_answer W (fraction_bits W) k c ≡ Ok q) × Returned (format_of W) (bin_of W (fraction_bits W) k) p q
  -- a number of size x below the threshold has as its magnitude code the number of bins nearest to x, and where a half goes is the rule (`Nearest`); from the
  -- threshold on the code counts ordinals; and its lowest bit is the sign
  pub nearest : (W halves : ℕ) (k : ℤ) (p : ℕ) → known_width W ≡ true → p < 2 ^ W → allowed_k W (fraction_bits W) k ≡ true
      → (negative : Bool) (x : ℕ) → Reads (format_of W) p negative x → x < threshold (fraction_bits W) (bin_of W (fraction_bits W) k)
      → Nearest halves x (2 ^ bin_of W (fraction_bits W) k) (tolerance_code W (fraction_bits W) halves (bin_of W (fraction_bits W) k) p / 2)
  pub beyond : (W halves : ℕ) (k : ℤ) (p : ℕ) → known_width W ≡ true → p < 2 ^ W → allowed_k W (fraction_bits W) k ≡ true
      → threshold (fraction_bits W) (bin_of W (fraction_bits W) k) ≤ magnitude (fraction_bits W) (ordinal W p)
      → tolerance_code W (fraction_bits W) halves (bin_of W (fraction_bits W) k) p / 2 + threshold_ordinal (fraction_bits W) (bin_of W (fraction_bits W) k) ≡ ordinal W p + 2 ^ fraction_bits W
  pub signed : (W halves : ℕ) (k : ℤ) (p : ℕ) → known_width W ≡ true → p < 2 ^ W → allowed_k W (fraction_bits W) k ≡ true
      → tolerance_code W (fraction_bits W) halves (bin_of W (fraction_bits W) k) p % 2 ≡ sign W p
  -- "Restored: u·E if u < 2^m, else the ordinal u - 2^m + ordinal of T; the sign is put back, so -0 can appear": the pattern q of the code 2u + sign, up to the
  -- largest u. E is 2 ^ j of the units that `Reads` counts in.
  pub restored : (W : ℕ) (k : ℤ) (u : ℕ) (negative : Bool) → known_width W ≡ true → allowed_k W (fraction_bits W) k ≡ true
      → let m = fraction_bits W in
      let j = bin_of W m k in
      let q = tolerance_restored W m j (2 * u + cond negative 1 0) in
      (u < 2 ^ m → Reads (format_of W) q negative (u * 2 ^ j))
      × (2 ^ m ≤ u → u ≤ largest_u W m j → (ordinal W q ≡ u - 2 ^ m + threshold_ordinal m j) × (sign W q ≡ cond negative 1 0))
  pub bound : (W t : ℕ) → known_width W ≡ true → BoundFor W (fraction_bits W) t (bound_answer W t)

-- ---- Demand 3: "Pack a list within the limit at level 8, 9 or 10, with a setting that level allows and enough room, and give the stream any
-- well-formed side parts. The reader for its width, told to act as level 8, 9 or 10 and lent room for the values, gives back what demand 2
-- says, or refuses as too new and names the needed level: exactly when that, as a number, exceeds its own. And bytes accepted by one level are
-- accepted by each higher one with the same values." Since document 02, R-7, it speaks of the levels 8 to 14 (`known_level`); since R-6 of groups of
-- 32 and of 128; since R-4 of side parts with ids below 2^31, and of arbitrary bytes "without the high ids". The need is 13 in groups of 128, else 11 in mode 2, else 10 for
-- width 64, else 9 in mode 1, else 8; too new is refusal 7.

-- a list within the limit, of patterns of a width, and a level that allows the setting
pub record Offered (W level mode : ℕ) (k : ℤ) (group : ℕ) (vs : List ℕ) : Type 0 where
  pub width : known_width W ≡ true
  pub patterns : Below (2 ^ W) vs
  pub few : length vs ≤ 1048576
  pub known : known_level level ≡ true
  pub setting : allowed_setting W mode k group ≡ true
  pub allows : need (setting_of W mode k group) ≤ level

-- what the reader at level L, which is lent `back`, makes of the stream s of the values vs
pub data ReadBack (W mode : ℕ) (k : ℤ) (group : ℕ) (vs s : List ℕ) (L : ℕ) (back : List ℕ) : Type 0 where
  given_back : need (setting_of W mode k group) ≤ L
      → unpack_answer W L s (length back) ≡ Ok (length vs)
      → ((i : ℕ) → i < length vs → ComesBack W mode k (get_or vs i 0) (get_or (unpack_out W L s back) i 0))
      → drop (length vs) (unpack_out W L s back) ≡ drop (length vs) back
      → ReadBack W mode k group vs s L back
  too_new : L < need (setting_of W mode k group)
      → unpack_answer W L s (length back) ≡ Err (NeedsMinor (need (setting_of W mode k group)))
      → unpack_out W L s back ≡ back
      → ReadBack W mode k group vs s L back

pub record Demand3 : Type 0 where
  -- "A level is a minor number": "8 to 11" with document 02, R-2, and "this and each later level" since, which are 12 (R-4), 13 (R-6) and 14 (R-7)
  pub levels : (L : ℕ) → known_level L ≡ true ↔ (8 ≤ L) × (L ≤ 14)
  -- pack takes no other list, level and setting than demand 3 speaks of
  pub takes : (W level mode : ℕ) (k : ℤ) (group : ℕ) (vs out : List ℕ) (size : ℕ) → pack_answer W level mode k group vs (length out) ≡ Ok size
      → (length vs ≤ 1048576) × (known_level level ≡ true) × (mode ≤ 2) × ((group ≡ 32) ⊎ (group ≡ 128)) × (need (setting_of W mode k group) ≤ level)
  -- enough room is what the length call answers, which is never above the limit that document 01 states, with the group size "in place of 32"
  pub packs : (W level mode : ℕ) (k : ℤ) (group : ℕ) (vs : List ℕ) → Offered W level mode k group vs
      → (size : ℕ) × (length_answer W level mode k group vs ≡ Ok size)
      × (size ≤ 48 + 4 * chunks_in (length vs) + (length vs + (group - 1)) / group + length vs * W / 8)
      × ((out : List ℕ) → size ≤ length out → pack_answer W level mode k group vs (length out) ≡ Ok size)
  -- "Width 64 needs 10; else mode 1 needs 9; else 8"; mode 2 "needs level 11", groups of 128 "level 13"; "Where several needs apply, the largest stands"
  pub needs : (W mode : ℕ) (k : ℤ) → (need (setting_of W mode k 128) ≡ 13) × (need (setting_of W 2 k 32) ≡ 11)
      × (need (setting_of 64 0 k 32) ≡ 10) × (need (setting_of 64 1 k 32) ≡ 10) × (need (setting_of 32 1 k 32) ≡ 9) × (need (setting_of 32 0 k 32) ≡ 8)
  -- "Nothing needs level 14 to be read"
  pub unneeded : (W mode : ℕ) (k : ℤ) (group : ℕ) → need (setting_of W mode k group) ≤ 13
  pub reads : (W level mode : ℕ) (k : ℤ) (group : ℕ) (vs s : List ℕ) → Offered W level mode k group vs → Packed W level mode k group vs s
      → (L : ℕ) → known_level L ≡ true → (back : List ℕ) → length vs ≤ length back → ReadBack W mode k group vs s L back
  -- any bytes s without a high id. Today no level accepts bytes with one (`NotSkipped`), so the premise takes no bytes away that any reader accepts. It
  -- is there because a later level may define such an id and accept it, and what the values then are is for that level to say.
  pub higher : (L L' : ℕ) (s : List ℕ) → some_high (ids_in (header_of s) s) ≡ false → L ≤ L' → known_level L' ≡ true
      → ((n : ℕ) → check_answer L s ≡ Ok n → check_answer L' s ≡ Ok n)
      × ((W : ℕ) (out : List ℕ) (n : ℕ) → unpack_answer W L s (length out) ≡ Ok n
      → (unpack_answer W L' s (length out) ≡ Ok n) × (unpack_out W L' s out ≡ unpack_out W L s out))
      × ((i p : ℕ) → probe_answer32 L s i ≡ Ok (shown32 p) → probe_answer32 L' s i ≡ Ok (shown32 p))
      × ((i p : ℕ) → probe_answer64 L s i ≡ Ok (shown64 p) → probe_answer64 L' s i ≡ Ok (shown64 p))

-- ---- Document 02, R-4: a reader must never skip what it must understand. "Ids from 2^31 up now mean 'must be understood'. No such id is defined
-- yet, so a reader that meets one refuses. A stream with such an id needs level 12, which older readers refuse by 7."

-- s is what pack has left of the values vs, with these side parts added, whatever their ids, and with two minors put in their places: at 4 a written one
-- that is not below the level of pack, and at 8 any needed one
pub record WithMinors (W level mode : ℕ) (k : ℤ) (group : ℕ) (vs : List ℕ) (parts : List Side) (written needed : ℕ) (s : List ℕ) : Type 0 where
  pub out : List ℕ
  pub size : ℕ
  pub done : pack_answer W level mode k group vs (length out) ≡ Ok size
  pub well_formed : WellFormedSides (size + 12 * length parts) parts
  pub later : level ≤ written
  pub fit : (written < 2 ^ 32) × (needed < 2 ^ 32)
  pub bytes : s ≡ placed 8 needed (placed 4 written (add_sides (take size (pack_out W level mode k group vs out)) parts))

-- the needed minor is the right one: what the stream needs, which with a high id is 12, or the setting's need if that is greater (`stream_need`); and it is not
-- above the written minor
abbrev pub RightNeed : ℕ → ℕ → ℤ → ℕ → List Side → ℕ → ℕ → Type 0
RightNeed W mode k group parts written needed = (needed ≡ stream_need (setting_of W mode k group) (some_high (ids_of parts))) × (needed ≤ written)

pub record NotSkipped : Type 0 where
  -- "Ids from 2^31 up"
  pub high : (id : ℕ) → high_id id ≡ true ↔ 2 ^ 31 ≤ id
  -- "A stream with such an id needs level 12", and "the largest stands" here too
  pub raised : (W mode : ℕ) (k : ℤ) (group : ℕ) → (stream_need (setting_of W mode k group) true ≡ max (need (setting_of W mode k group)) 12)
      × (stream_need (setting_of W mode k group) false ≡ need (setting_of W mode k group))
  -- Below the needed minor every reader refuses such a stream by 7, with that minor (`TooNew`). From it on the readers of its width, lent room for the values,
  -- refuse it (`RefusedBy`): by 8 where the needed minor is not the right one, "compared for equality", and by 15 with the first high id where it is and some
  -- id is high. Where it is and none is, check accepts it.
  pub packed : (W level mode : ℕ) (k : ℤ) (group : ℕ) (vs : List ℕ) (parts : List Side) (written needed : ℕ) (s : List ℕ) → known_width W ≡ true → Below (2 ^ W) vs
      → WithMinors W level mode k group vs parts written needed s → (L : ℕ) → known_level L ≡ true
      → (L < needed → TooNew L s needed)
      × (needed ≤ L → (RightNeed W mode k group parts written needed → ⊥) → RefusedBy W L s (length vs) BrokenHeader)
      × (needed ≤ L → RightNeed W mode k group parts written needed → some_high (ids_of parts) ≡ true → RefusedBy W L s (length vs) (MustBeUnderstood (first_high (ids_of parts))))
      × (needed ≤ L → RightNeed W mode k group parts written needed → some_high (ids_of parts) ≡ false → check_answer L s ≡ Ok (length vs))
  -- so who adds a part with a high id and leaves both minors as pack wrote them gets 8 at each level that reaches the needed one, where that is
  -- below 12, as it is in groups of 32. In groups of 128 it is 13 already, and the readers that reach it answer 15 (`packed`).
  pub unraised : (W level mode : ℕ) (k : ℤ) (group : ℕ) (vs out : List ℕ) (size : ℕ) → known_width W ≡ true → Below (2 ^ W) vs → pack_answer W level mode k group vs (length out) ≡ Ok size
      → (parts : List Side) → WellFormedSides (size + 12 * length parts) parts → some_high (ids_of parts) ≡ true
      → (L : ℕ) → known_level L ≡ true → need (setting_of W mode k group) ≤ L → need (setting_of W mode k group) < 12
      → RefusedBy W L (add_sides (take size (pack_out W level mode k group vs out)) parts) (length vs) BrokenHeader
  -- of any bytes, whatever else they are, in whose side table an entry i has an id from 2^31 up, every reader at every level refuses to hand out a value
  pub never : (L : ℕ) (s : List ℕ) (i : ℕ) → i < (header_of s).sides → 2 ^ 31 ≤ side_id (header_of s) s i → RefusedByAll L s

-- ---- Document 02, R-5: a summary beside the data. "Side part 1 holds, for each chunk: a count of not-a-numbers, the smallest and the largest other value
-- as patterns .., all of the restored values": these bytes are `summary s`, and `with_summary s` is s with that part. Infinities are numbers. What smallest and
-- largest mean is said in proofs/Meaning.antt of the crate `summary`, and in the words of IEEE 754 in its proofs/Ieee.antt.

pub record SummaryBeside : Type 0 where
  -- add takes what check accepts and what has no side parts, where there is room for the copy; side parts are 16
  pub adds : (L : ℕ) (s out : List ℕ) (n : ℕ) → check_answer L s ≡ Ok n
      → ((header_of s).sides ≡ 0 → length (with_summary s) ≤ length out → add_answer L s (length out) ≡ Ok (length (with_summary s)))
      × (0 < (header_of s).sides → add_answer L s (length out) ≡ Err HasSideParts)
  -- it leaves the copy, and past it nothing is altered; "Adding a summary changes no value that any level shows": every reader makes of the copy what it makes
  -- of s, at each level; the summary is true, and a test of the copy answers at each level what a check of s does
  pub added : (L : ℕ) (s out : List ℕ) (size : ℕ) → Below 256 s → add_answer L s (length out) ≡ Ok size
      → (size ≤ length out) × (size ≡ length (with_summary s)) × (add_out L s out ≡ with_summary s ++ drop size out)
      × ReadAs s (take size (add_out L s out)) × TrueSummary (take size (add_out L s out))
      × ((R : ℕ) → test_answer R (take size (add_out L s out)) ≡ check_answer R s)
  -- of the header only the number of side parts is another
  pub header : (L : ℕ) (s out : List ℕ) (size : ℕ) → Below 256 s → add_answer L s (length out) ≡ Ok size → header_of (take size (add_out L s out)) ≡ counted (header_of s) 1
  -- a test accepts exactly the true summaries of what a check accepts; all else of that is 17
  pub tested : (L : ℕ) (s : List ℕ) (n : ℕ) → test_answer L s ≡ Ok n ↔ (check_answer L s ≡ Ok n) × TrueSummary s
  pub untrue : (L : ℕ) (s : List ℕ) (n : ℕ) → check_answer L s ≡ Ok n → (TrueSummary s → ⊥) → test_answer L s ≡ Err NoTrueSummary
  -- what a true summary says: it has 4 + 2·(W/8) bytes for each chunk, without gaps, and at the place of each the three numbers of the chunk's values
  pub says : (L : ℕ) (s : List ℕ) (n : ℕ) → check_answer L s ≡ Ok n → (t : TrueSummary s)
      → let h = header_of s in
      (side_length h s t.entry ≡ h.chunks * (4 + 2 * (h.width / 8)))
      × ((j : ℕ) → j < h.chunks → Says h.width s (side_place h s t.entry + j * (4 + 2 * (h.width / 8))) (take 1024 (drop (1024 * j) (values s))))
  -- a list is made of a true summary alone; it names exactly the chunks that hold some value at least x as IEEE 754 compares, each after a smaller one; and
  -- past them nothing is altered
  pub listed : (W L x : ℕ) (s out : List ℕ) (k : ℕ) → known_width W ≡ true → x < 2 ^ W → list_answer W L x s (length out) ≡ Ok k
      → (k ≤ length out) × TrueSummary s
      × ((j : ℕ) → ((i : ℕ) × (i < k) × (get_or (list_out W L x s out) i 0 ≡ j)) ↔ HoldsSome (format_of W) x s j)
      × ((i : ℕ) → suc i < k → get_or (list_out W L x s out) i 0 < get_or (list_out W L x s out) (suc i) 0)
      × (drop k (list_out W L x s out) ≡ drop k out)
  -- and where a test of a stream of the width accepts, and x is a number, it is given in room for what it names, and else refused by 4 with how many that are
  pub lists : (W L x : ℕ) (s : List ℕ) (n : ℕ) → known_width W ≡ true → test_answer L s ≡ Ok n → (header_of s).width ≡ W → (of_bits (format_of W) x ≡ nan → ⊥)
      → (k : ℕ) × ((out : List ℕ) → (k ≤ length out → list_answer W L x s (length out) ≡ Ok k) × (length out < k → list_answer W L x s (length out) ≡ Err (NoRoom k)))
  -- an x that is a not-a-number is 2, whatever the bytes are
  pub no_number : (W L x : ℕ) (s out : List ℕ) → known_width W ≡ true → known_level L ≡ true → of_bits (format_of W) x ≡ nan → list_answer W L x s (length out) ≡ Err NotAllowed
  -- bytes with a high id are refused here too (`NotSkipped`)
  pub never : (L : ℕ) (s : List ℕ) (i : ℕ) → i < (header_of s).sides → 2 ^ 31 ≤ side_id (header_of s) s i
      → ((out : List ℕ) (n : ℕ) → add_answer L s (length out) ≡ Ok n → ⊥) × ((n : ℕ) → test_answer L s ≡ Ok n → ⊥)
      × ((W x : ℕ) (out : List ℕ) (k : ℕ) → list_answer W L x s (length out) ≡ Ok k → ⊥)
