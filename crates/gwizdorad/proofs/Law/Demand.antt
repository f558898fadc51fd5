-- What the demands ask beyond the theorems of the crates below: the tolerance by the width, and the values of a packed stream.
use mathlib.Core.Path.{◌≡◌, refl, sym, ap, subst, ◌∙◌}
use mathlib.Core.Logic.{◌⊎◌, inl, inr, ◌↔◌}
use mathlib.Core.Bool.{Bool, true, false, ◌&&◌, cond}
use mathlib.Core.List.{List, [], ◌∷◌, ◌++◌}
use Prim.Native.Nat.{ℕ, suc, ◌+◌, ◌-◌, ◌*◌, ◌/◌, ◌%◌, ◌^◌, ◌≤◌, ◌<◌, max}
use native.Mathlib.Nat.{max-le, le_of_lt, lt_of_lt_of_le, mul-le-mul_right, one-mul, div-lt_iff_lt-mul, le-div_iff_mul-le}
use native.Mathlib.Omega.{arith}
use borrow.Author.Tests.{leb-true, leb-false, le-leb, lt-leb, eqb-true}
use lib.Dec.{leb, eqb, lit≤}
use lib.IntN.{ℤ, pos}
use lib.Pow.{pow_pos}
use lib.Ieee.{binary32, binary64}
use lib.ListN.{length, take, drop, get_or}
use Rattle.bins.specs.Tolerance.{last_bin, allowed_k, bin_of, known_halves, sign, ordinal, magnitude, threshold, threshold_ordinal, restored_ordinal, tolerance_code, tolerance_restored, largest_u}
use Rattle.bins.proofs.Law.Tolerance as Tolerance
use Rattle.numbers.specs.Lossless.{lossless_code, lossless_restored}
use Rattle.numbers.specs.Difference.{difference_codes, running_sums}
use Rattle.numbers.specs.Answers.{code_answer, pattern_answer}
use Rattle.numbers.specs.Bound.{bound_answer, bound_number, bound_detail}
use Rattle.numbers.specs.Theorem.{Format, Reads, Nearest, Within, Returned, BoundFor}
use Rattle.std.specs.Prelude.{Some, None, Result, Ok, Err}
use Rattle.numbers.specs.declared.bound.BoundError.{BoundError}
use Rattle.numbers.specs.declared.bound.BoundError.TheVariants.{UnknownWidth, NoTolerance, TooSmall}
use Rattle.numbers.specs.declared.tolerance.PatternError.{PatternError}
use Rattle.numbers.specs.declared.tolerance.PatternError.TheVariants.{NotAllowed, AboveLargest}
use Rattle.numbers.proofs.Theorems.{format_32, format_64, every_pattern_is_restored, every_list_is_restored, a_coded_k_is_allowed, an_allowed_k_has_a_bin, a_code_is_restored, the_code_is_the_nearest, the_code_beyond, the_code_has_the_sign, binary32_value, binary64_value, binary32_magnitude, binary64_magnitude, binary32_returned, binary64_returned, bound_for_binary32, bound_for_binary64}
use Rattle.blocks.specs.Bytes.{Below}
use Rattle.stream.specs.Setting.{highest_level, known_level, known_width, fraction_bits, lossless_mode, allowed_mode, allowed_setting, setting_of, halves_at, ruled, setting_at, width_need, mode_need, size_need, need, stream_need, k_bits, mode_number, group_size, code_at, codes_after}
use Rattle.stream.specs.Tables.{some_high}
use Rattle.stream.specs.Header.{header_of, chunks_in}
use Rattle.stream.specs.Stream.{values}
use Rattle.stream.specs.Writing.{piece_bytes, data_of, starts_of, header_numbers, end_of, body, stream, Side, placed, ids_of, WellFormedSides}
use Rattle.stream.specs.Packing.{Packable, Sent}
use Rattle.stream.specs.Operations.{pack_answer, pack_out}
use Rattle.std.specs.Prelude.{Ok}
use Rattle.stream.proofs.Law.Plain.Truth.{and_left, and_right, either, or_false}
use Rattle.stream.proofs.Law.Setting.Allowed.{need_128, need_mode_2, level_small, width_some, mode_allowed}
use Rattle.stream.proofs.Law.Written.Numbers.{spell_put}
use Rattle.stream.proofs.Written.{accepted_list, accepted_bytes, accepted_leaves, accepted_is_sent, the_plain_stream, the_minors_are_read, as_many_values, lossless_values, tolerance_values, ruled_values}
use Rattle.summary.specs.Theorem.{format_of}
use Rattle.gwizdorad_numbers.specs.Result.{code_out, pattern_out}
use Rattle.gwizdorad.specs.Demands.{ComesBack, Sided, plain, with_parts, Packed, Offered}

-- ---- demand 2: a known width is 32 or 64

pub of_a_width : (P : ℕ → Type 0) → P 32 → P 64 → (W : ℕ) → known_width W ≡ true → P W
unfolding known_width
of_a_width P p q W e = go (either (eqb W 32) (eqb W 64) e)
  where
    go : (eqb W 32 ≡ true) ⊎ (eqb W 64 ≡ true) → P W
    go (inl is) = subst P (sym (eqb-true W 32 is)) p
    go (inr is) = subst P (sym (eqb-true W 64 is)) q

returned : (k : ℤ) (p q W : ℕ) → known_width W ≡ true → allowed_k W (fraction_bits W) k ≡ true
    → Within W (fraction_bits W) (bin_of W (fraction_bits W) k) p q → Returned (format_of W) (bin_of W (fraction_bits W) k) p q
unfolding fraction_bits format_of
returned k p q =
    of_a_width
    (λ (W : ℕ).
    allowed_k W (fraction_bits W) k ≡ true → Within W (fraction_bits W) (bin_of W (fraction_bits W) k) p q
    → Returned (format_of W) (bin_of W (fraction_bits W) k) p q)
    (λ a w. binary32_returned (bin_of 32 23 k) (an_allowed_k_has_a_bin 32 23 format_32 k a) p q w)
    (λ a w. binary64_returned (bin_of 64 52 k) (an_allowed_k_has_a_bin 64 52 format_64 k a) p q w)

pub bound_at : (t W : ℕ) → known_width W ≡ true → BoundFor W (fraction_bits W) t (bound_answer W t)
unfolding fraction_bits bound_answer
bound_at t = of_a_width (λ (W : ℕ). BoundFor W (fraction_bits W) t (bound_answer W t)) (bound_for_binary32 t) (bound_for_binary64 t)

-- the number rules
pub lossless_at : (p W : ℕ) → known_width W ≡ true → p < 2 ^ W → lossless_restored W (fraction_bits W) (lossless_code W (fraction_bits W) p) ≡ p
unfolding fraction_bits
lossless_at p =
    of_a_width (λ (W : ℕ). p < 2 ^ W → lossless_restored W (fraction_bits W) (lossless_code W (fraction_bits W) p) ≡ p)
    (every_pattern_is_restored 32 23 format_32 p) (every_pattern_is_restored 64 52 format_64 p)

pub differences_at : (W before : ℕ) (ps : List ℕ) → known_width W ≡ true → before < 2 ^ W → Below (2 ^ W) ps
    → running_sums W before (difference_codes W before ps) ≡ ps
differences_at W before ps known = every_list_is_restored W (width_some W known) before ps

format_at : (W : ℕ) → known_width W ≡ true → Format W (fraction_bits W)
unfolding fraction_bits
format_at = of_a_width (λ (W : ℕ). Format W (fraction_bits W)) format_32 format_64

pub within_at : (W halves : ℕ) (k : ℤ) (p c : ℕ) → known_width W ≡ true → p < 2 ^ W → code_answer W (fraction_bits W) halves k p ≡ Some c
    → (q : ℕ) × (pattern_answer W (fraction_bits W) k c ≡ Ok q) × Returned (format_of W) (bin_of W (fraction_bits W) k) p q
within_at W halves k p c width h e =
    let allowed = a_coded_k_is_allowed W (fraction_bits W) (format_at W width) halves k p c e in
    let r = a_code_is_restored W (fraction_bits W) (format_at W width) k allowed halves p c h e in
    (r.0, r.1, returned k p r.0 W width allowed r.2)

-- what a pattern is read as
magnitude_at : (p : ℕ) (negative : Bool) (x W : ℕ) → known_width W ≡ true → Reads (format_of W) p negative x → x ≡ magnitude (fraction_bits W) (ordinal W p)
unfolding fraction_bits format_of
magnitude_at p negative x =
    of_a_width (λ (W : ℕ). Reads (format_of W) p negative x → x ≡ magnitude (fraction_bits W) (ordinal W p)) (binary32_magnitude p negative x) (binary64_magnitude p negative x)

module _ (W halves : ℕ) (k : ℤ) (p : ℕ) (width : known_width W ≡ true) (small : p < 2 ^ W) (allowed : allowed_k W (fraction_bits W) k ≡ true) where
  pub nearest_at : (negative : Bool) (x : ℕ) → Reads (format_of W) p negative x → x < threshold (fraction_bits W) (bin_of W (fraction_bits W) k)
      → Nearest halves x (2 ^ bin_of W (fraction_bits W) k) (tolerance_code W (fraction_bits W) halves (bin_of W (fraction_bits W) k) p / 2)
  nearest_at negative x reads below =
      let is = magnitude_at p negative x W width reads in
      subst (λ (z : ℕ). Nearest halves z (2 ^ bin_of W (fraction_bits W) k) (tolerance_code W (fraction_bits W) halves (bin_of W (fraction_bits W) k) p / 2)) (sym is)
      (the_code_is_the_nearest W (fraction_bits W) (format_at W width) k allowed halves p small (rw is at below))

  pub beyond_at : threshold (fraction_bits W) (bin_of W (fraction_bits W) k) ≤ magnitude (fraction_bits W) (ordinal W p)
      → tolerance_code W (fraction_bits W) halves (bin_of W (fraction_bits W) k) p / 2 + threshold_ordinal (fraction_bits W) (bin_of W (fraction_bits W) k) ≡ ordinal W p + 2 ^ fraction_bits W
  beyond_at = the_code_beyond W (fraction_bits W) (format_at W width) k allowed halves p small

  pub signed_at : tolerance_code W (fraction_bits W) halves (bin_of W (fraction_bits W) k) p % 2 ≡ sign W p
  signed_at = the_code_has_the_sign W (fraction_bits W) (format_at W width) k allowed halves p small

-- what a code restores, up to the largest u: the ordinal and the sign
sign_bit : (negative : Bool) → cond negative 1 0 ≤ 1
sign_bit true = lit≤ tt
sign_bit false = lit≤ tt

sign_read : (t q : ℕ) → 0 < t → (negative : Bool) → q / t ≡ cond negative 1 0 → leb t q ≡ negative
sign_read t q some true e = le-leb t q (omega (arith, one-mul t, (le-div_iff_mul-le some).0 (let z : 1 ≤ q / t = omega (arith, e) in z)))
sign_read t q some false e = lt-leb t q (omega (arith, one-mul t, (div-lt_iff_lt-mul some).0 (let z : q / t < 1 = omega (arith, e) in z)))

reads_as : (q : ℕ) (negative : Bool) (W : ℕ) → known_width W ≡ true → ordinal W q < (2 ^ (W - 1 - fraction_bits W) - 1) * 2 ^ fraction_bits W → sign W q ≡ cond negative 1 0
    → Reads (format_of W) q negative (magnitude (fraction_bits W) (ordinal W q))
unfolding fraction_bits format_of sign
reads_as q negative =
    of_a_width
    (λ (W : ℕ).
    ordinal W q < (2 ^ (W - 1 - fraction_bits W) - 1) * 2 ^ fraction_bits W → sign W q ≡ cond negative 1 0
    → Reads (format_of W) q negative (magnitude (fraction_bits W) (ordinal W q)))
    (λ h e.
    subst (λ (s : Bool). Reads binary32 q s (magnitude 23 (ordinal 32 q))) (sign_read (2 ^ 31) q (pow_pos 31) negative e) (binary32_value q ((div-lt_iff_lt-mul (pow_pos 23)).1 h)))
    (λ h e.
    subst (λ (s : Bool). Reads binary64 q s (magnitude 52 (ordinal 64 q))) (sign_read (2 ^ 63) q (pow_pos 63) negative e) (binary64_value q ((div-lt_iff_lt-mul (pow_pos 52)).1 h)))

module _ (W : ℕ) (k : ℤ) (u : ℕ) (negative : Bool) (width : known_width W ≡ true) (allowed : allowed_k W (fraction_bits W) k ≡ true) where
  abbrev m : ℕ
  m = fraction_bits W

  abbrev j : ℕ
  j = bin_of W m k

  abbrev q : ℕ
  q = tolerance_restored W m j (2 * u + cond negative 1 0)

  bin : j ≤ last_bin W m
  bin = an_allowed_k_has_a_bin W m (format_at W width) k allowed

  put_back : u ≤ largest_u W m j → (ordinal W q ≡ restored_ordinal m j u) × (sign W q ≡ cond negative 1 0)
  put_back most =
      let room = (format_at W width).room in
      let c = 2 * u + cond negative 1 0 in
      let half : c / 2 ≡ u = omega (arith, sign_bit negative) in
      let rest : c % 2 ≡ cond negative 1 0 = omega (arith, sign_bit negative) in
      let small = Tolerance.restored_small W m room j bin u most in
      let parts : q ≡ restored_ordinal m j u + cond negative 1 0 * 2 ^ (W - 1) = Tolerance.restored_parts W m room j bin c (omega (arith, half)) ∙ rw (half, rest) in (
        ap (ordinal W) parts ∙ Tolerance.joined_ordinal W m room j bin (restored_ordinal m j u) (cond negative 1 0) small,
        ap (sign W) parts ∙ Tolerance.joined_sign W m room j bin (restored_ordinal m j u) (cond negative 1 0) small,
      )

  bins_at : u < 2 ^ m → Reads (format_of W) q negative (u * 2 ^ j)
  unfolding last_bin largest_u threshold_ordinal
  bins_at few =
      let room = (format_at W width).room in
      let back = put_back (omega (arith, Tolerance.threshold_room W m room j bin, Tolerance.next_bin W m room j bin)) in
      let finite : suc j * 2 ^ m ≤ (2 ^ (W - 1 - m) - 1) * 2 ^ m = mul-le-mul_right (2 ^ m) (omega (arith, bin, (format_at W width).least, (format_at W width).order)) in
      subst (λ (x : ℕ). Reads (format_of W) q negative x) (ap (magnitude m) back.0 ∙ Tolerance.restored_magnitude m j u (le_of_lt few))
      (reads_as q negative W width (rw back.0 (lt_of_lt_of_le (Tolerance.restored_under m j u few) finite)) back.1)

  pub restored_at : (u < 2 ^ m → Reads (format_of W) q negative (u * 2 ^ j))
      × (2 ^ m ≤ u → u ≤ largest_u W m j → (ordinal W q ≡ u - 2 ^ m + threshold_ordinal m j) × (sign W q ≡ cond negative 1 0))
  restored_at = (bins_at, λ many most. let back = put_back most in (back.0 ∙ Tolerance.restored_above m j u many, back.1))

-- when the number rules refuse
module _ (W m halves : ℕ) (k : ℤ) (p : ℕ) where
  pub coded_at : (old : ℕ) → halves ≤ 1 → allowed_k W m k ≡ true
      → (code_answer W m halves k p ≡ Some (tolerance_code W m halves (bin_of W m k) p)) × (code_out (code_answer W m halves k p) old ≡ tolerance_code W m halves (bin_of W m k) p)
  unfolding code_answer known_halves code_out
  coded_at old known e = (rw (le-leb halves 1 known, e), rw (le-leb halves 1 known, e))

  pub code_refused : code_answer W m halves k p ≡ None ↔ (1 < halves) ⊎ (allowed_k W m k ≡ false)
  unfolding code_answer known_halves
  code_refused = (λ e. go (leb halves 1) refl (allowed_k W m k) refl e, back)
    where
      go : (a : Bool) → leb halves 1 ≡ a → (b : Bool) → allowed_k W m k ≡ b → code_answer W m halves k p ≡ None → (1 < halves) ⊎ (allowed_k W m k ≡ false)
      go false known b is e = inl (leb-false halves 1 known)
      go true known false is e = inr is
      go true known true is e =
          let z : Some (tolerance_code W m halves (bin_of W m k) p) ≡ None = rw (known, is) at e in
          inr (let none : allowed_k W m k ≡ false = cc in none)

      back : (1 < halves) ⊎ (allowed_k W m k ≡ false) → code_answer W m halves k p ≡ None
      back (inl unknown) = rw (lt-leb halves 1 unknown)
      back (inr is) = refused (leb halves 1) is
        where
          refused : (a : Bool) → allowed_k W m k ≡ false → cond (a && allowed_k W m k) (Some (tolerance_code W m halves (bin_of W m k) p)) None ≡ None
          refused true z = rw z
          refused false z = refl

module _ (W m : ℕ) (k : ℤ) where
  pub decoded_at : (c old : ℕ) → allowed_k W m k ≡ true → c / 2 ≤ largest_u W m (bin_of W m k)
      → (pattern_answer W m k c ≡ Ok (tolerance_restored W m (bin_of W m k) c)) × (pattern_out (pattern_answer W m k c) old ≡ tolerance_restored W m (bin_of W m k) c)
  unfolding pattern_answer pattern_out
  decoded_at c old e most = (rw (e, le-leb (c / 2) (largest_u W m (bin_of W m k)) most), rw (e, le-leb (c / 2) (largest_u W m (bin_of W m k)) most))

  pub pattern_refused : (c : ℕ) → pattern_answer W m k c ≡ Err NotAllowed ↔ allowed_k W m k ≡ false
  unfolding pattern_answer
  pattern_refused c = (λ e. go (allowed_k W m k) refl (leb (c / 2) (largest_u W m (bin_of W m k))) refl e, λ e. rw e)
    where
      go : (b : Bool) → allowed_k W m k ≡ b → (l : Bool) → leb (c / 2) (largest_u W m (bin_of W m k)) ≡ l → pattern_answer W m k c ≡ Err NotAllowed
          → allowed_k W m k ≡ false
      go false is l least e = is
      go true is true least e = let z : Ok (tolerance_restored W m (bin_of W m k) c) ≡ Err NotAllowed = rw (is, least) at e in cc
      go true is false least e = let z : ◌≡◌ {A = Result ℕ PatternError} (Err AboveLargest) (Err NotAllowed) = rw (is, least) at e in cc

  pub pattern_above : (c : ℕ) → pattern_answer W m k c ≡ Err AboveLargest ↔ (allowed_k W m k ≡ true) × (largest_u W m (bin_of W m k) < c / 2)
  unfolding pattern_answer
  pattern_above c = (λ e. go (allowed_k W m k) refl (leb (c / 2) (largest_u W m (bin_of W m k))) refl e, λ e. rw (e.0, lt-leb (c / 2) (largest_u W m (bin_of W m k)) e.1))
    where
      go : (b : Bool) → allowed_k W m k ≡ b → (l : Bool) → leb (c / 2) (largest_u W m (bin_of W m k)) ≡ l → pattern_answer W m k c ≡ Err AboveLargest
          → (allowed_k W m k ≡ true) × (largest_u W m (bin_of W m k) < c / 2)
      go false is l least e = let z : ◌≡◌ {A = Result ℕ PatternError} (Err NotAllowed) (Err AboveLargest) = rw is at e in absurd (let n : ◌≡◌ {A = ℕ} 0 1 = cc in omega (arith, n))
      go true is true least e =
          let z : Ok (tolerance_restored W m (bin_of W m k) c) ≡ Err AboveLargest = rw (is, least) at e in
          absurd (let n : ◌≡◌ {A = ℕ} 0 1 = cc in omega (arith, n))
      go true is false least e = (is, leb-false (c / 2) (largest_u W m (bin_of W m k)) least)

-- bound's details are 0
pub bound_detail_lem : (a : Result ℤ BoundError) → (bound_number a ≡ 0 → ⊥) → bound_detail a ≡ pos 0
unfolding bound_number bound_detail
bound_detail_lem (Ok k) refused = absurd (refused refl)
bound_detail_lem (Err UnknownWidth) refused = refl
bound_detail_lem (Err NoTolerance) refused = refl
bound_detail_lem (Err TooSmall) refused = refl

-- a width that is not known
pub unknown_width : (W t : ℕ) → known_width W ≡ false → bound_answer W t ≡ Err UnknownWidth
unfolding known_width bound_answer
unknown_width W t e = let neither = or_false (eqb W 32) (eqb W 64) e in rw (neither.0, neither.1)

allowed_in_mode_1 : (W mode : ℕ) (k : ℤ) (group : ℕ) → mode ≡ 1 → allowed_setting W mode k group ≡ true → allowed_k W (fraction_bits W) k ≡ true
unfolding allowed_mode
allowed_in_mode_1 W mode k group is e = rw is at (mode_allowed W mode k group e)

-- ---- demand 3

pub offered : (W level mode : ℕ) (k : ℤ) (group : ℕ) (vs : List ℕ) → Offered W level mode k group vs → Packable W level mode k group vs
offered W level mode k group vs o =
    record {
      width = o.width;
      minor = level_small level o.known;
      allowed = o.setting;
      needs = o.allows;
      few = o.few;
      patterns = o.patterns;
    }

-- the levels and the needs
pub levels_at : (L : ℕ) → known_level L ≡ true ↔ (8 ≤ L) × (L ≤ 14)
unfolding known_level highest_level
levels_at L = (
  λ e. (leb-true 8 L (and_left (leb 8 L) (leb L 14) e), leb-true L 14 (and_right (leb 8 L) (leb L 14) e)),
  λ h. rw (le-leb 8 L h.0, le-leb L 14 h.1),
)

pub needs_at : (W mode : ℕ) (k : ℤ) → (need (setting_of W mode k 128) ≡ 13) × (need (setting_of W 2 k 32) ≡ 11)
    × (need (setting_of 64 0 k 32) ≡ 10) × (need (setting_of 64 1 k 32) ≡ 10) × (need (setting_of 32 1 k 32) ≡ 9) × (need (setting_of 32 0 k 32) ≡ 8)
unfolding need width_need mode_need size_need
needs_at W mode k = (sym (need_128 (setting_of W mode k 128) refl), sym (need_mode_2 (setting_of W 2 k 32) (λ e. omega (arith, e)) refl), refl, refl, refl, refl)

pub raised_at : (W mode : ℕ) (k : ℤ) (group : ℕ) → (stream_need (setting_of W mode k group) true ≡ max (need (setting_of W mode k group)) 12)
    × (stream_need (setting_of W mode k group) false ≡ need (setting_of W mode k group))
unfolding stream_need
raised_at W mode k group = (refl, refl)

-- ---- document 02, R-7: the rule for halves

pub rule_at : (level : ℕ) → (level < 14 → halves_at level ≡ 0) × (14 ≤ level → halves_at level ≡ 1)
unfolding halves_at
rule_at level = (λ h. rw (lt-leb 14 level h), λ h. rw (le-leb 14 level h))

-- the streams of two levels that code alike
module _ (W level level' mode : ℕ) (k : ℤ) (group : ℕ) (vs : List ℕ) where
  -- another written minor is put in its place
  rewritten : placed 4 level' (stream level (setting_at level W mode k group) vs) ≡ stream level' (setting_at level W mode k group) vs
  unfolding placed stream body header_numbers
  rewritten =
      let t = setting_at level W mode k group in
      let c = chunks_in (length vs) in
      spell_put (1 ∷ []) (drop 2 (header_numbers level t (length vs) 0 (end_of t vs c)) ++ starts_of t vs c) (data_of t vs c) 4 refl level level'

  -- in the modes that lose nothing the rule is not asked
  unasked : lossless_mode mode ≡ true → stream level' (setting_at level' W mode k group) vs ≡ stream level' (setting_at level W mode k group) vs
  unfolding lossless_mode stream body header_numbers end_of starts_of data_of piece_bytes need mode_number k_bits group_size code_at codes_after
  unasked e = go (either (eqb mode 0) (eqb mode 2) e)
    where
      go : (eqb mode 0 ≡ true) ⊎ (eqb mode 2 ≡ true) → stream level' (setting_at level' W mode k group) vs ≡ stream level' (setting_at level W mode k group) vs
      go (inl is) = rw (eqb-true mode 0 is)
      go (inr is) = rw (eqb-true mode 2 is)

  pub alike_at : (lossless_mode mode ≡ true) ⊎ (halves_at level ≡ halves_at level')
      → stream level' (setting_at level' W mode k group) vs ≡ placed 4 level' (stream level (setting_at level W mode k group) vs)
  alike_at (inl e) = unasked e ∙ sym rewritten
  alike_at (inr e) = ap (λ (rule : ℕ). stream level' (ruled rule (setting_of W mode k group)) vs) (sym e) ∙ sym rewritten

pub needs_13 : (W mode : ℕ) (k : ℤ) (group : ℕ) → need (setting_of W mode k group) ≤ 13
unfolding need width_need mode_need size_need
needs_13 W mode k group = max-le (max-le (one (eqb W 64) 10 8 (lit≤ tt) (lit≤ tt)) (one (eqb mode 1) 9 (cond (eqb mode 2) 11 8) (lit≤ tt) (one (eqb mode 2) 11 8 (lit≤ tt) (lit≤ tt)))) (one (eqb group 128) 13 8 (lit≤ tt) (lit≤ tt))
  where
    one : (b : Bool) (x y : ℕ) → x ≤ 13 → y ≤ 13 → cond b x y ≤ 13
    one true x y h l = h
    one false x y h l = l

-- ---- the values of a packed stream

module _ (W level mode : ℕ) (k : ℤ) (group : ℕ) (vs out : List ℕ) (size : ℕ) (done : pack_answer W level mode k group vs (length out) ≡ Ok size)
    (packable : Packable W level mode k group vs) where
  whole : length (take size (pack_out W level mode k group vs out)) ≡ size
  whole = ap length (accepted_bytes W level mode k group vs out size done) ∙ sym (accepted_leaves W level mode k group vs out size done).0

  sided_is_sent : (s : List ℕ) → Sided (take size (pack_out W level mode k group vs out)) s
      → (parts : List Side) × (some_high (ids_of parts) ≡ false) × Sent level (setting_at level W mode k group) vs parts (need (setting_of W mode k group)) s
  unfolding ids_of some_high
  sided_is_sent s (plain is) = (
    [],
    refl,
    subst (Sent level (setting_at level W mode k group) vs [] (need (setting_of W mode k group))) (sym (is ∙ accepted_bytes W level mode k group vs out size done)) (the_plain_stream (halves_at level) W level mode k group vs packable),
  )
  sided_is_sent s (with_parts parts well low is) = (
    parts,
    low,
    subst (Sent level (setting_at level W mode k group) vs parts (need (setting_of W mode k group))) (sym is)
        (accepted_is_sent W level mode k group vs out size done parts (subst (λ (n : ℕ). WellFormedSides (n + 12 * length parts) parts) whole well)),
  )

module _ (W level mode : ℕ) (k : ℤ) (group : ℕ) (vs s : List ℕ) (width : known_width W ≡ true) (patterns : Below (2 ^ W) vs) (packed : Packed W level mode k group vs s) where
  packable : Packable W level mode k group vs
  packable = accepted_list W level mode k group vs packed.out packed.size packed.done width patterns

  pub is_sent : (parts : List Side) × (some_high (ids_of parts) ≡ false) × Sent level (setting_at level W mode k group) vs parts (need (setting_of W mode k group)) s
  is_sent = sided_is_sent W level mode k group vs packed.out packed.size packed.done packable s packed.given

  pub as_many : length (values s) ≡ length vs
  as_many = as_many_values (halves_at level) W level mode k group vs packable is_sent.0 (need (setting_of W mode k group)) s is_sent.2

  pub come_back : (i : ℕ) → i < length vs → ComesBack W mode k (get_or vs i 0) (get_or (values s) i 0)
  come_back i below =
      record {
        lossless = λ e. ap (λ (l : List ℕ). get_or l i 0) (lossless_values (halves_at level) W level mode k group vs packable is_sent.0 (need (setting_of W mode k group)) s is_sent.2 e);
        within = λ e. returned k (get_or vs i 0) (get_or (values s) i 0) W width (allowed_in_mode_1 W mode k group e packable.allowed) (tolerance_values (halves_at level) W level mode k group vs packable is_sent.0 (need (setting_of W mode k group)) s is_sent.2 e i below);
      }

  pub minors_are : ((header_of s).written ≡ level) × ((header_of s).needed ≡ need (setting_of W mode k group))
  minors_are = the_minors_are_read (halves_at level) W level mode k group vs packable is_sent.0 (need (setting_of W mode k group)) s is_sent.2

  pub by_the_rule : mode ≡ 1 → (i : ℕ) → i < length vs
      → get_or (values s) i 0 ≡ tolerance_restored W (fraction_bits W) (bin_of W (fraction_bits W) k) (tolerance_code W (fraction_bits W) (halves_at level) (bin_of W (fraction_bits W) k) (get_or vs i 0))
  by_the_rule e i below = ruled_values (halves_at level) W level mode k group vs packable is_sent.0 (need (setting_of W mode k group)) s is_sent.2 e i below
