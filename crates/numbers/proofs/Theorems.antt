-- The theorems of the number rules, each stated once over the width W and the fraction bits m, and at the end for binary32 and binary64.
-- The proofs are citations of the laws in proofs/Law/, here and in `bins`. The words are those of specs/, here and there.
use Rattle.std.proofs.Common.{◌≡◌, ℕ, suc, ◌+◌, ◌-◌, ◌*◌, ◌/◌, ◌%◌, ◌^◌, ◌<◌, ◌≤◌, Bool, true, false, cond, eqb, leb, List, [], ◌∷◌, ◌++◌, length, get_or, take, replicate, ℤ, pos, negsuc, sym, refl, ap, ◌∙◌, subst, le_refl, mod-lt, arith, lit<, lit≤, pow_pos, le-leb, Some, None, Ok, Err}
use lib.Ieee.{binary32, binary64, inf, nan, of_bits}
use lib.Ieee.Exact.{HasValue}
use Rattle.numbers.specs.declared.bound.BoundError.TheVariants.{NoTolerance, TooSmall}
use Rattle.numbers.specs.Answers.{code_answer, pattern_answer}
use Rattle.numbers.specs.Signed.{signed_view}
use Rattle.numbers.specs.Lossless.{field, stepped, lossless_code, unstepped, lossless_restored}
use Rattle.numbers.specs.Difference.{difference_code, difference_codes, difference_restored, running_sums, last_of}
use Rattle.bins.specs.Tolerance.{k_offset, last_bin, allowed_k, bin_of, known_halves, sign, ordinal, magnitude, threshold, threshold_ordinal, near, restored_ordinal, tolerance_code, tolerance_restored, largest_u}
use Rattle.bins.specs.Answers.{bin_answer}
use Rattle.numbers.specs.Bound.{is_tolerance, exponent_of, not_above, bound_at}
use Rattle.numbers.specs.Theorem.{Format, Reads, Nearest, distance, Within, IsBound, Returned, BoundFor}
use Rattle.numbers.proofs.Law.Lossless as Lossless
use Rattle.numbers.proofs.Law.Difference as Difference
use Rattle.bins.proofs.Law.Tolerance as Tolerance
use Rattle.bins.proofs.Law.Answers.{bin_small, allowed, bin_is, refused_is}
use Rattle.bins.proofs.Law.Exponent.{int_le_both}
use Rattle.numbers.proofs.Law.Halves.{nearest_is}
use Rattle.numbers.proofs.Law.Bound as Bound
use Rattle.bins.proofs.Law.Ieee as Ieee
use Rattle.numbers.proofs.Law.Read as Read
use Rattle.numbers.proofs.Law.BoundRead as BoundRead

-- ---- the widths: binary32 and binary64, and binary16 by its numbers alone

pub format_32 : Format 32 23
unfolding k_offset last_bin
format_32 = record { room = lit≤ tt; least = lit< tt; order = lit≤ tt }

pub format_64 : Format 64 52
unfolding k_offset last_bin
format_64 = record { room = lit≤ tt; least = lit< tt; order = lit≤ tt }

pub format_16 : Format 16 10
unfolding k_offset last_bin
format_16 = record { room = lit≤ tt; least = lit< tt; order = lit≤ tt }

-- ---- the answers of `bin`: the bin of an allowed k, or none

pub a_bin_is_that_of_k : (W m : ℕ) (k : ℤ) (j : ℕ) → bin_answer W m k ≡ Some j → (allowed_k W m k ≡ true) × (bin_of W m k ≡ j)
a_bin_is_that_of_k W m k j e = (allowed W m k j e, bin_is W m k j e)

pub no_bin_means_not_allowed : (W m : ℕ) (k : ℤ) → bin_answer W m k ≡ None → allowed_k W m k ≡ false
no_bin_means_not_allowed W m k e = refused_is W m k (allowed_k W m k) refl e

-- a bin and its k: each gives the other back
module _ (W m : ℕ) (format : Format W m) where
  pub the_k_of_a_bin_is_allowed : (j : ℕ) → j ≤ last_bin W m → allowed_k W m (exponent_of W m j) ≡ true
  the_k_of_a_bin_is_allowed = Bound.bin_allowed W m format

  pub the_bin_of_its_k : (j : ℕ) → bin_of W m (exponent_of W m j) ≡ j
  the_bin_of_its_k = Bound.bin_back W m format

  pub the_k_of_its_bin : (k : ℤ) → allowed_k W m k ≡ true → exponent_of W m (bin_of W m k) ≡ k
  the_k_of_its_bin = Bound.exponent_back W m format

-- ---- differences, which know no fraction bits: `before` is the pattern that a list stands behind. Who packs and restores lists by parts needs no more
-- of `difference_codes`, `running_sums` and `last_of` than this: nothing, an append with its carry, one more, the length and the bound.

pub nothing_carries_on : (before : ℕ) → last_of before [] ≡ before
unfolding last_of
nothing_carries_on before = refl

pub an_append_carries_on : (before : ℕ) (xs ys : List ℕ) → last_of before (xs ++ ys) ≡ last_of (last_of before xs) ys
an_append_carries_on = Difference.last_append

pub the_last_of_a_beginning : (before : ℕ) (xs : List ℕ) (i : ℕ) → i < length xs → last_of before (take (suc i) xs) ≡ get_or xs i 0
the_last_of_a_beginning = Difference.last_taken

pub the_last_of_a_list : (before : ℕ) (xs : List ℕ) (i : ℕ) → length xs ≡ suc i → last_of before xs ≡ get_or xs i 0
the_last_of_a_list = Difference.last_is

pub the_last_is_below : (N before : ℕ) (xs : List ℕ) → before < N → ((i : ℕ) → get_or xs i 0 < N) → last_of before xs < N
the_last_is_below = Difference.last_under

module _ (W before : ℕ) where
  pub no_differences : difference_codes W before [] ≡ []
  unfolding difference_codes
  no_differences = refl

  pub no_sums : running_sums W before [] ≡ []
  unfolding running_sums
  no_sums = refl

  pub differences_of_an_append : (ps qs : List ℕ) → difference_codes W before (ps ++ qs) ≡ difference_codes W before ps ++ difference_codes W (last_of before ps) qs
  differences_of_an_append = Difference.codes_append W before

  pub sums_of_an_append : (cs ds : List ℕ) → running_sums W before (cs ++ ds) ≡ running_sums W before cs ++ running_sums W (last_of before (running_sums W before cs)) ds
  sums_of_an_append = Difference.sums_append W before

  pub one_more_difference : (ps : List ℕ) (i : ℕ) → i < length ps
      → difference_codes W before (take (suc i) ps) ≡ difference_codes W before (take i ps) ++ (difference_code W (last_of before (take i ps)) (get_or ps i 0) ∷ [])
  one_more_difference = Difference.one_more_code W before

  pub one_more_sum : (cs : List ℕ) (i : ℕ) → i < length cs
      → let sums = running_sums W before (take i cs) in
      running_sums W before (take (suc i) cs) ≡ sums ++ (difference_restored W (last_of before sums) (get_or cs i 0) ∷ [])
  one_more_sum = Difference.one_more_sum W before

  pub the_last_sum : (cs : List ℕ) (i : ℕ) → i < length cs
      → last_of before (running_sums W before (take (suc i) cs)) ≡ difference_restored W (last_of before (running_sums W before (take i cs))) (get_or cs i 0)
  the_last_sum = Difference.last_sum W before

  pub four_sums : (cs : List ℕ) → 4 ≤ length cs
      → let a = difference_restored W before (get_or cs 0 0) in
      let b = difference_restored W a (get_or cs 1 0) in
      let c = difference_restored W b (get_or cs 2 0) in
      let d = difference_restored W c (get_or cs 3 0) in
      (running_sums W before (take 4 cs) ≡ a ∷ b ∷ c ∷ d ∷ []) × (last_of before (running_sums W before (take 4 cs)) ≡ d)
  four_sums cs h = (Difference.four_sums W before cs h, Difference.four_last W before cs h)

  pub as_many_differences : (ps : List ℕ) → length (difference_codes W before ps) ≡ length ps
  as_many_differences = Difference.length_difference_codes W before

  pub as_many_sums : (cs : List ℕ) → length (running_sums W before cs) ≡ length cs
  as_many_sums = Difference.length_sums W before

module _ (W : ℕ) (some : 0 < W) where
  pub a_sum_has_W_bits : (before c : ℕ) → difference_restored W before c < 2 ^ W
  a_sum_has_W_bits = Difference.restored_under W some

  -- The code 0 repeats the pattern before.
  pub sums_of_zeros : (before n : ℕ) → before < 2 ^ W → running_sums W before (replicate n 0) ≡ replicate n before
  sums_of_zeros = Difference.sums_of_zeros W some

  -- A code has W bits, and so has a pattern that is restored.
  pub difference_codes_have_W_bits : (before : ℕ) (ps : List ℕ) (i : ℕ) → get_or (difference_codes W before ps) i 0 < 2 ^ W
  difference_codes_have_W_bits = Difference.codes_under W some

  pub running_sums_have_W_bits : (before : ℕ) (cs : List ℕ) (i : ℕ) → get_or (running_sums W before cs) i 0 < 2 ^ W
  running_sums_have_W_bits = Difference.sums_under W some

  -- Demand 2: lossless packing restores every bit pattern, here those of a whole list.
  pub every_list_is_restored : (before : ℕ) (ps : List ℕ) → before < 2 ^ W → ((i : ℕ) → get_or ps i 0 < 2 ^ W)
      → running_sums W before (difference_codes W before ps) ≡ ps
  every_list_is_restored = Difference.sums_of_codes W some

  -- Every list of codes of W bits has exactly one list of patterns.
  pub every_list_of_codes_has_one_list : (before : ℕ) (cs : List ℕ) → before < 2 ^ W → ((i : ℕ) → get_or cs i 0 < 2 ^ W)
      → (ps : List ℕ) × ((i : ℕ) → get_or ps i 0 < 2 ^ W) × (difference_codes W before ps ≡ cs)
      × ((qs : List ℕ) → ((i : ℕ) → get_or qs i 0 < 2 ^ W) → difference_codes W before qs ≡ cs → qs ≡ ps)
  every_list_of_codes_has_one_list before cs b h = (
    running_sums W before cs,
    Difference.sums_under W some before cs,
    Difference.codes_of_sums W some before cs b h,
    λ qs l e. sym (every_list_is_restored before qs b l) ∙ ap (running_sums W before) e,
  )

-- ---- lossless

module _ (W m : ℕ) (format : Format W m) where
  room : m + 2 ≤ W
  room = omega (arith, format.room)

  -- A code has W bits, and so has a pattern that is restored.
  pub lossless_code_has_W_bits : (p : ℕ) → p < 2 ^ W → lossless_code W m p < 2 ^ W
  lossless_code_has_W_bits = Lossless.code_below W m room

  pub lossless_pattern_has_W_bits : (c : ℕ) → c < 2 ^ W → lossless_restored W m c < 2 ^ W
  lossless_pattern_has_W_bits = Lossless.restored_below W m room

  -- "In effect exponent 0 stays 0, and in single precision 1..128 become -128..-1 and 129..255 become 1..127; in double, 1..1024 become -1024..-1 and
  -- 1025..2047 become 1..1023": what the exponent e of a rotated pattern becomes, in two's complement. (negsuc n is -(n + 1).)
  -- What stands below the exponent stays.
  pub exponents_in_effect : (r : ℕ) → r < 2 ^ W
      → let middle = 2 ^ (W - 2 - m) in
      let e = field m r in
      let becomes = signed_view (W - 1 - m) (field m (stepped W m r)) in
      (stepped W m r < 2 ^ W) × (e ≡ 0 → stepped W m r ≡ r) × (1 ≤ e → e ≤ middle → becomes ≡ negsuc (middle - e))
      × (middle < e → becomes ≡ pos (e - middle)) × (stepped W m r % 2 ^ (m + 1) ≡ r % 2 ^ (m + 1))
  exponents_in_effect r h = (
    Lossless.stepped_below W m room r h,
    Lossless.zero_stays W m room r,
    Lossless.low_exponent W m room r,
    Lossless.high_exponent W m room r h,
    Lossless.rest_stays W m room r h,
  )

  -- and what the inverse makes of it: an exponent above zero comes from above the middle, and one below zero, which is e less 2 * middle, from up to it
  pub exponents_back : (s : ℕ) → s < 2 ^ W
      → let middle = 2 ^ (W - 2 - m) in
      let e = field m s in
      let was = field m (unstepped W m s) in
      (e ≡ 0 → unstepped W m s ≡ s) × (1 ≤ e → e < middle → was ≡ e + middle) × (middle ≤ e → was ≡ e + 1 - middle)
  exponents_back s h = (Lossless.zero_back W m room s, Lossless.above_back W m room s, Lossless.below_back W m room s h)

  -- Demand 2: lossless packing restores every bit pattern.
  pub every_pattern_is_restored : (p : ℕ) → p < 2 ^ W → lossless_restored W m (lossless_code W m p) ≡ p
  every_pattern_is_restored = Lossless.restored_code W m room

  -- The code 0 is that of the pattern 0.
  pub lossless_zero : lossless_restored W m 0 ≡ 0
  lossless_zero = Lossless.restored_zero W m

  -- "Every code has exactly one pattern."
  pub every_code_has_one_pattern : (c : ℕ) → c < 2 ^ W
      → (p : ℕ) × (p < 2 ^ W) × (lossless_code W m p ≡ c) × ((q : ℕ) → q < 2 ^ W → lossless_code W m q ≡ c → q ≡ p)
  every_code_has_one_pattern c h = (
    lossless_restored W m c,
    Lossless.restored_below W m room c h,
    Lossless.code_restored W m room c h,
    λ q l e. sym (every_pattern_is_restored q l) ∙ ap (lossless_restored W m) e,
  )

  -- ---- tolerance

  -- A code has W bits, and so has a pattern that is restored, at every bin.
  module _ (j : ℕ) (in-range : j ≤ last_bin W m) where
    pub tolerance_code_has_W_bits : (rule p : ℕ) → p < 2 ^ W → tolerance_code W m rule j p < 2 ^ W
    tolerance_code_has_W_bits = Tolerance.code_under W m format.room j in-range

    pub tolerance_pattern_has_W_bits : (c : ℕ) → tolerance_restored W m j c < 2 ^ W
    tolerance_pattern_has_W_bits = Tolerance.pattern_under W m format.room j in-range

    -- The code 0 is that of the pattern 0.
    pub tolerance_zero : tolerance_restored W m j 0 ≡ 0
    tolerance_zero = Tolerance.restored_zero W m format.room j in-range

    -- "The largest u": no pattern has a larger one ..
    pub no_u_is_larger : (rule p : ℕ) → p < 2 ^ W → tolerance_code W m rule j p / 2 ≤ largest_u W m j
    unfolding ordinal
    no_u_is_larger rule p h =
        rw (Tolerance.code_half W m format.room j in-range rule p h)
        (Tolerance.code_largest W m format.room j in-range rule (ordinal W p) (mod-lt p (pow_pos (W - 1))))

  -- a rule that has a code is known, and a k that has one is allowed
  module _ (rule : ℕ) (k : ℤ) (p c : ℕ) (e : code_answer W m rule k p ≡ Some c) where
    pub a_coded_rule_is_known : known_halves rule ≡ true
    unfolding code_answer
    a_coded_rule_is_known = go (known_halves rule) refl
      where
        go : (b : Bool) → known_halves rule ≡ b → known_halves rule ≡ true
        go true is = is
        go false is = let z : None ≡ Some c = rw is at e in cc

    pub a_coded_k_is_allowed : allowed_k W m k ≡ true
    unfolding code_answer
    a_coded_k_is_allowed = go (allowed_k W m k) refl
      where
        go : (b : Bool) → allowed_k W m k ≡ b → allowed_k W m k ≡ true
        go true is = is
        go false is = let z : None ≡ Some c = rw (a_coded_rule_is_known, is) at e in cc

  module _ (k : ℤ) (is-allowed : allowed_k W m k ≡ true) where
    pub an_allowed_k_has_a_bin : bin_of W m k ≤ last_bin W m
    an_allowed_k_has_a_bin = bin_small W m k format.least format.order is-allowed

    -- Demand 2: under tolerance 2^k, a value whose magnitude is below the threshold returns at most 2^k off, exactly; all else returns bit
    -- for bit. By either rule for halves.
    pub every_pattern_returns_within : (rule p : ℕ) → p < 2 ^ W
        → Within W m (bin_of W m k) p (tolerance_restored W m (bin_of W m k) (tolerance_code W m rule (bin_of W m k) p))
    unfolding distance
    every_pattern_returns_within rule p h =
        let j = bin_of W m k in
        record {
          signed = Tolerance.sign_returns W m format.room j an_allowed_k_has_a_bin rule p h;
          close = λ l.
              rw (Tolerance.ordinal_returned W m format.room j an_allowed_k_has_a_bin rule p h)
              (let near = Tolerance.returns_close m rule j (ordinal W p) l in omega (arith, near.0, near.1));
          exact = Tolerance.pattern_returns W m format.room j an_allowed_k_has_a_bin rule p h;
        }

    -- below the threshold u is the number of bins nearest to the magnitude; where a half goes is the rule's to say
    pub the_code_is_the_nearest : (rule p : ℕ) → p < 2 ^ W → magnitude m (ordinal W p) < threshold m (bin_of W m k)
        → Nearest rule (magnitude m (ordinal W p)) (2 ^ bin_of W m k) (tolerance_code W m rule (bin_of W m k) p / 2)
    unfolding near
    the_code_is_the_nearest rule p h l =
        let j = bin_of W m k in
        rw (Tolerance.code_half W m format.room j an_allowed_k_has_a_bin rule p h, Tolerance.code_below m rule j (ordinal W p) l) (nearest_is rule (magnitude m (ordinal W p)) (2 ^ j) (pow_pos j))

    -- from the threshold on it counts ordinals
    pub the_code_beyond : (rule p : ℕ) → p < 2 ^ W → threshold m (bin_of W m k) ≤ magnitude m (ordinal W p)
        → tolerance_code W m rule (bin_of W m k) p / 2 + threshold_ordinal m (bin_of W m k) ≡ ordinal W p + 2 ^ m
    the_code_beyond rule p h l =
        let j = bin_of W m k in
        rw (Tolerance.code_half W m format.room j an_allowed_k_has_a_bin rule p h, Tolerance.code_from m rule j (ordinal W p) l) (omega (arith, Tolerance.ordinal_from m j (ordinal W p) l))

    -- and its lowest bit is the sign
    pub the_code_has_the_sign : (rule p : ℕ) → p < 2 ^ W → tolerance_code W m rule (bin_of W m k) p % 2 ≡ sign W p
    the_code_has_the_sign = Tolerance.code_parity W m format.room (bin_of W m k) an_allowed_k_has_a_bin

    -- so of the answers for a k: a pattern's code is restored within the tolerance
    pub a_code_is_restored : (rule p c : ℕ) → p < 2 ^ W → code_answer W m rule k p ≡ Some c
        → (q : ℕ) × (pattern_answer W m k c ≡ Ok q) × Within W m (bin_of W m k) p q
    unfolding code_answer pattern_answer
    a_code_is_restored rule p c h e =
        let coded : Some (tolerance_code W m rule (bin_of W m k) p) ≡ Some c = rw (a_coded_rule_is_known rule k p c e, is-allowed) at e in
        let is : tolerance_code W m rule (bin_of W m k) p ≡ c = cc in
        let least : c / 2 ≤ largest_u W m (bin_of W m k) = subst (λ (c : ℕ). c / 2 ≤ largest_u W m (bin_of W m k)) is (no_u_is_larger (bin_of W m k) an_allowed_k_has_a_bin rule p h) in (
          tolerance_restored W m (bin_of W m k) c,
          rw (is-allowed, le-leb (c / 2) (largest_u W m (bin_of W m k)) least),
          subst (λ (c : ℕ). Within W m (bin_of W m k) p (tolerance_restored W m (bin_of W m k) c)) is (every_pattern_returns_within rule p h),
        )

    -- infinities and not-a-numbers too: their ordinals are those from the largest exponent on
    pub specials_return : (rule p : ℕ) → p < 2 ^ W → (2 ^ (W - 1 - m) - 1) * 2 ^ m ≤ ordinal W p
        → tolerance_restored W m (bin_of W m k) (tolerance_code W m rule (bin_of W m k) p) ≡ p
    specials_return rule p h l =
        Tolerance.pattern_returns W m format.room (bin_of W m k) an_allowed_k_has_a_bin rule p h (Tolerance.special_above W m format.room (bin_of W m k) an_allowed_k_has_a_bin (ordinal W p) l)

    -- .. and each u up to it is that of the pattern it restores
    pub nothing_read_is_lost : (rule c : ℕ) → c / 2 ≤ largest_u W m (bin_of W m k)
        → tolerance_code W m rule (bin_of W m k) (tolerance_restored W m (bin_of W m k) c) ≡ c
    nothing_read_is_lost = Tolerance.code_returns W m format.room (bin_of W m k) an_allowed_k_has_a_bin

    -- "Restored: u·E if u < 2^m", and at u = 2^m the threshold, which is 2^m·E: the magnitude, and the sign beside it
    module _ (c : ℕ) (small : c / 2 ≤ 2 ^ m) (read : c / 2 ≤ largest_u W m (bin_of W m k)) where
      parts : tolerance_restored W m (bin_of W m k) c ≡ restored_ordinal m (bin_of W m k) (c / 2) + c % 2 * 2 ^ (W - 1)
      parts = Tolerance.restored_parts W m format.room (bin_of W m k) an_allowed_k_has_a_bin c read

      ordinal_room : restored_ordinal m (bin_of W m k) (c / 2) < 2 ^ (W - 1)
      ordinal_room = Tolerance.restored_small W m format.room (bin_of W m k) an_allowed_k_has_a_bin (c / 2) read

      pub u_restores_u_bins : magnitude m (ordinal W (tolerance_restored W m (bin_of W m k) c)) ≡ c / 2 * 2 ^ bin_of W m k
      u_restores_u_bins =
          ap (λ (p : ℕ). magnitude m (ordinal W p)) parts
          ∙ ap (magnitude m) (Tolerance.joined_ordinal W m format.room (bin_of W m k) an_allowed_k_has_a_bin (restored_ordinal m (bin_of W m k) (c / 2)) (c % 2) ordinal_room)
          ∙ Tolerance.restored_magnitude m (bin_of W m k) (c / 2) small

      pub the_sign_is_put_back : sign W (tolerance_restored W m (bin_of W m k) c) ≡ c % 2
      the_sign_is_put_back =
          ap (sign W) parts ∙ Tolerance.joined_sign W m format.room (bin_of W m k) an_allowed_k_has_a_bin (restored_ordinal m (bin_of W m k) (c / 2)) (c % 2) ordinal_room

  -- ---- bound

  -- "answers the largest allowed k with 2^k not above it"
  pub bound_is_the_largest : (t : ℕ) (k : ℤ) → bound_at W m t ≡ Ok k → IsBound W m t k
  bound_is_the_largest = Bound.bound_sound W m format

  -- and only that one
  pub there_is_one_bound : (t : ℕ) (k other : ℤ) → IsBound W m t k → IsBound W m t other → k ≡ other
  there_is_one_bound t k other a b = int_le_both k other (b.largest k a.allowed a.below).le (a.largest other b.allowed b.below).le

  -- 13: "no allowed k is small enough"
  pub too_small_means_none : (t : ℕ) → bound_at W m t ≡ Err TooSmall → (k : ℤ) → allowed_k W m k ≡ true → not_above W m t (bin_of W m k) ≡ false
  too_small_means_none = Bound.bound_refused W m format

  -- where there is a bound, it is answered; 12 is answered only for what is not a finite number above 0
  pub a_bound_is_answered : (t : ℕ) (k : ℤ) → is_tolerance t ≡ true → IsBound W m t k → bound_at W m t ≡ Ok k
  a_bound_is_answered t k tolerance is = Bound.bound_complete W m format t k tolerance is (λ other b. there_is_one_bound t other k b is)

  pub no_tolerance_means_none : (t : ℕ) → bound_at W m t ≡ Err NoTolerance → is_tolerance t ≡ false
  no_tolerance_means_none = Bound.bound_untold W m format

-- ---- the magnitude is IEEE 754's, by the toolchain's own account of it

-- a finite binary32 pattern stands for its magnitude times 2 ^ -149, with the sign of its highest bit
pub binary32_value : (p : ℕ) → ordinal 32 p / 2 ^ 23 < 255 → HasValue (of_bits binary32 p) (leb (2 ^ 31) p) (magnitude 23 (ordinal 32 p)) (2 ^ 149)
unfolding ordinal
binary32_value = Ieee.finite_value binary32

-- a finite binary64 pattern stands for its magnitude times 2 ^ -1074
pub binary64_value : (p : ℕ) → ordinal 64 p / 2 ^ 52 < 2047 → HasValue (of_bits binary64 p) (leb (2 ^ 63) p) (magnitude 52 (ordinal 64 p)) (2 ^ 1074)
unfolding ordinal
binary64_value = Ieee.finite_value binary64

-- the other patterns are the infinities and the not-a-numbers
pub binary32_special : (p : ℕ) → ordinal 32 p / 2 ^ 23 ≡ 255 → of_bits binary32 p ≡ cond (eqb (p % 2 ^ 23) 0) (inf (leb (2 ^ 31) p)) nan
unfolding ordinal
binary32_special = Ieee.special_value binary32

pub binary64_special : (p : ℕ) → ordinal 64 p / 2 ^ 52 ≡ 2047 → of_bits binary64 p ≡ cond (eqb (p % 2 ^ 52) 0) (inf (leb (2 ^ 63) p)) nan
unfolding ordinal
binary64_special = Ieee.special_value binary64

-- ---- demand 2 and bound in the words of IEEE 754: what our magnitudes say, said of the numbers that patterns are read as

-- what a pattern is read as has that magnitude
pub binary32_magnitude : (p : ℕ) (negative : Bool) (x : ℕ) → Reads binary32 p negative x → x ≡ magnitude 23 (ordinal 32 p)
unfolding ordinal
binary32_magnitude p negative x reads = (Read.read_as binary32 p negative x reads).1

pub binary64_magnitude : (p : ℕ) (negative : Bool) (x : ℕ) → Reads binary64 p negative x → x ≡ magnitude 52 (ordinal 64 p)
unfolding ordinal
binary64_magnitude p negative x reads = (Read.read_as binary64 p negative x reads).1

pub binary32_returned : (j : ℕ) → j ≤ last_bin 32 23 → (p q : ℕ) → Within 32 23 j p q → Returned binary32 j p q
binary32_returned = Read.returned binary32 32 refl refl (lit≤ tt)

pub binary64_returned : (j : ℕ) → j ≤ last_bin 64 52 → (p q : ℕ) → Within 64 52 j p q → Returned binary64 j p q
binary64_returned = Read.returned binary64 64 refl refl (lit≤ tt)

pub bound_for_binary32 : (t : ℕ) → BoundFor 32 23 t (bound_at 32 23 t)
unfolding k_offset
bound_for_binary32 = BoundRead.bound_for 32 23 format_32 (lit≤ tt)

pub bound_for_binary64 : (t : ℕ) → BoundFor 64 52 t (bound_at 64 52 t)
bound_for_binary64 = BoundRead.bound_for 64 52 format_64 (le_refl (k_offset 64 52))
