-- The laws of the difference code, once over W: of one pattern behind another, and of a list with its carry.
use Rattle.std.proofs.Common.{◌≡◌, ℕ, zero, suc, ◌+◌, ◌-◌, ◌%◌, ◌^◌, ◌<◌, ◌≤◌, ◌⊎◌, List, [], ◌∷◌, ◌++◌, length, get_or, take, replicate, sym, refl, ap, ◌∙◌, ap₂, inl, inr, le_of_eq, le_of_suc-le-suc, not-suc-le-zero, add-zero, mod-lt, mod-eq_of_lt, add_comm, arith, take_all, take-suc, pow_pos}
use Rattle.numbers.specs.Signed.{signed_view, unfolded, bits_of}
use Rattle.numbers.specs.Lossless.{minus, plus}
use Rattle.numbers.specs.Difference.{difference_code, difference_codes, difference_restored, running_sums, last_of}
use Rattle.numbers.proofs.Law.Signed.{unfolded_folded, folded_unfolded, bits_of_view, view_of_bits, bits_below, folded_below}
use Rattle.bins.proofs.Law.Number.{le_or_lt, mod_once, minus_plain, minus_wraps, wraps_minus}

-- ---- the carry

pub last_append : (before : ℕ) (xs ys : List ℕ) → last_of before (xs ++ ys) ≡ last_of (last_of before xs) ys
unfolding last_of
last_append before [] ys = refl
last_append before (x ∷ xs) ys = last_append x xs ys

-- of a list that is not empty
pub last_taken : (before : ℕ) (xs : List ℕ) (i : ℕ) → i < length xs → last_of before (take (suc i) xs) ≡ get_or xs i 0
unfolding last_of
last_taken before [] i h = absurd (not-suc-le-zero h)
last_taken before (x ∷ xs) zero h = refl
last_taken before (x ∷ xs) (suc i) h = last_taken x xs i (le_of_suc-le-suc h)

pub last_is : (before : ℕ) (xs : List ℕ) (i : ℕ) → length xs ≡ suc i → last_of before xs ≡ get_or xs i 0
last_is before xs i e = ap (last_of before) (sym (take_all (suc i) xs (le_of_eq e))) ∙ last_taken before xs i (le_of_eq (sym e))

pub last_under : (N before : ℕ) (xs : List ℕ) → before < N → ((i : ℕ) → get_or xs i 0 < N) → last_of before xs < N
unfolding last_of
last_under N before [] h below = h
last_under N before (x ∷ xs) h below = last_under N x xs (below 0) (λ i. below (suc i))

-- ---- a list and its carry: the append and the length, of codes and of sums

pub codes_append : (W before : ℕ) (ps qs : List ℕ)
    → difference_codes W before (ps ++ qs) ≡ difference_codes W before ps ++ difference_codes W (last_of before ps) qs
unfolding difference_codes last_of
codes_append W before [] qs = refl
codes_append W before (p ∷ ps) qs = ap (λ (l : List ℕ). difference_code W before p ∷ l) (codes_append W p ps qs)

pub length_difference_codes : (W before : ℕ) (ps : List ℕ) → length (difference_codes W before ps) ≡ length ps
unfolding difference_codes
length_difference_codes W before [] = refl
length_difference_codes W before (p ∷ ps) = ap suc (length_difference_codes W p ps)

pub sums_append : (W before : ℕ) (cs ds : List ℕ)
    → running_sums W before (cs ++ ds) ≡ running_sums W before cs ++ running_sums W (last_of before (running_sums W before cs)) ds
unfolding running_sums last_of
sums_append W before [] ds = refl
sums_append W before (c ∷ cs) ds =
    ap (λ (l : List ℕ). difference_restored W before c ∷ l) (sums_append W (difference_restored W before c) cs ds)

pub length_sums : (W before : ℕ) (cs : List ℕ) → length (running_sums W before cs) ≡ length cs
unfolding running_sums
length_sums W before [] = refl
length_sums W before (c ∷ cs) = ap suc (length_sums W (difference_restored W before c) cs)

-- one element more
module _ (W before : ℕ) (xs : List ℕ) (i : ℕ) (h : i < length xs) where
  pub one_more_code : difference_codes W before (take (suc i) xs) ≡ difference_codes W before (take i xs) ++ (difference_code W (last_of before (take i xs)) (get_or xs i 0) ∷ [])
  unfolding difference_codes
  one_more_code = ap (difference_codes W before) (take-suc xs i 0 h) ∙ codes_append W before (take i xs) (get_or xs i 0 ∷ [])

  abbrev sums : List ℕ
  sums = running_sums W before (take i xs)

  pub one_more_sum : running_sums W before (take (suc i) xs) ≡ sums ++ (difference_restored W (last_of before sums) (get_or xs i 0) ∷ [])
  unfolding running_sums
  one_more_sum = ap (running_sums W before) (take-suc xs i 0 h) ∙ sums_append W before (take i xs) (get_or xs i 0 ∷ [])

  pub last_sum : last_of before (running_sums W before (take (suc i) xs)) ≡ difference_restored W (last_of before sums) (get_or xs i 0)
  unfolding last_of
  last_sum = ap (last_of before) one_more_sum ∙ last_append before sums (difference_restored W (last_of before sums) (get_or xs i 0) ∷ [])

-- four of them
pub four_sums : (W before : ℕ) (cs : List ℕ) → 4 ≤ length cs
    → let a = difference_restored W before (get_or cs 0 0) in
    let b = difference_restored W a (get_or cs 1 0) in
    let c = difference_restored W b (get_or cs 2 0) in
    running_sums W before (take 4 cs) ≡ a ∷ b ∷ c ∷ difference_restored W c (get_or cs 3 0) ∷ []
unfolding running_sums
four_sums W before [] h = absurd (omega arith)
four_sums W before (x ∷ []) h = absurd (omega arith)
four_sums W before (x ∷ y ∷ []) h = absurd (omega arith)
four_sums W before (x ∷ y ∷ z ∷ []) h = absurd (omega arith)
four_sums W before (x ∷ y ∷ z ∷ w ∷ cs) h = refl

pub four_last : (W before : ℕ) (cs : List ℕ) → 4 ≤ length cs
    → let a = difference_restored W before (get_or cs 0 0) in
    let b = difference_restored W a (get_or cs 1 0) in
    let c = difference_restored W b (get_or cs 2 0) in
    last_of before (running_sums W before (take 4 cs)) ≡ difference_restored W c (get_or cs 3 0)
unfolding last_of
four_last W before cs h = ap (last_of before) (four_sums W before cs h)

-- ---- one pattern behind another

-- the machine's wrapping difference
pub minus_is : (W p before r : ℕ) → r < 2 ^ W → before < 2 ^ W → (r + before) % 2 ^ W ≡ p → r ≡ minus W p before
unfolding minus
minus_is W p before r h b e = wraps_minus (2 ^ W) p before r h (omega arith) e

module _ (W : ℕ) (some : 0 < W) where
  sum_of_difference : (before p : ℕ) → before < 2 ^ W → p < 2 ^ W → plus W before (minus W p before) ≡ p
  unfolding plus minus
  sum_of_difference before p b h = go (le_or_lt before p)
    where
      go : (before ≤ p) ⊎ (p < before) → plus W before (minus W p before) ≡ p
      go (inl g) =
          rw (minus_plain (2 ^ W) p before g h)
          (ap (λ (n : ℕ). n % 2 ^ W) (let q : before + (p - before) ≡ p = omega arith in q) ∙ mod-eq_of_lt h)
      go (inr g) =
          rw (minus_wraps (2 ^ W) p before g (omega arith))
          (mod_once (before + (p + (2 ^ W - before))) (2 ^ W) (omega arith) (omega arith)
          ∙ (let q : before + (p + (2 ^ W - before)) - 2 ^ W ≡ p = omega arith in q))

  difference_of_sum : (before d : ℕ) → before < 2 ^ W → d < 2 ^ W → minus W (plus W before d) before ≡ d
  unfolding plus minus
  difference_of_sum before d b h =
      sym (wraps_minus (2 ^ W) ((before + d) % 2 ^ W) before d h (omega arith) (ap (λ (n : ℕ). n % 2 ^ W) (add_comm d before)))

  minus_under : (p before : ℕ) → minus W p before < 2 ^ W
  unfolding minus
  minus_under p before = mod-lt (p + (2 ^ W - before)) (pow_pos W)

  pub code_under : (before p : ℕ) → difference_code W before p < 2 ^ W
  unfolding difference_code
  code_under before p = folded_below W some (minus W p before) (minus_under p before)

  pub restored_under : (before c : ℕ) → difference_restored W before c < 2 ^ W
  unfolding difference_restored plus
  restored_under before c = mod-lt (before + bits_of W (unfolded c)) (pow_pos W)

  pub restored_code : (before p : ℕ) → before < 2 ^ W → p < 2 ^ W → difference_restored W before (difference_code W before p) ≡ p
  unfolding difference_restored difference_code
  restored_code before p b h =
      rw (unfolded_folded (signed_view W (minus W p before)), bits_of_view W some (minus W p before) (minus_under p before)) (sum_of_difference before p b h)

  pub code_restored : (before c : ℕ) → before < 2 ^ W → c < 2 ^ W → difference_code W before (difference_restored W before c) ≡ c
  unfolding difference_restored difference_code
  code_restored before c b h =
      rw (difference_of_sum before (bits_of W (unfolded c)) b (bits_below W some c h), view_of_bits W some c h) (folded_unfolded c)

  -- the code 0 repeats the pattern before
  pub restored_same : (before : ℕ) → before < 2 ^ W → difference_restored W before 0 ≡ before
  unfolding difference_restored unfolded bits_of plus
  restored_same before b = ap (λ (n : ℕ). n % 2 ^ W) (add-zero before) ∙ mod-eq_of_lt b

  -- ---- the bound, and there and back

  pub codes_under : (before : ℕ) (ps : List ℕ) → (i : ℕ) → get_or (difference_codes W before ps) i 0 < 2 ^ W
  unfolding difference_codes
  codes_under before [] i = pow_pos W
  codes_under before (p ∷ ps) zero = code_under before p
  codes_under before (p ∷ ps) (suc i) = codes_under p ps i

  pub sums_under : (before : ℕ) (cs : List ℕ) → (i : ℕ) → get_or (running_sums W before cs) i 0 < 2 ^ W
  unfolding running_sums
  sums_under before [] i = pow_pos W
  sums_under before (c ∷ cs) zero = restored_under before c
  sums_under before (c ∷ cs) (suc i) = sums_under (difference_restored W before c) cs i

  pub sums_of_codes : (before : ℕ) (ps : List ℕ) → before < 2 ^ W → ((i : ℕ) → get_or ps i 0 < 2 ^ W) → running_sums W before (difference_codes W before ps) ≡ ps
  unfolding running_sums difference_codes
  sums_of_codes before [] b below = refl
  sums_of_codes before (p ∷ ps) b below =
      let e = restored_code before p b (below 0) in
      ap₂ (λ (q : ℕ) (l : List ℕ). q ∷ l) e
      (ap (λ (q : ℕ). running_sums W q (difference_codes W p ps)) e ∙ sums_of_codes p ps (below 0) (λ i. below (suc i)))

  pub codes_of_sums : (before : ℕ) (cs : List ℕ) → before < 2 ^ W → ((i : ℕ) → get_or cs i 0 < 2 ^ W) → difference_codes W before (running_sums W before cs) ≡ cs
  unfolding running_sums difference_codes
  codes_of_sums before [] b below = refl
  codes_of_sums before (c ∷ cs) b below =
      ap₂ (λ (d : ℕ) (l : List ℕ). d ∷ l) (code_restored before c b (below 0))
      (codes_of_sums (difference_restored W before c) cs (restored_under before c) (λ i. below (suc i)))

  -- codes of no bits repeat the carry
  pub sums_of_zeros : (before n : ℕ) → before < 2 ^ W → running_sums W before (replicate n 0) ≡ replicate n before
  unfolding running_sums
  sums_of_zeros before zero b = refl
  sums_of_zeros before (suc n) b =
      let e = restored_same before b in
      ap₂ (λ (q : ℕ) (l : List ℕ). q ∷ l) e (ap (λ (q : ℕ). running_sums W q (replicate n 0)) e ∙ sums_of_zeros before n b)
