-- What the answer of a bin says of the answers that go through it, once over W and m.
use Rattle.std.proofs.Common.{◌≡◌, ℕ, ◌/◌, ◌<◌, ◌≤◌, min, Bool, true, false, cond, ◌&&◌, leb, ℤ, sym, refl, ap, ◌∙◌, arith, le-leb, Some, None, Ok, Err}
use borrow.Author.Tests.{lt-leb}
use Rattle.bins.specs.Tolerance.{k_offset, last_bin, allowed_k, bin_of, known_halves, tolerance_code, tolerance_restored, largest_u}
use Rattle.bins.specs.Answers.{bin_answer}
use Rattle.bins.proofs.Law.Answers.{allowed, bin_is, refused_is, unclipped}
use Rattle.numbers.specs.declared.tolerance.PatternError.TheVariants.{NotAllowed, AboveLargest}
use Rattle.numbers.specs.Answers.{code_answer, pattern_answer}

module _ (W m : ℕ) (k : ℤ) where
  pub no_rule : (rule p : ℕ) → 1 < rule → code_answer W m rule k p ≡ None
  unfolding code_answer known_halves
  no_rule rule p unknown = rw (lt-leb rule 1 unknown)

  module _ (j : ℕ) (is : bin_answer W m k ≡ Some j) where
    pub code_is : (rule p : ℕ) → rule ≤ 1 → code_answer W m rule k p ≡ Some (tolerance_code W m rule j p)
    unfolding code_answer known_halves
    code_is rule p known = rw (le-leb rule 1 known, allowed W m k j is, bin_is W m k j is)

    pub pattern_is : (c : ℕ) → c / 2 ≤ largest_u W m j → pattern_answer W m k c ≡ Ok (tolerance_restored W m j c)
    unfolding pattern_answer
    pattern_is c h = rw (allowed W m k j is, bin_is W m k j is, le-leb (c / 2) (largest_u W m j) h)

    pub above_is : (c : ℕ) → largest_u W m j < c / 2 → pattern_answer W m k c ≡ Err AboveLargest
    unfolding pattern_answer
    above_is c h = rw (allowed W m k j is, bin_is W m k j is, lt-leb (c / 2) (largest_u W m j) h)

  module _ (is : bin_answer W m k ≡ None) where
    pub no_code : (rule p : ℕ) → code_answer W m rule k p ≡ None
    unfolding code_answer known_halves
    no_code rule p = go (leb rule 1)
      where
        go : (known : Bool) → cond (known && allowed_k W m k) (Some (tolerance_code W m rule (bin_of W m k) p)) None ≡ None
        go true = rw (refused_is W m k (allowed_k W m k) refl is)
        go false = refl

    pub no_pattern : (c : ℕ) → pattern_answer W m k c ≡ Err NotAllowed
    unfolding pattern_answer
    no_pattern c = rw (refused_is W m k (allowed_k W m k) refl is)

-- what the code says of a bin that it clips: the bin of an allowed k is not clipped
module _ (W m : ℕ) (k : ℤ) (j : ℕ) (is : bin_answer W m k ≡ Some j) (some : 0 < k_offset W m) (order : k_offset W m ≤ last_bin W m) where
  own : min j (last_bin W m) ≡ j
  own = unclipped W m k j is some order

  pub coded : (rule p c : ℕ) → rule ≤ 1 → c ≡ tolerance_code W m rule (min j (last_bin W m)) p → Some c ≡ code_answer W m rule k p
  coded rule p c known e = ap (λ (n : ℕ). Some n) (e ∙ ap (λ (n : ℕ). tolerance_code W m rule n p) own) ∙ sym (code_is W m k j is rule p known)

  pub above : (last u c : ℕ) → last ≡ largest_u W m (min j (last_bin W m)) → u ≡ c / 2 → last < u → Err AboveLargest ≡ pattern_answer W m k c
  above last u c e f h = sym (above_is W m k j is c (omega (arith, e ∙ ap (largest_u W m) own)))

  pub patterned : (last u c p : ℕ) → last ≡ largest_u W m (min j (last_bin W m)) → u ≡ c / 2 → u ≤ last → p ≡ tolerance_restored W m (min j (last_bin W m)) c → Ok p ≡ pattern_answer W m k c
  patterned last u c p e f h g =
      ap (λ (n : ℕ). Ok n) (g ∙ ap (λ (n : ℕ). tolerance_restored W m n c) own) ∙ sym (pattern_is W m k j is c (omega (arith, e ∙ ap (largest_u W m) own)))
