-- Digits and the number that they spell: both round trips, how long they are, and what a part of them spells. For any base above 0.
-- Assumes nothing.
use mathlib.Core.Path.{◌≡◌, refl, sym, ap, ap₂, ◌∙◌, subst, subst₂}
use mathlib.Core.List.{List, [], ◌∷◌, ◌++◌}
use Prim.Native.Nat.{ℕ, zero, suc, ◌+◌, ◌*◌, ◌/◌, ◌%◌, ◌^◌, ◌<◌, zero-le, suc-le-suc}
use native.Mathlib.Nat.{zero-add, suc-add, add-zero, one-mul, one-le-pow, add_comm, add_assoc, mul_comm, mul_assoc, mul-add, mul-zero, pow-zero, pow-suc, pow-succ', zero-lt-suc, le_of_suc-le-suc, not-suc-le-zero}
use native.Mathlib.Nat.{mod-lt, mod-eq_of_lt, mod-one, div-one, zero-mod, zero-div, div-eq_of_lt, div-div-eq-div-mul, add-mul-div_left, add-mul-mod_self_left, lt_of_le_of_lt}
use lib.Arith.{digits_lt, mod-mul}
use lib.ListN.{length, take, drop, get_or, replicate}
use lib.Seq.{get_or-drop}
use Rattle.blocks.specs.Bytes.{Below, number, digits}

-- the base of bytes
pub byte : zero < 256
byte = zero-lt-suc 255

-- what holds of 0 and of each element of a list holds at every index
pub everywhere : (P : ℕ → Type 0) (xs : List ℕ) → P 0 → ((k : ℕ) → k < length xs → P (get_or xs k 0)) → (i : ℕ) → P (get_or xs i 0)
everywhere P [] z h i = z
everywhere P (x ∷ xs) z h zero = h 0 (zero-lt-suc (length xs))
everywhere P (x ∷ xs) z h (suc i) = everywhere P xs z (λ k l. h (suc k) (suc-le-suc l)) i

pub below_cons : (b x : ℕ) (xs : List ℕ) → x < b → Below b xs → Below b (x ∷ xs)
below_cons b x xs h t zero = h
below_cons b x xs h t (suc i) = t i

pub below_append : (b : ℕ) (xs ys : List ℕ) → Below b xs → Below b ys → Below b (xs ++ ys)
below_append b [] ys h k i = k i
below_append b (x ∷ xs) ys h k zero = h 0
below_append b (x ∷ xs) ys h k (suc i) = below_append b xs ys (λ i. h (suc i)) k i

pub below_drop : (b j : ℕ) (xs : List ℕ) → Below b xs → Below b (drop j xs)
below_drop b j xs h i = rw get_or-drop (h (j + i))

pub below_take : (b k : ℕ) (xs : List ℕ) → Below b xs → Below b (take k xs)
below_take b zero xs h i = lt_of_le_of_lt zero-le (h 0)
below_take b (suc k) [] h i = h i
below_take b (suc k) (x ∷ xs) h zero = h 0
below_take b (suc k) (x ∷ xs) h (suc i) = below_take b k xs (λ i. h (suc i)) i

pub length_digits : (b k n : ℕ) → length (digits b k n) ≡ k
unfolding digits
length_digits b zero n = refl
length_digits b (suc k) n = ap suc (length_digits b k (n / b))

module _ (b : ℕ) (pos : zero < b) where
  -- ---- one digit in front

  cons_mod : (x n : ℕ) → x < b → (x + b * n) % b ≡ x
  cons_mod x n h = add-mul-mod_self_left x b n ∙ mod-eq_of_lt h

  cons_div : (x n : ℕ) → x < b → (x + b * n) / b ≡ n
  cons_div x n h = add-mul-div_left x n pos ∙ ap (λ (k : ℕ). k + n) (div-eq_of_lt h) ∙ zero-add n

  div_pow : (n k : ℕ) → n / b / b ^ k ≡ n / b ^ suc k
  div_pow n k = div-div-eq-div-mul n b (b ^ k) ∙ ap (λ (p : ℕ). n / p) (sym (pow-succ' b k))

  div_none : (n : ℕ) → n / b ^ zero ≡ n
  div_none n = ap (λ (p : ℕ). n / p) (pow-zero b) ∙ div-one n

  pub pow_positive : (k : ℕ) → zero < b ^ k
  pow_positive k = one-le-pow k b pos

  mod_cons : (k n : ℕ) → n % b + b * (n / b % b ^ k) ≡ n % b ^ suc k
  mod_cons k n =
      add_comm (n % b) (b * (n / b % b ^ k)) ∙ ap (λ (m : ℕ). m + n % b) (mul_comm b (n / b % b ^ k))
      ∙ sym (mod-mul n (pow_positive k) pos) ∙ ap (λ (p : ℕ). n % p) (sym (pow-suc b k))

  -- ---- the digits of a number

  pub digits_below : (k n : ℕ) → Below b (digits b k n)
  unfolding digits
  digits_below zero n i = pos
  digits_below (suc k) n i = below_cons b (n % b) (digits b k (n / b)) (mod-lt n pos) (digits_below k (n / b)) i

  pub digit_at : (k n i : ℕ) → i < k → get_or (digits b k n) i 0 ≡ n / b ^ i % b
  unfolding digits
  digit_at zero n i h = absurd (not-suc-le-zero h)
  digit_at (suc k) n zero h = ap (λ (m : ℕ). m % b) (sym (div_none n))
  digit_at (suc k) n (suc i) h =
      digit_at k (n / b) i (le_of_suc-le-suc h) ∙ ap (λ (m : ℕ). m % b) (div_pow n i)

  -- the digits of a number are first the low ones, then those of what is above them
  pub digits_append : (j k n : ℕ) → digits b (j + k) n ≡ digits b j n ++ digits b k (n / b ^ j)
  unfolding digits
  digits_append zero k n = ap₂ (digits b) (zero-add k) (sym (div_none n))
  digits_append (suc j) k n =
      ap (λ (i : ℕ). digits b i n) (suc-add j k)
      ∙ ap (λ (r : List ℕ). n % b ∷ r)
      (digits_append j k (n / b)
      ∙ ap (λ (m : ℕ). digits b j (n / b) ++ digits b k m) (div_pow n j))

  -- one digit more
  pub digits_snoc : (k n : ℕ) → digits b (k + 1) n ≡ digits b k n ++ (n / b ^ k % b ∷ [])
  unfolding digits
  digits_snoc k n = digits_append k 1 n

  pub digits_zero : (k : ℕ) → digits b k 0 ≡ replicate k 0
  unfolding digits
  digits_zero zero = refl
  digits_zero (suc k) = ap₂ (λ (x : ℕ) (r : List ℕ). x ∷ r) (zero-mod b) (ap (digits b k) (zero-div b) ∙ digits_zero k)

  -- ---- the round trips

  pub number_digits : (k n : ℕ) → number b (digits b k n) ≡ n % b ^ k
  unfolding digits number
  number_digits zero n = sym (ap (λ (p : ℕ). n % p) (pow-zero b) ∙ mod-one n)
  number_digits (suc k) n =
      ap (λ (m : ℕ). n % b + b * m) (number_digits k (n / b)) ∙ mod_cons k n

  pub number_digits_whole : (k n : ℕ) → n < b ^ k → number b (digits b k n) ≡ n
  number_digits_whole k n h = number_digits k n ∙ mod-eq_of_lt h

  pub digits_number : (xs : List ℕ) → Below b xs → digits b (length xs) (number b xs) ≡ xs
  unfolding digits number
  digits_number [] h = refl
  digits_number (x ∷ xs) h =
      ap₂ (λ (y : ℕ) (r : List ℕ). y ∷ r) (cons_mod x (number b xs) (h 0))
      (ap (digits b (length xs)) (cons_div x (number b xs) (h 0)) ∙ digits_number xs (λ i. h (suc i)))

  pub number_lt : (xs : List ℕ) → Below b xs → number b xs < b ^ length xs
  unfolding number
  number_lt [] h = subst (λ (p : ℕ). zero < p) (sym (pow-zero b)) (zero-lt-suc 0)
  number_lt (x ∷ xs) h =
      subst₂ (λ (m p : ℕ). m < p)
      (ap (λ (m : ℕ). m + x) (mul_comm (number b xs) b) ∙ add_comm (b * number b xs) x) (sym (pow-suc b (length xs)))
      (digits_lt (number_lt xs (λ i. h (suc i))) (h 0))

  -- digits in two lists of one length that spell one number are the same
  pub number_injective : (xs ys : List ℕ) → Below b xs → Below b ys → length xs ≡ length ys → number b xs ≡ number b ys → xs ≡ ys
  number_injective xs ys hx hy l e = sym (digits_number xs hx) ∙ ap₂ (digits b) l e ∙ digits_number ys hy

  -- k digits tell numbers apart up to a multiple of b ^ k
  pub digits_mod : (k n : ℕ) → digits b k (n % b ^ k) ≡ digits b k n
  digits_mod k n =
      ap₂ (digits b) (sym (length_digits b k n)) (sym (number_digits k n)) ∙ digits_number (digits b k n) (digits_below k n)

  -- ---- the number that a part spells

  pub number_append : (xs ys : List ℕ) → number b (xs ++ ys) ≡ number b xs + b ^ length xs * number b ys
  unfolding number
  number_append [] ys = sym (zero-add (b ^ 0 * number b ys) ∙ ap (λ (p : ℕ). p * number b ys) (pow-zero b) ∙ one-mul (number b ys))
  number_append (x ∷ xs) ys =
      ap (λ (m : ℕ). x + b * m) (number_append xs ys)
      ∙ ap (λ (m : ℕ). x + m)
      (mul-add b (number b xs) (b ^ length xs * number b ys)
      ∙ ap (λ (m : ℕ). b * number b xs + m) (sym (mul_assoc b (b ^ length xs) (number b ys)) ∙ ap (λ (p : ℕ). p * number b ys) (sym (pow-succ' b (length xs)))))
      ∙ sym (add_assoc x (b * number b xs) (b ^ suc (length xs) * number b ys))

  pub number_snoc : (xs : List ℕ) (y : ℕ) → number b (xs ++ (y ∷ [])) ≡ number b xs + b ^ length xs * y
  unfolding number
  number_snoc xs y =
      number_append xs (y ∷ []) ∙ ap (λ (m : ℕ). number b xs + b ^ length xs * m) (ap (λ (m : ℕ). y + m) (mul-zero b) ∙ add-zero y)

  -- zeros behind count nothing
  number_zeros : (k : ℕ) → number b (replicate k 0) ≡ 0
  number_zeros k = ap (number b) (sym (digits_zero k)) ∙ number_digits k 0 ∙ zero-mod (b ^ k)

  pub number_padded : (xs : List ℕ) (k : ℕ) → number b (xs ++ replicate k 0) ≡ number b xs
  number_padded xs k =
      number_append xs (replicate k 0)
      ∙ ap (λ (m : ℕ). number b xs + b ^ length xs * m) (number_zeros k) ∙ ap (λ (m : ℕ). number b xs + m) (mul-zero (b ^ length xs)) ∙ add-zero (number b xs)

  pub number_take : (k : ℕ) (xs : List ℕ) → Below b xs → number b (take k xs) ≡ number b xs % b ^ k
  unfolding number
  number_take zero xs h = sym (ap (λ (p : ℕ). number b xs % p) (pow-zero b) ∙ mod-one (number b xs))
  number_take (suc k) [] h = sym (zero-mod (b ^ suc k))
  number_take (suc k) (x ∷ xs) h =
      ap (λ (m : ℕ). x + b * m) (number_take k xs (λ i. h (suc i)))
      ∙ ap₂ (λ (y m : ℕ). y + b * (m % b ^ k)) (sym (cons_mod x (number b xs) (h 0))) (sym (cons_div x (number b xs) (h 0)))
      ∙ mod_cons k (x + b * number b xs)

  pub number_drop : (k : ℕ) (xs : List ℕ) → Below b xs → number b (drop k xs) ≡ number b xs / b ^ k
  unfolding number
  number_drop zero xs h = sym (div_none (number b xs))
  number_drop (suc k) [] h = sym (zero-div (b ^ suc k))
  number_drop (suc k) (x ∷ xs) h =
      number_drop k xs (λ i. h (suc i))
      ∙ ap (λ (m : ℕ). m / b ^ k) (sym (cons_div x (number b xs) (h 0)))
      ∙ div_pow (x + b * number b xs) k

  -- the digit at a place of a list, from the number
  pub number_at : (xs : List ℕ) (i : ℕ) → Below b xs → get_or xs i 0 ≡ number b xs / b ^ i % b
  unfolding number
  number_at [] i h = sym (ap (λ (m : ℕ). m % b) (zero-div (b ^ i)) ∙ zero-mod b)
  number_at (x ∷ xs) zero h = sym (ap (λ (m : ℕ). m % b) (div_none (x + b * number b xs)) ∙ cons_mod x (number b xs) (h 0))
  number_at (x ∷ xs) (suc i) h =
      number_at xs i (λ i. h (suc i))
      ∙ ap (λ (m : ℕ). m / b ^ i % b) (sym (cons_div x (number b xs) (h 0))) ∙ ap (λ (m : ℕ). m % b) (div_pow (x + b * number b xs) i)

  -- the k digits from place j on
  pub number_part : (j k : ℕ) (xs : List ℕ) → Below b xs → number b (take k (drop j xs)) ≡ number b xs / b ^ j % b ^ k
  number_part j k xs h = number_take k (drop j xs) (below_drop b j xs h) ∙ ap (λ (m : ℕ). m % b ^ k) (number_drop j xs h)
