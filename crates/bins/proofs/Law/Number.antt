-- Small laws of numbers that several law modules cite.
use Rattle.std.proofs.Common.{◌≡◌, ℕ, suc, ◌+◌, ◌-◌, ◌*◌, ◌/◌, ◌%◌, ◌^◌, ◌<◌, ◌≤◌, Bool, true, false, cond, eqb, ltb, refl, Less, Equal, Greater, is_lt, nat_cmp, ◌⊎◌, sym, ap, ◌∙◌, inl, inr, le_trans, le_of_eq, lt_of_lt_of_le, mod-eq_of_lt, div-lt_iff_lt-mul, one-mul, lt_of_not-le, le-div_iff_mul-le, arith, pow_pos, eq-eqb, ne_eqb}
use native.Mathlib.Nat.{mod-eq-sub-mod, div-eq_of_lt, two-pow-succ}
use native.Mathlib.Decide.{dec_le}

pub le_or_lt : (a b : ℕ) → (a ≤ b) ⊎ (b < a)
le_or_lt a b = elim (dec_le a b) [ yes h ↦ inl h | no h ↦ inr (lt_of_not-le h) ]

-- the remainder of what is less than twice the divisor
pub mod_once : (x N : ℕ) → N ≤ x → x < N + N → x % N ≡ x - N
mod_once x N h l = mod-eq-sub-mod h ∙ mod-eq_of_lt (omega arith)

-- a difference modulo N, where it does not wrap and where it does
pub minus_plain : (N a b : ℕ) → b ≤ a → a < N → (a + (N - b)) % N ≡ a - b
minus_plain N a b h l = mod_once (a + (N - b)) N (omega arith) (omega arith) ∙ (let e : a + (N - b) - N ≡ a - b = omega arith in e)

pub minus_wraps : (N a b : ℕ) → a < b → b ≤ N → (a + (N - b)) % N ≡ a + (N - b)
minus_wraps N a b h l = mod-eq_of_lt (omega arith)

-- a quotient is 0 exactly below the divisor
pub quotient_zero : (x d : ℕ) → x < d → eqb (x / d) 0 ≡ true
quotient_zero x d h = eq-eqb (x / d) 0 (div-eq_of_lt h)

pub quotient_some : (x d : ℕ) → 0 < d → d ≤ x → eqb (x / d) 0 ≡ false
quotient_some x d p h =
    let q : 1 ≤ x / d = (le-div_iff_mul-le p).1 (let e : 1 * d ≡ d = one-mul d in omega arith) in
    ne_eqb (x / d) 0 (λ e. omega arith)

-- 2 ^ W is twice 2 ^ (W - 1)
pub twice_half : (W : ℕ) → 0 < W → 2 ^ W ≡ 2 ^ (W - 1) + 2 ^ (W - 1)
twice_half W p = ap (λ (n : ℕ). 2 ^ n) (let e : W ≡ suc (W - 1) = omega arith in e) ∙ two-pow-succ (W - 1)

-- the wrapped difference that std promises is the difference modulo N
pub wraps_minus : (N a b r : ℕ) → r < N → b ≤ N → (r + b) % N ≡ a → r ≡ (a + (N - b)) % N
wraps_minus N a b r h l e = go (le_or_lt N (r + b))
  where
    go : (N ≤ r + b) ⊎ (r + b < N) → r ≡ (a + (N - b)) % N
    go (inl g) =
        let f : a ≡ r + b - N = sym e ∙ mod_once (r + b) N g (omega arith) in
        sym (mod-eq_of_lt (let q : a + (N - b) < N = omega arith in q) ∙ (let q : a + (N - b) ≡ r = omega arith in q))
    go (inr g) =
        let f : a ≡ r + b = sym e ∙ mod-eq_of_lt g in
        sym (mod_once (a + (N - b)) N (omega arith) (omega arith) ∙ (let q : a + (N - b) - N ≡ r = omega arith in q))

-- an ordinal is below 2 ^ m exactly where its exponent is 0
pub fraction_only : (m o : ℕ) → o / 2 ^ m ≡ 0 → o < 2 ^ m
fraction_only m o e = lt_of_lt_of_le ((div-lt_iff_lt-mul (pow_pos m)).0 (let q : o / 2 ^ m < 1 = omega arith in q)) (le_of_eq (one-mul (2 ^ m)))

pub led_by_one : (m o : ℕ) → (o / 2 ^ m ≡ 0 → ⊥) → 2 ^ m ≤ o
led_by_one m o s = le_trans (le_of_eq (sym (one-mul (2 ^ m)))) ((le-div_iff_mul-le (pow_pos m)).0 (let q : 1 ≤ o / 2 ^ m = omega arith in q))

-- what `<` tells of two words, which are ordered as their numbers are
pub less_is : (a b : ℕ) → is_lt (nat_cmp a b) ≡ ltb a b
less_is a b = go (ltb a b) (eqb a b)
  where
    go : (less equal : Bool) → is_lt (cond less Less (cond equal Equal Greater)) ≡ less
    go true equal = refl
    go false true = refl
    go false false = refl
