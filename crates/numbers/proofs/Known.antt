-- The known values that document 01 marks *, as one computed statement over one table: a row that is wrong would be left in the list, and the
-- error would name it. SLEEK's Table II stands in `bins`.
use Rattle.std.proofs.Common.{◌≡◌, ℕ, zero, suc, ◌+◌, ◌-◌, ◌*◌, ◌^◌, Bool, true, cond, ◌&&◌, eqb, leb, List, [], ◌∷◌, ℤ, pos, negsuc, refl}
use Rattle.numbers.specs.Difference.{difference_code, difference_codes}
use Rattle.bins.proofs.Known.{wrong, tolerance_right}
use Rattle.numbers.specs.Signed.{signed_view, folded, unfolded, bits_of}
use Rattle.numbers.specs.Lossless.{rotated, field, minus, lowered, stepped, lossless_code, plus, raised, unstepped, unrotated, lossless_restored}

-- mode, width, fraction bits, k (0 in mode 0), pattern, code, pattern restored
right : ℕ × ℕ × ℕ × ℤ × ℕ × ℕ × ℕ → Bool
unfolding lossless_code folded signed_view stepped lowered minus field rotated lossless_restored unrotated unstepped raised plus bits_of unfolded tolerance_right
right r =
    cond (eqb r.0 0)
    (eqb (lossless_code r.1 r.2 r.4) r.5 && eqb (lossless_restored r.1 r.2 r.5) r.6)
    (tolerance_right (r.1, r.2, 0, r.3, r.4, r.5, r.6))

marked_rows : List (ℕ × ℕ × ℕ × ℤ × ℕ × ℕ × ℕ)
marked_rows =
    (0, 32, 23, pos 0, 0x00000000, 0, 0x00000000)
    ∷ (0, 32, 23, pos 0, 0x80000000, 2, 0x80000000)
    ∷ (0, 32, 23, pos 0, 0x00000001, 4, 0x00000001)
    ∷ (0, 32, 23, pos 0, 0x3F800000, 0x03FFFFFF, 0x3F800000)
    ∷ (0, 32, 23, pos 0, 0xBF800000, 0x03FFFFFD, 0xBF800000)
    ∷ (0, 32, 23, pos 0, 0x40000000, 0x01FFFFFF, 0x40000000)
    ∷ (0, 32, 23, pos 0, 0x40800000, 0x02000000, 0x40800000)
    ∷ (0, 32, 23, pos 0, 0x00800000, 0xFFFFFFFF, 0x00800000)
    ∷ (0, 32, 23, pos 0, 0x7F800000, 0xFE000000, 0x7F800000)
    ∷ (0, 64, 52, pos 0, 0x3FF0000000000000, 2 ^ 55 - 1, 0x3FF0000000000000)
    -- 0.25 to 0.5, -0.75 to -1.0, 4194303.75 to 4194304, and infinity to itself, at k = -2
    ∷ (1, 32, 23, negsuc 1, 0x3E800000, 2, 0x3F000000)
    ∷ (1, 32, 23, negsuc 1, 0xBF400000, 5, 0xBF800000)
    ∷ (1, 32, 23, negsuc 1, 0x4A7FFFFF, 16777216, 0x4A800000)
    ∷ (1, 32, 23, negsuc 1, 0x7F800000, 1795162112, 0x7F800000)
    ∷ []

marked_values : wrong right marked_rows ≡ []
unfolding wrong right marked_rows
marked_values = refl

-- The same halves by the rule of document 02, R-7, and others: at k = -2 0.25 goes to 0, -0.75 stays at -1.0 and 4194303.75 at 4194304, 0.75 - 2^-24 and 0.25 + 2^-26
-- are no halves; -1.25 goes to -1.0, and infinity to itself. At the smallest k, of a bin below the floats' own (k = -150), the smallest number and thrice that
-- are bins, not halves; at k = -149 the smallest number is a half and goes to 0, and thrice that to 4 of it. Width 64: 0.25 and 0.75 at k = -2.
even_rows : List (ℕ × ℕ × ℕ × ℤ × ℕ × ℕ × ℕ)
even_rows =
    (32, 23, 1, negsuc 1, 0x3E800000, 0, 0x00000000)
    ∷ (32, 23, 1, negsuc 1, 0xBF400000, 5, 0xBF800000)
    ∷ (32, 23, 1, negsuc 1, 0x4A7FFFFF, 16777216, 0x4A800000)
    ∷ (32, 23, 1, negsuc 1, 0x3F3FFFFF, 2, 0x3F000000)
    ∷ (32, 23, 1, negsuc 1, 0x3E800001, 2, 0x3F000000)
    ∷ (32, 23, 1, negsuc 1, 0xBFA00000, 5, 0xBF800000)
    ∷ (32, 23, 0, negsuc 1, 0xBFA00000, 7, 0xBFC00000)
    ∷ (32, 23, 1, negsuc 1, 0x7F800000, 1795162112, 0x7F800000)
    ∷ (32, 23, 1, negsuc 149, 0x00000001, 2, 0x00000001)
    ∷ (32, 23, 1, negsuc 149, 0x00000003, 6, 0x00000003)
    ∷ (32, 23, 1, negsuc 148, 0x00000001, 0, 0x00000000)
    ∷ (32, 23, 0, negsuc 148, 0x00000001, 2, 0x00000002)
    ∷ (32, 23, 1, negsuc 148, 0x00000003, 4, 0x00000004)
    ∷ (64, 52, 1, negsuc 1, 0x3FD0000000000000, 0, 0x0000000000000000)
    ∷ (64, 52, 1, negsuc 1, 0x3FE8000000000000, 4, 0x3FF0000000000000)
    ∷ (64, 52, 0, negsuc 1, 0x3FD0000000000000, 2, 0x3FE0000000000000)
    ∷ []

even_values : wrong tolerance_right even_rows ≡ []
unfolding wrong tolerance_right even_rows
even_values = refl

-- ---- "In effect exponent 0 stays 0, and in single precision 1..128 become -128..-1 and 129..255 become 1..127; in double, 1..1024 become
-- -1024..-1 and 1025..2047 become 1..1023": the code of the pattern with the exponent e and nothing else, for every e

-- the code of x units of the field, x an exponent that has become e - (half + 1) or e - half
becomes : ℕ → ℕ → ℕ → ℕ
becomes half unit zero = 0
becomes half unit (suc e) = cond (leb (suc e) half) (2 * ((half - e) * unit) - 1) (2 * ((suc e - half) * unit))

exponents_right : ℕ → ℕ → ℕ → ℕ → Bool
unfolding becomes lossless_code folded signed_view stepped field rotated lowered minus
exponents_right W m half zero = eqb (lossless_code W m 0) 0
exponents_right W m half (suc e) =
    eqb (lossless_code W m (suc e * 2 ^ m)) (becomes half (2 ^ (m + 1)) (suc e)) && exponents_right W m half e

exponents_known : exponents_right 32 23 128 255 && exponents_right 64 52 1024 2047 ≡ true
unfolding exponents_right
exponents_known = refl

-- ---- differences: small steps up, none and down; and the patterns at the ends, where the difference wraps

differences_known :
    (difference_codes 32 0 (5 ∷ 7 ∷ 7 ∷ 4 ∷ []) ≡ 10 ∷ 4 ∷ 0 ∷ 5 ∷ [])
    × (difference_codes 32 0 (0xFFFFFFFF ∷ 0 ∷ 0x80000000 ∷ 0x7FFFFFFF ∷ []) ≡ 1 ∷ 2 ∷ 0xFFFFFFFF ∷ 1 ∷ [])
    × (difference_codes 64 0 (0x3FF0000000000000 ∷ 0x3FF0000000000001 ∷ 0 ∷ []) ≡ 0x7FE0000000000000 ∷ 2 ∷ 0x7FE0000000000001 ∷ [])
unfolding difference_codes difference_code minus signed_view folded
differences_known = (refl, refl, refl)
