-- The 64 rows of SLEEK's Table II, the halves of R-7 and the limits of k, each as one computed statement over its table: a row that is wrong would be left in
-- the list, and the error would name it. The values that document 01 marks * stand in `numbers`, beside the lossless ones.
use Rattle.std.proofs.Common.{◌≡◌, ℕ, ◌+◌, Bool, cond, ◌&&◌, eqb, List, [], ◌∷◌, ℤ, negsuc, refl}
use lib.Ieee as Ieee
use Rattle.bins.specs.Tolerance.{k_offset, last_bin, bin_of, sign, ordinal, significand, magnitude, ordinal_of, threshold, threshold_ordinal, upper, halfway, nearest, near, magnitude_code, tolerance_code, restored_ordinal, tolerance_restored}

-- the rows for which a test fails
unfoldable pub wrong : {A : Type 0} → (A → Bool) → List A → List A
wrong right [] = []
wrong right (x ∷ xs) = cond (right x) (wrong right xs) (x ∷ wrong right xs)

-- ---- tolerance: width, fraction bits, rule for halves, k, pattern, code, pattern restored

unfoldable pub tolerance_right : ℕ × ℕ × ℕ × ℤ × ℕ × ℕ × ℕ → Bool
unfolding k_offset bin_of sign ordinal significand magnitude ordinal_of threshold threshold_ordinal upper halfway nearest near magnitude_code tolerance_code restored_ordinal tolerance_restored Ieee.size
tolerance_right r =
    let j = bin_of r.0 r.1 r.3 in
    eqb (tolerance_code r.0 r.1 r.2 j r.4) r.5 && eqb (tolerance_restored r.0 r.1 j r.5) r.6

-- Document 000, Table II: a format of 7 bits with 2 of fraction, at the bound 0.25. Each row has the bit pattern, the encoded value and
-- the pattern of the decoded value.
sleek_right : ℕ × ℕ × ℕ → Bool
unfolding tolerance_right
sleek_right r = tolerance_right (7, 2, 0, negsuc 1, r.0, r.1, r.2)

sleek_rows : List (ℕ × ℕ × ℕ)
sleek_rows =
    (0, 0, 0) ∷ (1, 0, 0) ∷ (2, 0, 0) ∷ (3, 0, 0) ∷ (4, 0, 0) ∷ (5, 0, 0) ∷ (6, 0, 0) ∷ (7, 0, 0)
    ∷ (8, 0, 0) ∷ (9, 0, 0) ∷ (10, 0, 0) ∷ (11, 0, 0) ∷ (12, 0, 0) ∷ (13, 0, 0) ∷ (14, 0, 0) ∷ (15, 0, 0)
    ∷ (16, 0, 0) ∷ (17, 0, 0) ∷ (18, 0, 0) ∷ (19, 0, 0) ∷ (20, 2, 24) ∷ (21, 2, 24) ∷ (22, 2, 24) ∷ (23, 2, 24)
    ∷ (24, 2, 24) ∷ (25, 2, 24) ∷ (26, 4, 28) ∷ (27, 4, 28) ∷ (28, 4, 28) ∷ (29, 6, 30) ∷ (30, 6, 30) ∷ (31, 8, 32)
    ∷ (32, 8, 32) ∷ (33, 10, 33) ∷ (34, 12, 34) ∷ (35, 14, 35) ∷ (36, 16, 36) ∷ (37, 18, 37) ∷ (38, 20, 38) ∷ (39, 22, 39)
    ∷ (40, 24, 40) ∷ (41, 26, 41) ∷ (42, 28, 42) ∷ (43, 30, 43) ∷ (44, 32, 44) ∷ (45, 34, 45) ∷ (46, 36, 46) ∷ (47, 38, 47)
    ∷ (48, 40, 48) ∷ (49, 42, 49) ∷ (50, 44, 50) ∷ (51, 46, 51) ∷ (52, 48, 52) ∷ (53, 50, 53) ∷ (54, 52, 54) ∷ (55, 54, 55)
    ∷ (56, 56, 56) ∷ (57, 58, 57) ∷ (58, 60, 58) ∷ (59, 62, 59) ∷ (60, 64, 60) ∷ (61, 66, 61) ∷ (62, 68, 62) ∷ (63, 70, 63)
    ∷ []

sleek_known : wrong sleek_right sleek_rows ≡ []
unfolding wrong sleek_right sleek_rows
sleek_known = refl

-- The same format by the rule of document 02, R-7: of its halves, the patterns 20, 26, 29 and 31 (0.25, 0.75, 1.25 and 1.75), the first and the third go to another code.
even_right : ℕ × ℕ × ℕ → Bool
unfolding tolerance_right
even_right r = tolerance_right (7, 2, 1, negsuc 1, r.0, r.1, r.2)

even_rows : List (ℕ × ℕ × ℕ)
even_rows =
    (0, 0, 0) ∷ (19, 0, 0) ∷ (20, 0, 0) ∷ (21, 2, 24) ∷ (25, 2, 24) ∷ (26, 4, 28) ∷ (27, 4, 28) ∷ (28, 4, 28) ∷ (29, 4, 28) ∷ (30, 6, 30) ∷ (31, 8, 32)
    ∷ (32, 8, 32) ∷ (33, 10, 33) ∷ (63, 70, 63) ∷ (84, 1, 64) ∷ (93, 5, 92) ∷ []

even_known : wrong even_right even_rows ≡ []
unfolding wrong even_right even_rows
even_known = refl

-- ---- the limits that document 01 states in numbers: the smallest k, the largest j, and the largest k as their difference

limits_right : ℕ × ℕ × ℕ × ℕ → Bool
unfolding k_offset last_bin
limits_right r = eqb (k_offset r.0 r.1) r.2 && eqb (last_bin r.0 r.1) (r.2 + r.3)

-- -150..103 and -1075..970
limits_rows : List (ℕ × ℕ × ℕ × ℕ)
limits_rows = (32, 23, 150, 103) ∷ (64, 52, 1075, 970) ∷ []

limits_known : wrong limits_right limits_rows ≡ []
unfolding wrong limits_right limits_rows
limits_known = refl
