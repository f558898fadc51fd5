-- What a reader must believe of the number rules: document 01 in its own order and words, over the width W and the fraction bits m, and document 02's
-- differences (R-2), over W. The tolerance code itself is defined in `bins`.
-- W = 32 and m = 23 is binary32, W = 64 and m = 52 binary64. Every definition is executable and total.
pub mod Signed
pub mod Lossless
pub mod Difference
pub mod Answers
pub mod Bound
pub mod Theorem
