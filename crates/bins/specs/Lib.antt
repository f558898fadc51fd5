-- What a reader must believe of the tolerance code at a bin: document 01 in its own order and words, and document 02, R-7, over the width W and the
-- fraction bits m.
-- W = 32 and m = 23 is binary32, W = 64 and m = 52 binary64. Every definition is executable and total.
pub mod Tolerance
pub mod Answers
pub mod Limits
