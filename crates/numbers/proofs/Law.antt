-- Theorems about the definitions of specs/, each once over the width W and the fraction bits m. Those of the tolerance code at a bin, and the
-- small laws of numbers, are laws of `bins`.
pub mod Signed
pub mod Lossless
pub mod Difference
pub mod Answers
pub mod Halves
pub mod Bound
pub mod Read
pub mod BoundRead
