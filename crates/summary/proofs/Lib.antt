-- The laws of the definitions in specs/, apart from the functions' own proofs, and the theorems for a reader: what an entry means (Meaning), that the two orders
-- are IEEE 754's (Ieee), what is added, tested and listed (Theorems), that every answer fits (Fitting), and
-- known values (Known).
pub mod Law
pub mod Meaning
pub mod Ieee
pub mod Theorems
pub mod Fitting
pub mod Known
