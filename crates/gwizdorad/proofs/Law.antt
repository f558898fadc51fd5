-- Laws of the streams' answers as they are spelled for C.
--   Spelled: answers and kinds in one number; Pattern: what probe leaves of a pattern
--   Demand: what the demands ask beyond the theorems of the crates below
pub mod Spelled
pub mod Pattern
pub mod Demand
