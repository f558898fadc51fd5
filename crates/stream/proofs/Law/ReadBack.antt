-- What is written, read back.
--   Header, Chunks, Sides: its parts keep every rule
--   Values: the values that come back
--   Readers: every reader, at every level
pub mod Header
pub mod Chunks
pub mod Sides
pub mod Values
pub mod Readers
