-- Groups of any size.
--   RoundTrip: a group's bytes, read of written, written of read
--   Exact: a reader accepts exactly what was written
--   LowestFirst: the same bytes bit by bit, as document 01 puts it
--   Whole: groups of whole bytes
--   Width: the bit length of the largest code
--   Parts: a group in parts, of which all but the last are full
--   FullFour: a group of four full records
--   Records: what is known of a record of 32 words
--   Reading: where the codes stand in the bytes
--   Blocks: a group's codes block by block
--   Checking: the rules of refusal 10
pub mod RoundTrip
pub mod Exact
pub mod LowestFirst
pub mod Whole
pub mod Width
pub mod Parts
pub mod FullFour
pub mod Records
pub mod Writing
pub mod Reading
pub mod Blocks
pub mod Checking
