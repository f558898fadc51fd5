-- The chunk table and the side table.
--   Starts: what a right chunk table says of each chunk
--   Sides: the side table, entry by entry
--   Entries: the entry that has an id
pub mod Starts
pub mod Sides
pub mod Entries
