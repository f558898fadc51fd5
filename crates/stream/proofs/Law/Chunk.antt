-- Chunks, cut into groups of any size.
--   Groups: one group at a time, and whole
--   BytesLeft: the bytes of the codes that are left
--   Walks: how far measuring and writing have come
--   Checking: how far a check has come
--   FirstBad: the first bad group, from what each group is
--   Whole: all groups are there to be read
--   Restoring: how far restoring has come
--   LongerBytes: a chunk's bytes at the front of longer ones
pub mod Groups
pub mod BytesLeft
pub mod Walks
pub mod Checking
pub mod FirstBad
pub mod Whole
pub mod Restoring
pub mod LongerBytes
