-- What pack writes.
--   Numbers: numbers of 4 bytes each
--   Pieces: a list cut into chunks, their bytes, and where they end
--   Unfinished: how far pack has come
pub mod Pieces
pub mod Numbers
pub mod Unfinished
