-- The values of a stream.
--   Counts: how many there are, and which chunk has each
--   ThreeReaders: check, unpack and probe beside each other
--   OtherChunks: bytes of other chunks play no part
--   Cut: a stream that is cut
--   Shown, ShownNumber: what probe shows of a pattern
pub mod Counts
pub mod ThreeReaders
pub mod OtherChunks
pub mod Cut
pub mod Shown
pub mod ShownNumber
