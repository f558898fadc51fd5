-- The listing.
--   Text: the text, piece by piece
--   Lines: its lines
--   Known: document 01's own listing, computed
pub mod Lines
pub mod Text
pub mod Known
