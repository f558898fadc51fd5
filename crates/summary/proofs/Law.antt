-- The laws of the definitions in specs/, each once over the width W and the fraction bits m.
--   Order: ranks; Walk, Entry: the numbers of an entry; Pass: how one pass over the values finds them; Pieces: an entry's bytes
--   Magnitude, Compare, Places: what IEEE 754 needs
--   Stream: what a check has accepted, as the code meets it; Values: its values; Part: the summary as bytes; Testing: how far a test has come
--   Grown, Adding: the copy as it is written; Copy: side parts added to any accepted stream; Short: its places fit; Copied: the summary is such a part
--   Named, Numbers: the numbers that a list names; True: a true summary read; ListRows: the rows of a list
pub mod Order
pub mod Walk
pub mod Entry
pub mod Pass
pub mod Pieces
pub mod Stream
pub mod Values
pub mod Part
pub mod Testing
pub mod Grown
pub mod Adding
pub mod Named
pub mod Numbers
pub mod True
pub mod ListRows
pub mod Copy
pub mod Short
pub mod Copied
pub mod Magnitude
pub mod Compare
pub mod Places
