-- Values lent as one list for each width.
--   Chosen: the list of the width
--   Codes: the codes of the values lent, and a part of them
--   Landing: each chunk's values land in their own stretch
pub mod Chosen
pub mod Codes
pub mod Landing
