-- The header.
--   Numbers: the 32-bit numbers at their places
--   Front: what the first bytes decide
--   Layout: what a right layout says of the places
--   Opening: what an opening says of the rows it was made of
pub mod Numbers
pub mod Front
pub mod Layout
pub mod Opening
