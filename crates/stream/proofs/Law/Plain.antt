-- Numbers, truth values and lists: laws that know nothing of the format.
--   Truth: the connectives of the tests
--   Joined: lists joined one after the other
--   Mapped: a list filled from the front, element by element
--   Differences: the same with differences and running sums
--   Appended: a list written piece by piece into a longer one
--   Parts: a first element set and the rest lent
--   Scan: a loop over indices that follows a definition
--   Rounding: a quotient rounded up
pub mod Truth
pub mod Joined
pub mod Mapped
pub mod Differences
pub mod Appended
pub mod Scan
pub mod Parts
pub mod Rounding
