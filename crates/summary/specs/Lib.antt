-- What a reader must believe of the summary: document 02, R-5, in its own words. Every definition is executable and total. Private serves private
-- functions alone.
pub mod Order
pub mod Entry
pub mod Summary
pub mod Operations
pub mod Private
pub mod Theorem
