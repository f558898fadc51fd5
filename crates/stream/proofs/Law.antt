-- The laws of the definitions in specs/, in folders by subject. They hold of any group size; that it is 32 or 128 is said in Setting/Allowed, and of four records
-- in Group/Parts and Group/FullFour.
pub mod Plain
pub mod Setting
pub mod Group
pub mod Chunk
pub mod Lent
pub mod Header
pub mod Tables
pub mod Rows
pub mod Values
pub mod Written
pub mod ReadBack
pub mod Access
pub mod Accepted
pub mod Listing
