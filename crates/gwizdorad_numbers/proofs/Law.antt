-- Laws of the number rules' answers as they are spelled for C.
--   Spelled: a number and a detail in one, and taken apart again
pub mod Spelled
