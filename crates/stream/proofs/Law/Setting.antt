-- Settings: which are allowed, what a width says, k and its bin, and the bounds of codes and patterns.
--   Allowed: needs, the size of a group, the setting that is made
--   Widths: whole bytes, and the formats of IEEE 754
--   Exponent: the header's number for k gives the setting back
--   Codes: codes and patterns have W bits
pub mod Allowed
pub mod Widths
pub mod Exponent
pub mod Codes
