-- What a reader must believe of blocks: codes and bytes are digits of one number. Put serves private functions alone.
pub mod Bytes
pub mod Put
