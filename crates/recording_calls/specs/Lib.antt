-- Helpers of the contracts. Nothing here needs to be believed: what the calls answer and write is in the crate recording.
--   Remaining    what is yet to be read of a text
pub mod Remaining
