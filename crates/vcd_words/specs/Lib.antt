-- Helpers of the contracts. Nothing here needs to be believed: what a text says is in the crate recording.
--   Partial     what is kept of a word under way
pub mod Partial
