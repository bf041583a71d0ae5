-- What the proofs of reading cite.
--   Flags      the test of a state's bytes
--   Reading    arrays made by reading, an element for each index
pub mod Flags
mod Reading
