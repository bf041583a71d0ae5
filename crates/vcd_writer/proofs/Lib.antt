-- What the proofs of several functions share.
pub mod Putting
pub mod Numerals
pub mod Parts
pub mod Runs
pub mod Texts
pub mod Calls
