-- What the proofs of several functions share.
pub mod Bytes
pub mod Numbers
pub mod Spells
pub mod Keeping
pub mod Codes
pub mod Sums
pub mod Telling
