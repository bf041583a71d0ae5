-- What the proofs of several functions share.
pub mod Cuts
pub mod Follows
pub mod Reaching
pub mod Spelling
pub mod Passing
pub mod Changing
