-- Helpers of the proofs, and wrong controllers. Nothing here needs to be believed.
pub mod Matches
pub mod Dummies
pub mod BoxesApart
