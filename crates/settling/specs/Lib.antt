-- Helpers of the proofs and of this crate's contracts. Nothing here needs to be believed.
pub mod Phases
pub mod Runs
