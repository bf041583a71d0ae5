-- Helpers of this crate's contracts. Nothing here needs to be believed.
pub mod Standing
