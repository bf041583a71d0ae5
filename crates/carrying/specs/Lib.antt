-- Helpers of this crate's contracts; nothing here needs to be believed.
--   Sizes    how many bytes each part of a reader takes
pub mod Sizes
