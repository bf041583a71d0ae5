-- Helpers of the contracts. Nothing here needs to be believed: what is refused is said in the crate model.
--   Refusals    the checks of a command by the one record that it looks at
pub mod Refusals
