-- What a survey says of a state, and helpers of this crate's contracts.
--   Survey    a survey's fields, as definitions
--   Loops     what each test and each loop computes; nothing there needs to be believed
pub mod Survey
pub mod Loops
