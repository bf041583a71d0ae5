-- What is proved here, for the crates above.
--   Clauses   the tests of single records
--   Test      the sound-state test is exact
--   Reset     a reset controller is well formed; making answers exactly that
--   Fits      the pass over the sources
--   Cores     one core in the pass over the cores
--   Marks     what that pass keeps
--   Verdict   the passes together, and the verdicts of a survey
pub mod Clauses
pub mod Test
pub mod Reset
pub mod Fits
pub mod Cores
pub mod Marks
pub mod Verdict
