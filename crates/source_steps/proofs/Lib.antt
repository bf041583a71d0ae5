-- What the code reads and stores, and that it is what the definitions say.
pub mod Offering
pub mod Sourced
