-- How a version is written as a number.
pub mod Version
