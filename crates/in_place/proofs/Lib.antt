-- What is held after each store.
pub mod Stored
pub mod Numbering
pub mod Refused
