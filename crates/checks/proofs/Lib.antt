-- From the tests that the code makes to those of the definitions.
pub mod Tests
pub mod Decided
