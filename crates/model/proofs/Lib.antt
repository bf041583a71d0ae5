-- What is proved beside the definitions: laws that every crate above cites, and the worked cases.
pub mod Boxes
pub mod Claims
pub mod Priorities
pub mod Candidates
pub mod Examples
pub mod StateExamples
pub mod LedgerExamples
