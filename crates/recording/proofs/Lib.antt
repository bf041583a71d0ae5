-- What is proved of a recording's definitions.
pub mod Examples
pub mod CallExamples
pub mod ChunkExamples
pub mod WrittenExamples
pub mod Digits
