-- What is proved here, for the crates above.
pub mod Tree
pub mod LeastCore
pub mod Outermost
pub mod Told
pub mod Depth
pub mod Ranges
pub mod Keys
pub mod Marking
pub mod Looks
pub mod ByKeys
