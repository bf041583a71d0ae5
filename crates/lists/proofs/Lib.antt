-- Laws over any list, order, count or walk.
pub mod Depth
pub mod Bools
pub mod Held
pub mod Walks
pub mod Tallies
pub mod Ranges
pub mod Arrays
pub mod Writes
pub mod Stores
pub mod Filling
pub mod Counting
pub mod Winner
pub mod Exact
pub mod Turns
pub mod Counts
pub mod Sorting
pub mod Rows
