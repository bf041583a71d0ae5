-- What an accepted command leaves: a consistent state that settles, and stays sound; what a refused one hands back; the counts of both.
pub mod Accepted
pub mod Checked
pub mod SourceEffects
pub mod CoreEffects
pub mod Effects
pub mod AtRest
pub mod OneDelivery
pub mod Dropped
pub mod Counts
pub mod Kept
pub mod Answers
