-- What is proved here, for the crates above.
pub mod Writes
pub mod Keeps
pub mod OneBox
pub mod OneBoxClaims
pub mod Arbitrated
pub mod Deliver
pub mod Retract
pub mod Next
pub mod Run
pub mod Forward
pub mod Deliveries
pub mod Retractions
pub mod Retracting
pub mod Determined
pub mod Ends
pub mod Spared
