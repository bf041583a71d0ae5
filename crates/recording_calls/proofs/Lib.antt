-- Laws that the proofs of the calls cite.
--   Parts       what is yet to be read, a part at a time
--   Reached     how far a text is read, and that what is found has room
--   Commands    the commands and times written so far
--   Answers     the state reached and the answers written so far
pub mod Parts
pub mod Reached
pub mod Commands
pub mod Answers
