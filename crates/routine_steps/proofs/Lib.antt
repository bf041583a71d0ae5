-- Laws that the proofs cite.
--   Numbers    the numbers for no of the calls on a sound simulation
--   Done       what a call leaves in a host's memory, from what its commands leave
--   Gone       a list's simulation before the first call, and after one more
pub mod Numbers
pub mod Done
pub mod Gone
