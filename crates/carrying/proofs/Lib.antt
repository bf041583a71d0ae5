-- What the proofs of reading and writing cite.
--   Flags      the test of what is carried
--   Numbers    numbers written as bytes
mod Flags
mod Numbers
