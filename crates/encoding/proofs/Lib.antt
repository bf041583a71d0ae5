-- What the proofs of writing cite.
--   Writing    a state's bytes, a record at a time; a command and an answer
mod Writing
