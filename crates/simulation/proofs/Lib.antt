-- Laws that the proofs cite.
--   Answered    an answer by its parts, from what a step leaves in memory
mod Answered
