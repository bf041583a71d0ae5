-- Laws that the proofs cite.
--   Simulating    a list of calls, a call at a time, with the handovers counted
mod Simulating
