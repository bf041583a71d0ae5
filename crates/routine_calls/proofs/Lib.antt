-- Laws that the proofs cite.
--   Calls    what each call answers and writes, from what the functions that it calls hand back
mod Calls
