-- Laws that the proofs of the exported calls cite.
--   Calls       what each call answers and writes, from what the functions that it calls hand back
pub mod Calls
