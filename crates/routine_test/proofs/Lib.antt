-- Laws that the proofs cite.
--   Exact    what stands at each core and each source is what a sound simulation has
--   Read     a request claimed, from the bytes
--   Encoded  whether memory encodes a simulation
mod Exact
mod Read
pub mod Encoded
