-- What is proved of the interrupt routines' definitions by computation; the theorems are in the crate `routine_laws`.
pub mod Examples
