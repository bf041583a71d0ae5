-- The interrupt routines on all cores: every definition of them that a reader must believe. Document 02, 4/14.
--   Routines      the state of the simulation, when it is sound, its calls, the table of handovers
--   History       the history of a run, and the handovers in it
--   Calls         a simulation in a host's memory, and what the calls for hosts answer and write
--   Statements    what is claimed of all this, as propositions; their proofs are in `routine_laws`
--   CallStatements    what is claimed of the calls for hosts; proved there too
--   Cases         worked runs, states and histories
pub mod Routines
pub mod History
pub mod Calls
pub mod Statements
pub mod CallStatements
pub mod Cases
