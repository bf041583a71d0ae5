-- Every definition of the controller that a reader must believe, in the order of document 01.
--   Records       the records, their blank and reset values, and every record literal of them
--   Priorities    the width of the priority field and the top priority
--   Requests      current priority, waiting, candidate, claimed, owner
--   Arbitration   the highest candidate and the least core
--   WellFormed    the sound-state test, clause by clause, and the same as a proposition
--   Settling      one retraction, one delivery, and the run of cycles with its count
--   Behaviours    any answer to commands in the place of `execute`, and what a list of commands gives by it
--   Commands      effects, refusals, answers, making, and the run of a list of commands
--   Ledger        the ledger kept from commands and their answers; collection, placement, sorting
--   Drops         triggers that were dropped, counted from commands and answers
--   Statements    what is claimed of all this, as propositions; their proofs are in the crates above this one
--   SearchStatements   what is claimed of the ranges that the search looks into
--   Cases         the worked cases of document 01's table of runs
--   StateCases    worked states: fresh, broken beside sound, and with dirty boxes
--   LedgerCases   worked pages of the ledger, a collection, placements
pub mod Records
pub mod Priorities
pub mod Requests
pub mod Arbitration
pub mod WellFormed
pub mod Settling
pub mod Behaviours
pub mod Commands
pub mod Ledger
pub mod Drops
pub mod Statements
pub mod SearchStatements
pub mod Cases
pub mod StateCases
pub mod LedgerCases
