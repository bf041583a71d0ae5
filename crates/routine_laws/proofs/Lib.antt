-- What holds of the interrupt routines.
--   Test          the computed test means its proposition
--   Answered      what an accepted and a refused call answer; one refused by a number other than 6 changes nothing
--   Checks        checks in a row give the number of the first that fails
--   Refusals      each number for no is given exactly when its line says
--   Standing      what a sound simulation says of its cores, and what an accepted call has found
--   Switch        a step on one core keeps the simulation sound
--   After         what an accepted command of the controller does to claimed requests
--   LetGo         redeliver and complete let a claimed request go
--   DirectKept, EntryKept, ExitKept, Kept    every call keeps the simulation sound, and the commands inside are accepted
--   Cycles        the cycles of a call
--   Taken         what runs and what waits after an entry and after an exit
--   Strict        a fresh simulation is sound; both clauses after every run
--   Cells, Tally  the table of handovers is the count in the history
--   Dropped       so are the counts of dropped triggers
--   Called        what the calls for hosts leave
pub mod Test
pub mod Answered
pub mod Checks
pub mod Refusals
pub mod Standing
pub mod Switch
pub mod After
pub mod LetGo
pub mod DirectKept
pub mod EntryKept
pub mod ExitKept
pub mod Kept
pub mod Cycles
pub mod Taken
pub mod Strict
pub mod Cells
pub mod Tally
pub mod Dropped
pub mod Called
