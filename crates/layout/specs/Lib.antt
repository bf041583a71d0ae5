-- A state, commands and answers as numbers and bytes, and what the hosts' calls do with them: every definition of it that a reader must
-- believe.
--   Commands          a command as three numbers
--   Bytes             a state, commands and answers as bytes; what the calls answer and write
--   BytesCases        worked cases of them
--   Statements        what is claimed of the encoding
--   CallStatements    what is claimed of the calls
pub mod Commands
pub mod Bytes
pub mod BytesCases
pub mod Statements
pub mod CallStatements
