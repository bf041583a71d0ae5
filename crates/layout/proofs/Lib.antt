-- What is proved beside the definitions: laws that the crates above cite, and the worked cases.
--   Records          one word, flag, source and core there and back
--   Octets           that bytes are below 256, and what is read from such
--   RoundTrip        a state there and back
--   InPlace          one record of a state's bytes, read and written where it lies
--   Commands         a list of commands there and back, and an answer in one number
--   Fives            rows of five-byte items, over any reader
--   Machines         lists of items under any machine, taken one at a time
--   Lists            lists of five-byte items, read and taken one at a time
--   Answers          the controller as such a machine
--   BytesExamples    the worked cases, each by one computation
pub mod Records
pub mod Octets
pub mod RoundTrip
pub mod InPlace
pub mod Commands
pub mod Fives
pub mod Machines
pub mod Lists
pub mod Answers
mod BytesExamples
