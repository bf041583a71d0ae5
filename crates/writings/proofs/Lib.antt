-- What holds of every written recording.
--   Digits       the digits of a number, in any base
--   Passages     a part of a text that takes a reader from one place to the next
--   Numerals     a written number as the bytes of a word
--   Lines        what each line of a command does to the reader
--   Runs         a run, command by command
--   RoundTrip    a written run is read back, with its times
--   Recorded     what was read can be written, and is replayed as before
--   Lengths      how long it is at most
--   Whole        whether bytes are whole commands
--   Refusals     which number the call that writes answers
--   Told         what it leaves in the buffer
pub mod Digits
pub mod Passages
pub mod Numerals
pub mod Lines
pub mod Runs
pub mod RoundTrip
pub mod Recorded
pub mod Lengths
pub mod Whole
pub mod Refusals
pub mod Told
