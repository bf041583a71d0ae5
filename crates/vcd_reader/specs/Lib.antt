-- Helpers of the contracts. Nothing here needs to be believed: what a text says is in the crate recording.
--   Advances    what a part of a reading answers
--   Runs        what a word is that begins at an offset
--   Skipping    words that are told by their spelling, and words that are skipped
--   Changes     changes and times that give no command, and the word that gives one
pub mod Advances
pub mod Runs
pub mod Skipping
pub mod Changes
