-- Helpers of the contracts. Nothing here needs to be believed: what is written is in the crate recording.
--   Lines     lines by their numbers, and bytes put before an offset
pub mod Lines
