-- What is proved here.
--   Claims          which case of the claim of a record its tests pick
--   Searches        the search by keys, and that it agrees with the plain walk
--   LentRanges      how many ranges of a lent list are looked into
--   LentExamples    the worked cases of the calls
pub mod Claims
pub mod Searches
pub mod LentRanges
pub mod LentExamples
