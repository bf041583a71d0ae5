-- The calls on records that the host lends.
--   Lent         what they answer: definitions that a reader must believe
--   LentCases    worked cases of them
--   Keys         helpers of contracts; nothing there needs to be believed
pub mod Lent
pub mod LentCases
pub mod Keys
