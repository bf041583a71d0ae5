-- Laws that the proofs cite.
--   Counted    one count, by the tests of the code
--   Table      a table from its words, and its words from it
mod Counted
mod Table
