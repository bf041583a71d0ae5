-- Definitions that know nothing of a controller.
--   Numbers    tests on numbers
--   Walks      "for each", "for some", and the first winner of a row, as a walk and as the comparator tree
--   Rows       values laid in a row
--   Sorting    sorting from the top
pub mod Numbers
pub mod Rows
pub mod Sorting
pub mod Walks
