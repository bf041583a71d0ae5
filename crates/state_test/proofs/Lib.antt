-- The turns of the two passes, from records read where they lie.
mod Read
mod Repeating
