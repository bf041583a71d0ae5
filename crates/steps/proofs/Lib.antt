-- From what each command leaves to a list that can go on.
pub mod Gone
