-- From what the code reads and stores to the answer of the definition.
mod Retracted
mod Deliveries
mod Settled
mod Cores
