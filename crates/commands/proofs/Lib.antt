-- From what a step leaves to the answer of the definition.
mod Answered
