-- The worked states hold of the definitions, each list by one computation. Assumes nothing.
--   clauses_are_test      the conjuncts listed are the whole sound-state test
--   states_told_apart     each clause of it tells a broken state from a sound one
--   box_parts_hold        and so do the parts of the clause on boxes that other clauses hide
--   fresh_holds           the fields of a fresh controller, and which sizes are made
--   retractions_hold      the lowest dirty box goes first
use mathlib.Core.Path.{◌≡◌, refl}
use mathlib.Core.Bool.{true, and-true, and_assoc}
use Rattle.model.specs.WellFormed.{quiet, consistent, well_formed}
use Rattle.model.specs.Commands.{make}
use Rattle.model.specs.StateCases.{ClausesAreTest, calm, told_apart, all_told_apart, all_hold, state_cases, box_parts, fresh, retractions}
use Rattle.model.proofs.Examples.{computed}

pub clauses_are_test : ClausesAreTest
unfolding well_formed consistent quiet
clauses_are_test s = simp (and_assoc, and-true)

pub states_told_apart : all_told_apart state_cases ≡ true
unfolding computed calm told_apart all_told_apart state_cases
states_told_apart = refl

pub box_parts_hold : all_hold box_parts ≡ true
unfolding computed box_parts
box_parts_hold = refl

pub fresh_holds : all_hold fresh ≡ true
unfolding computed make fresh
fresh_holds = refl

pub retractions_hold : all_hold retractions ≡ true
unfolding computed calm retractions
retractions_hold = refl
