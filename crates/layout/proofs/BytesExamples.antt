-- The worked cases of the bytes hold of the definitions, each by computation. Assumes nothing.
use mathlib.Core.Path.{refl}
use Rattle.lists.specs.Walks.{every}
use Rattle.model.specs.WellFormed.{sizes_in_range}
use Rattle.model.specs.Commands.{make}
use Rattle.layout.specs.Commands.{command_of}
use Rattle.lists.specs.Rows.{joined}
use Rattle.layout.specs.Bytes.{state_bytes, is_state, in_fives, entries_in, make_call, execute_call, run_call}
use Rattle.layout.specs.BytesCases.{times, SourceCases, CoreCases, StateCases, CommandCases, AnswerCases, PackedCases, CallCases}

pub source_cases : SourceCases
source_cases = (refl, refl, refl)

pub core_cases : CoreCases
core_cases = (refl, refl)

pub state_cases : StateCases
unfolding joined state_bytes times
state_cases = (refl, refl)

pub command_cases : CommandCases
unfolding command_of in_fives
command_cases = (refl, refl, refl, refl, refl, refl, refl)

pub answer_cases : AnswerCases
unfolding entries_in
answer_cases = (refl, refl, refl)

pub packed_cases : PackedCases
packed_cases = (refl, refl, refl, refl, refl, refl, refl)

pub call_cases : CallCases
unfolding joined state_bytes every is_state sizes_in_range make command_of make_call execute_call run_call times
call_cases = (refl, refl, refl, refl, refl, refl)
