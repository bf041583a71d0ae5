-- Worked cases of the bytes and of the calls on them, from the sentences and the examples of docs/ENCODING.md. Definitions only.
-- Numbers above 255, flags that differ from their neighbours and parts that are all ones tell an exchanged, overlapping or left out part.
use Rattle.std.specs.Prelude.{ℕ, zero, suc, ◌≡◌, List, [], ◌∷◌, ◌++◌, true, false}
use Rattle.model.specs.declared.Answer.{Answer}
use Rattle.model.specs.declared.Command.TheVariants.{OnSource, OnCore}
use Rattle.model.specs.declared.SourceAction.TheVariants.{SetSourcePriority, Mask, Unmask, Trigger, Redeliver, Complete}
use Rattle.model.specs.declared.CoreAction.TheVariants.{SetCorePriority, Claim}
use Rattle.model.specs.Records.{source_id, core_id, source_with, box_with, core_with, controller_with, reset, answer}
use Rattle.model.specs.Ledger.{entry_with}
use Rattle.layout.specs.Bytes.{source_bytes, core_bytes, state_bytes, commands_in, answer_bytes, entries_in, packed, number_in, id_in}
use Rattle.layout.specs.Bytes.{cycles_in, call_of, make_call, execute_call, run_call_of, run_call}

-- The bytes of a part, so many times.
unfoldable pub times : ℕ → List ℕ → List ℕ
times zero part = []
times (suc k) part = part ++ times k part

-- ---- records and states

-- "+0 configured priority, +2 masked, +3 pending, +4 delivered, +5 the request's priority, +7 dropped triggers"
abbrev pub SourceCases : Type 0
SourceCases =
    (source_bytes (source_with 1 false true true 1 65534) ≡ 1 ∷ 0 ∷ 0 ∷ 1 ∷ 1 ∷ 1 ∷ 0 ∷ 254 ∷ 255 ∷ []) ×
    (source_bytes (source_with 511 true false false 258 3) ≡ 255 ∷ 1 ∷ 1 ∷ 0 ∷ 0 ∷ 2 ∷ 1 ∷ 3 ∷ 0 ∷ []) ×
    (source_bytes (source_with 1 false true false 0 0) ≡ 1 ∷ 0 ∷ 0 ∷ 1 ∷ 0 ∷ 0 ∷ 0 ∷ 0 ∷ 0 ∷ [])

-- "+0 configured priority, +2 box filled, +3 box dirty, +4 box source id, +6 box priority"
abbrev pub CoreCases : Type 0
CoreCases =
    (core_bytes (core_with 0 (box_with true false (source_id 1) 1)) ≡ 0 ∷ 0 ∷ 1 ∷ 0 ∷ 1 ∷ 0 ∷ 1 ∷ 0 ∷ []) ×
    (core_bytes (core_with 511 (box_with false true (source_id 300) 513)) ≡ 255 ∷ 1 ∷ 0 ∷ 1 ∷ 44 ∷ 1 ∷ 1 ∷ 2 ∷ [])

-- "A fresh controller of 2 sources and 1 core", and sizes that take two bytes each
abbrev pub StateCases : Type 0
StateCases =
    (state_bytes (reset 2 1) ≡ 2 ∷ 0 ∷ 1 ∷ 0 ∷ (times 128 (1 ∷ 0 ∷ 1 ∷ 0 ∷ 0 ∷ 0 ∷ 0 ∷ 0 ∷ 0 ∷ []) ++ times 256 (0 ∷ []))) ×
    (state_bytes (controller_with 258 769 [] []) ≡ 2 ∷ 1 ∷ 1 ∷ 3 ∷ [])

-- ---- commands and answers

-- "The number 0 to 7; the id or the core, two bytes; the priority, two bytes"; a number above 7 ends the list
abbrev pub CommandCases : Type 0
CommandCases =
    (commands_in (4 ∷ 4 ∷ 0 ∷ 0 ∷ 0 ∷ []) ≡ OnSource (source_id 4) Trigger ∷ []) ×
    (commands_in (0 ∷ 44 ∷ 1 ∷ 255 ∷ 1 ∷ []) ≡ OnSource (source_id 300) (SetSourcePriority 511) ∷ []) ×
    (commands_in (3 ∷ 2 ∷ 0 ∷ 9 ∷ 0 ∷ []) ≡ OnCore (core_id 2) (SetCorePriority 9) ∷ []) ×
    (commands_in (1 ∷ 1 ∷ 0 ∷ 0 ∷ 0 ∷ 2 ∷ 2 ∷ 0 ∷ 0 ∷ 0 ∷ []) ≡ OnSource (source_id 1) Mask ∷ OnSource (source_id 2) Unmask ∷ []) ×
    (commands_in (5 ∷ 3 ∷ 0 ∷ 0 ∷ 0 ∷ 6 ∷ 4 ∷ 0 ∷ 0 ∷ 0 ∷ []) ≡ OnCore (core_id 3) Claim ∷ OnSource (source_id 4) Redeliver ∷ []) ×
    (commands_in (7 ∷ 5 ∷ 0 ∷ 0 ∷ 0 ∷ []) ≡ OnSource (source_id 5) Complete ∷ []) ×
    (commands_in (4 ∷ 1 ∷ 0 ∷ 0 ∷ 0 ∷ 8 ∷ 1 ∷ 0 ∷ 0 ∷ 0 ∷ 4 ∷ 2 ∷ 0 ∷ 0 ∷ 0 ∷ []) ≡ OnSource (source_id 1) Trigger ∷ [])

-- an answer's number, id and cycles
abbrev pub answering : ℕ → ℕ → ℕ → Answer
answering number id cycles = answer (reset 1 1) number id cycles

-- "Document 01's number, one byte; the claimed id, two bytes; the cycles, two bytes", and the entries read from them
abbrev pub AnswerCases : Type 0
AnswerCases =
    (answer_bytes (answering 0 0 1) ≡ 0 ∷ 0 ∷ 0 ∷ 1 ∷ 0 ∷ []) ×
    (answer_bytes (answering 7 300 513) ≡ 7 ∷ 44 ∷ 1 ∷ 1 ∷ 2 ∷ []) ×
    (entries_in (OnCore (core_id 1) Claim ∷ OnCore (core_id 0) Claim ∷ []) (7 ∷ 0 ∷ 0 ∷ 0 ∷ 0 ∷ 0 ∷ 44 ∷ 1 ∷ 2 ∷ 0 ∷ [])
    ≡ entry_with (OnCore (core_id 1) Claim) 7 0 ∷ entry_with (OnCore (core_id 0) Claim) 0 300 ∷ [])

-- "number, with 256 times the id and 2^24 times the cycles added": three parts of all ones are 40 binary ones
abbrev pub PackedCases : Type 0
PackedCases =
    (packed (answering 255 65535 65535) ≡ 1099511627775) × (packed (answering 0 4 0) ≡ 1024) × (packed (answering 0 0 1) ≡ 16777216) ×
    (packed (answering 7 128 64) ≡ 1073774599) ×
    (number_in 1073774599 ≡ 7) × (id_in 1073774599 ≡ 128) × (cycles_in 1073774599 ≡ 64)

-- ---- calls

-- a fresh controller's bytes, and as many bytes of another kind
abbrev pub fresh_bytes : List ℕ
fresh_bytes = state_bytes (reset 2 1)

abbrev pub other_bytes : List ℕ
other_bytes = times 1412 (9 ∷ [])

-- what is refused writes nothing: another length, sizes out of range, a number above 7, bytes that encode no state
abbrev pub CallCases : Type 0
CallCases =
    (make_call 2 1 (9 ∷ []) ≡ call_of 255 (9 ∷ [])) × (make_call 129 1 other_bytes ≡ call_of 2 other_bytes) ×
    (make_call 2 1 other_bytes ≡ call_of 0 fresh_bytes) ×
    (execute_call 8 1 0 fresh_bytes ≡ call_of 255 fresh_bytes) × (execute_call 4 1 0 other_bytes ≡ call_of 255 other_bytes) ×
    (run_call other_bytes [] [] ≡ run_call_of 18446744073709551615 other_bytes [])
