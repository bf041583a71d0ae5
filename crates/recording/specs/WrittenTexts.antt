-- Worked texts as they are written, and worked cases of the call that writes them. Definitions only; that they hold is computed in
-- proofs/WrittenExamples.antt.
-- Source: document 01, "Trigger 4 alone, as the model writes it", and a text for each sentence of request 6/14.
--   TextCases     no command, trigger 4, each of the eight commands, the last that a run may have
--   WriteCases    the call, byte for byte: what is written, an exact fit, the largest values and one more, and lists that are no commands
use Rattle.std.specs.Prelude.{ℕ, ◌*◌, ◌≡◌, List, [], ◌∷◌, ◌++◌, length}
use Prim.Native.String.{String, ◌++◌ as ◌++ˢ◌}
use Rattle.model.specs.declared.Command.{Command}
use Rattle.model.specs.declared.Command.TheVariants.{OnSource, OnCore}
use Rattle.model.specs.declared.SourceAction.TheVariants.{SetSourcePriority, Mask, Unmask, Trigger, Redeliver, Complete}
use Rattle.model.specs.declared.CoreAction.TheVariants.{SetCorePriority, Claim}
use Rattle.model.specs.Records.{source_id, core_id}
use Rattle.recording.specs.Words.{bytes_of}
use Rattle.recording.specs.Declarations.{narrow}
use Rattle.recording.specs.Writing.{definition_text, command_text, written}
use Rattle.recording.specs.Calls.{WriteCall, write_call_of, write_call}
use Rattle.recording.specs.Texts.{trigger4}
use Rattle.recording.specs.CallTexts.{lent}

-- ---- texts

-- The nine lines before the first stamp, 197 bytes.
unfoldable pub definition_lines : String
definition_lines =
    "$timescale 1 ns $end\n$scope module psic $end\n" ++ˢ
    ("$var wire 1 ! stb $end\n$var wire 3 \" cmd $end\n$var wire 5 # core $end\n$var wire 8 $ arg $end\n$var wire 9 % prio $end\n" ++ˢ
    "$upscope $end\n$enddefinitions $end\n")

-- Each of the eight, with the largest and the least of the values that are used; a trigger of id 0, which is refused, is written too.
abbrev pub eight : List Command
eight =
    OnSource (source_id 255) (SetSourcePriority 511) ∷
    OnSource (source_id 1) Mask ∷
    OnSource (source_id 6) Unmask ∷
    OnCore (core_id 31) (SetCorePriority 0) ∷
    OnSource (source_id 0) Trigger ∷
    OnCore (core_id 2) Claim ∷ OnSource (source_id 128) Redeliver ∷ OnSource (source_id 85) Complete ∷ []

unfoldable pub eight_lines : String
eight_lines =
    "#0\nb0 \"\nb0 #\nb11111111 $\nb111111111 %\n1!\n#1\n0!\n" ++ˢ
    ("#2\nb1 \"\nb0 #\nb1 $\nb0 %\n1!\n#3\n0!\n" ++ˢ
    ("#4\nb10 \"\nb0 #\nb110 $\nb0 %\n1!\n#5\n0!\n" ++ˢ
    ("#6\nb11 \"\nb11111 #\nb0 $\nb0 %\n1!\n#7\n0!\n" ++ˢ
    ("#8\nb100 \"\nb0 #\nb0 $\nb0 %\n1!\n#9\n0!\n" ++ˢ
    ("#10\nb101 \"\nb10 #\nb0 $\nb0 %\n1!\n#11\n0!\n" ++ˢ
    ("#12\nb110 \"\nb0 #\nb10000000 $\nb0 %\n1!\n#13\n0!\n" ++ˢ "#14\nb111 \"\nb0 #\nb1010101 $\nb0 %\n1!\n#15\n0!\n"))))))

-- The 65,535th command of a run: times of six digits, and no command takes more bytes.
unfoldable pub last_lines : String
last_lines = "#131068\nb0 \"\nb0 #\nb11111111 $\nb111111111 %\n1!\n#131069\n0!\n"

abbrev pub TextCases : Type 0
TextCases =
    -- "An empty run ends after the definitions"
    (written narrow [] ≡ bytes_of definition_lines) ×
    (length (definition_text narrow) ≡ 197) ×
    (written narrow (OnSource (source_id 4) Trigger ∷ []) ≡ bytes_of trigger4) ×
    (written narrow eight ≡ bytes_of (definition_lines ++ˢ eight_lines)) ×
    (command_text 65534 (OnSource (source_id 255) (SetSourcePriority 511)) ≡ bytes_of last_lines) ×
    (length (bytes_of last_lines) ≡ 57)

-- ---- the call for hosts

-- An accepted text of so many bytes, and as many as were lent behind it. The number is 0, so that the result is the length alone.
abbrev pub accepts : String → ℕ → ℕ → WriteCall
accepts text long behind = write_call_of (256 * long) (bytes_of text ++ lent behind)

-- A command's text after the definitions, at the stamps 0 and 1.
abbrev pub alone : String → String → String → String → String
alone cmd core arg prio =
    definition_lines ++ˢ
    ("#0\nb" ++ˢ (cmd ++ˢ (" \"\nb" ++ˢ (core ++ˢ (" #\nb" ++ˢ (arg ++ˢ (" $\nb" ++ˢ (prio ++ˢ " %\n1!\n#1\n0!\n"))))))))

abbrev pub WriteCases : Type 0
WriteCases =
    -- trigger 4: the buffer longer than the text, as long, and a byte shorter
    (write_call (4 ∷ 4 ∷ 0 ∷ 0 ∷ 0 ∷ []) (lent 240) ≡ accepts trigger4 233 7) ×
    (write_call (4 ∷ 4 ∷ 0 ∷ 0 ∷ 0 ∷ []) (lent 233) ≡ accepts trigger4 233 0) ×
    (write_call (4 ∷ 4 ∷ 0 ∷ 0 ∷ 0 ∷ []) (lent 232) ≡ write_call_of 15 (lent 232)) ×
    -- an unused priority of 65,535 doesn't count, and is written as 0
    (write_call (4 ∷ 4 ∷ 0 ∷ 255 ∷ 255 ∷ []) (lent 233) ≡ accepts trigger4 233 0) ×
    -- no command: the definitions alone; no buffer
    (write_call [] (lent 197) ≡ accepts definition_lines 197 0) ×
    (write_call [] (lent 196) ≡ write_call_of 15 (lent 196)) ×
    (write_call [] [] ≡ write_call_of 15 []) ×
    -- id 255 and 256, core 31 and 32, priority 511 and 512
    (write_call (4 ∷ 255 ∷ 0 ∷ 0 ∷ 0 ∷ []) (lent 240) ≡ accepts (alone "100" "0" "11111111" "0") 238 2) ×
    (write_call (4 ∷ 0 ∷ 1 ∷ 0 ∷ 0 ∷ []) (lent 240) ≡ write_call_of 15 (lent 240)) ×
    (write_call (5 ∷ 31 ∷ 0 ∷ 0 ∷ 0 ∷ []) (lent 240) ≡ accepts (alone "101" "11111" "0" "0") 235 5) ×
    (write_call (5 ∷ 32 ∷ 0 ∷ 0 ∷ 0 ∷ []) (lent 240) ≡ write_call_of 15 (lent 240)) ×
    (write_call (3 ∷ 1 ∷ 0 ∷ 255 ∷ 1 ∷ []) (lent 240) ≡ accepts (alone "11" "1" "0" "111111111") 238 2) ×
    (write_call (3 ∷ 1 ∷ 0 ∷ 0 ∷ 2 ∷ []) (lent 240) ≡ write_call_of 15 (lent 240)) ×
    (write_call (0 ∷ 1 ∷ 0 ∷ 0 ∷ 2 ∷ []) (lent 240) ≡ write_call_of 15 (lent 240)) ×
    -- one command of several that can't be written
    (write_call (4 ∷ 4 ∷ 0 ∷ 0 ∷ 0 ∷ 5 ∷ 32 ∷ 0 ∷ 0 ∷ 0 ∷ []) (lent 280) ≡ write_call_of 15 (lent 280)) ×
    -- a number 8, and an end that is cut, also behind a command: no commands, whatever the buffer
    (write_call (8 ∷ 4 ∷ 0 ∷ 0 ∷ 0 ∷ []) (lent 240) ≡ write_call_of 255 (lent 240)) ×
    (write_call (4 ∷ 4 ∷ 0 ∷ 0 ∷ 0 ∷ 8 ∷ 0 ∷ 0 ∷ 0 ∷ 0 ∷ []) (lent 300) ≡ write_call_of 255 (lent 300)) ×
    (write_call (4 ∷ 4 ∷ 0 ∷ 0 ∷ []) (lent 240) ≡ write_call_of 255 (lent 240)) ×
    (write_call (4 ∷ 4 ∷ 0 ∷ 0 ∷ 0 ∷ 4 ∷ []) [] ≡ write_call_of 255 [])
