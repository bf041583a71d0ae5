-- The worked texts as they are written, and the worked cases of the call, hold of the definitions. Assumes nothing.
use mathlib.Core.Path.{refl}
use Rattle.lists.specs.Rows.{joined}
use Rattle.layout.specs.Bytes.{in_fives}
use Rattle.layout.specs.BytesCases.{times}
use Rattle.layout.specs.Commands.{command_of}
use Rattle.recording.specs.Writing.{digits, definition_text, command_text, text_from, written}
use Rattle.recording.specs.Calls.{write_call}
use Rattle.recording.specs.Texts.{trigger4}
use Rattle.recording.specs.WrittenTexts.{definition_lines, eight_lines, last_lines, TextCases, WriteCases}

pub text_cases : TextCases
unfolding joined digits definition_text command_text text_from written trigger4 definition_lines eight_lines last_lines
text_cases = (refl, refl, refl, refl, refl, refl)

pub write_cases : WriteCases
unfolding joined in_fives command_of times digits definition_text command_text text_from written write_call trigger4 definition_lines
write_cases =
    (refl, refl, refl, refl, refl, refl, refl, refl, refl, refl, refl, refl, refl, refl, refl, refl, refl, refl, refl)
