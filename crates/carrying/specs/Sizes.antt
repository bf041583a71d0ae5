-- How many bytes each part of a reader takes among those of recording/specs/Carrying.antt. Helpers of contracts; nothing here needs
-- to be believed.
use Rattle.std.specs.Prelude.{ℕ, ◌*◌}
use Rattle.recording.specs.Carrying.{variable_size}

abbrev pub value_size : ℕ
value_size = 3

abbrev pub variables_size : ℕ
variables_size = 5 * variable_size

abbrev pub pending_size : ℕ
pending_size = 9

abbrev pub stamp_size : ℕ
stamp_size = 10

abbrev pub fault_size : ℕ
fault_size = 9
