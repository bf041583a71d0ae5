-- The reader's records, and every literal of them. Definitions only. Assumes nothing.
-- Source: document 01, "Until first given, stb is 0 and the others are x", "(0 before the first)".
--   start             the reader before the first word
--   variable r s      what a reader holds of a variable
--   refused n at r    the reader with a fault; a reader that has one stays as it is
use Rattle.std.specs.Prelude.{ℕ, Bool, true, false, Option, None}
use Rattle.recording.specs.declared.Place.{Place}
use Rattle.recording.specs.declared.Place.TheVariants.{Definition}
use Rattle.recording.specs.declared.Signal.{Signal}
use Rattle.recording.specs.declared.Signal.TheVariants.{Stb, Cmd, Core, Arg, Prio}
use Rattle.recording.specs.declared.Value.{Value}
use Rattle.recording.specs.declared.Variable.{Variable}
use Rattle.recording.specs.declared.Variables.{Variables}
use Rattle.recording.specs.declared.Vector.{Vector}
use Rattle.recording.specs.declared.Pending.{Pending}
use Rattle.recording.specs.declared.Stamp.{Stamp}
use Rattle.recording.specs.declared.Fault.{Fault}
use Rattle.recording.specs.declared.Reader.{Reader}
use Rattle.recording.specs.declared.Strobe.{Strobe}
use Rattle.recording.specs.declared.Read.{Read}
use Rattle.recording.specs.Values.{value, unknown, vector_with}

-- ---- variables

abbrev pub variable_with : ℕ → ℕ → Value → Variable
variable_with code width v = record { code = code; width = width; value = v }

abbrev pub variables_with : Variable → Variable → Variable → Variable → Variable → Variables
variables_with stb cmd core arg prio = record { stb = stb; cmd = cmd; core = core; arg = arg; prio = prio }

abbrev pub variable_of : Variables → Signal → Variable
variable_of vs Stb = vs.stb
variable_of vs Cmd = vs.cmd
variable_of vs Core = vs.core
variable_of vs Arg = vs.arg
variable_of vs Prio = vs.prio

abbrev pub with_variable_of : Variables → Signal → Variable → Variables
with_variable_of vs Stb v = variables_with v vs.cmd vs.core vs.arg vs.prio
with_variable_of vs Cmd v = variables_with vs.stb v vs.core vs.arg vs.prio
with_variable_of vs Core v = variables_with vs.stb vs.cmd v vs.arg vs.prio
with_variable_of vs Arg v = variables_with vs.stb vs.cmd vs.core v vs.prio
with_variable_of vs Prio v = variables_with vs.stb vs.cmd vs.core vs.arg v

-- ---- the reader

abbrev pub pending_with : ℕ → ℕ → Vector → Pending
pending_with width code v = record { width = width; code = code; vector = v }

abbrev pub stamp_with : Bool → ℕ → Bool → Stamp
stamp_with opened time up = record { opened = opened; time = time; up = up }

abbrev pub fault_with : ℕ → ℕ → Fault
fault_with number offset = record { number = number; offset = offset }

abbrev pub reader_with : Place → Pending → Variables → Stamp → ℕ → Fault → Reader
reader_with p pending vs stamp taken fault =
    record { place = p; pending = pending; variables = vs; stamp = stamp; taken = taken; fault = fault }

abbrev pub start : Reader
start =
    reader_with Definition (pending_with 0 0 (vector_with 0 unknown))
    (variables_with (variable_with 0 0 (value true 0)) (variable_with 0 0 unknown) (variable_with 0 0 unknown) (variable_with 0 0 unknown)
    (variable_with 0 0 unknown))
    (stamp_with false 0 false) 0 (fault_with 0 0)

abbrev pub variable : Reader → Signal → Variable
variable r s = variable_of r.variables s

abbrev pub at : Place → Reader → Reader
at p r = reader_with p r.pending r.variables r.stamp r.taken r.fault

abbrev pub with_pending : Pending → Reader → Reader
with_pending p r = reader_with r.place p r.variables r.stamp r.taken r.fault

abbrev pub with_width : ℕ → Reader → Reader
with_width w r = with_pending (pending_with w r.pending.code r.pending.vector) r

abbrev pub with_code : ℕ → Reader → Reader
with_code c r = with_pending (pending_with r.pending.width c r.pending.vector) r

abbrev pub with_vector : Vector → Reader → Reader
with_vector v r = with_pending (pending_with r.pending.width r.pending.code v) r

abbrev pub with_variable : Signal → Variable → Reader → Reader
with_variable s v r = reader_with r.place r.pending (with_variable_of r.variables s v) r.stamp r.taken r.fault

abbrev pub with_value : Signal → Value → Reader → Reader
with_value s v r = with_variable s (variable_with (variable r s).code (variable r s).width v) r

-- the width and the code that were read become those of a variable
abbrev pub declaring : Signal → Reader → Reader
declaring s r = with_variable s (variable_with r.pending.code r.pending.width (variable r s).value) r

abbrev pub with_stamp : Stamp → Reader → Reader
with_stamp s r = reader_with r.place r.pending r.variables s r.taken r.fault

abbrev pub with_time : ℕ → Reader → Reader
with_time t r = with_stamp (stamp_with true t r.stamp.up) r

-- whether stb is 1 at the end of a stamp
abbrev pub with_up : Bool → Reader → Reader
with_up b r = with_stamp (stamp_with r.stamp.opened r.stamp.time b) r

abbrev pub with_taken : ℕ → Reader → Reader
with_taken n r = reader_with r.place r.pending r.variables r.stamp n r.fault

abbrev pub refused : ℕ → ℕ → Reader → Reader
refused number offset r =
    reader_with r.place r.pending r.variables r.stamp r.taken (fault_with number offset)

-- ---- what a word does

abbrev pub strobe_with : ℕ → ℕ → ℕ → Strobe
strobe_with number target level = record { number = number; target = target; level = level }

abbrev pub read_with : Reader → Option Strobe → Read
read_with r s = record { reader = r; strobe = s }

-- no command is taken
abbrev pub only : Reader → Read
only r = read_with r None
