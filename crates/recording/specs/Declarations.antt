-- The five variables: names, widths and codes. Definitions only. Assumes nothing.
-- Source: document 01, "Variables, each declared once: stb (width 1), cmd (3), core (5), arg (8), prio (9)"; request 1/14, number 12.
--   forms                the widths that a recording may have, as a list of forms
--   signal_of w           the variable of a name
--   declares r s         a declaration of s with the width and code just read is right
use Rattle.std.specs.Prelude.{ℕ, List, [], ◌∷◌, Bool, not, ◌&&◌, ◌||◌, cond, ltb, eqb}
use Rattle.std.specs.Prelude.{Option, None, Some}
use Rattle.recording.specs.declared.Signal.{Signal}
use Rattle.recording.specs.declared.Signal.TheVariants.{Stb, Cmd, Core, Arg, Prio}
use Rattle.recording.specs.declared.Reader.{Reader}
use Rattle.recording.specs.Words.{bytes_of, same_bytes, all, any}
use Rattle.recording.specs.Values.{code_of}
use Rattle.recording.specs.Records.{variable}

abbrev pub signals : List Signal
signals = Stb ∷ Cmd ∷ Core ∷ Arg ∷ Prio ∷ []

abbrev pub name_of : Signal → List ℕ
name_of Stb = bytes_of "stb"
name_of Cmd = bytes_of "cmd"
name_of Core = bytes_of "core"
name_of Arg = bytes_of "arg"
name_of Prio = bytes_of "prio"

-- The first of a list that passes a test.
abbrev pub first : (Signal → Bool) → List Signal → Option Signal
first f [] = None
first f (s ∷ ss) = cond (f s) (Some s) (first f ss)

abbrev pub signal_of : List ℕ → Option Signal
signal_of w = first (λ s. same_bytes w (name_of s)) signals

-- ---- widths

-- The widths of arg and prio; the others are the same in every form.
pub record Form : Type 0 where
  pub arg : ℕ
  pub prio : ℕ

abbrev pub narrow : Form
narrow = record { arg = 8; prio = 9 }

abbrev pub forms : List Form
forms = narrow ∷ []

abbrev pub width_in : Form → Signal → ℕ
width_in f Stb = 1
width_in f Cmd = 3
width_in f Core = 5
width_in f Arg = f.arg
width_in f Prio = f.prio

-- ---- declarations

abbrev pub declared : Reader → Signal → Bool
declared r s = ltb 0 (variable r s).code

abbrev pub all_declared : Reader → Bool
all_declared r = all (declared r) signals

-- This form has this width for s, and the widths of all variables declared before.
abbrev pub fits : Reader → Signal → ℕ → Form → Bool
fits r s width f =
    eqb width (width_in f s) && all (λ s'. not (declared r s') || eqb (variable r s').width (width_in f s')) signals

-- The variable is declared with the code that this word spells.
abbrev pub has_code : Reader → List ℕ → Signal → Bool
has_code r w s = declared r s && eqb (variable r s).code (code_of w)

-- Not declared before, a right width, and a code that no other variable has.
unfoldable pub declares : Reader → Signal → Bool
declares r s =
    not (declared r s) &&
    any (fits r s r.pending.width) forms && not (any (λ s'. eqb (variable r s').code r.pending.code) signals)
