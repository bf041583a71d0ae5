-- Times of which the statement is false: that of the word which ends the stamp, and 0. Assumes nothing.
use mathlib.Core.Path.{◌≡◌, refl, ap, ◌∙◌}
use mathlib.Core.List.{List, [], ◌∷◌}
use Prim.Native.Nat.{ℕ}
use native.Mathlib.Omega.{arith}
use lib.ListN.{get_or}
use Rattle.recording.specs.Words.{bytes_of}
use Rattle.recording.specs.Reading.{times_from, times_of}
use Rattle.recording.specs.Texts.{definitions}
use Rattle.recording.specs.CallTexts.{late}
use Rattle.recording.specs.Statements.{Timed}
use Rattle.recording.proofs.Examples.{computed}
use Rattle.readings.proofs.Times.{times_exact}

late_time : times_of (bytes_of late) ≡ 5 ∷ []
unfolding computed times_from times_of definitions late
late_time = refl

-- times of that text have 5 first
first_time : (times : List ℕ) → Timed (bytes_of late) times → get_or times 0 0 ≡ 5
first_time times h = ap (λ (l : List ℕ). get_or l 0 0) ((times_exact (bytes_of late) times).0 h ∙ late_time)

pub ending_word_fails : ¬ Timed (bytes_of late) (7 ∷ [])
ending_word_fails h = omega (arith, first_time (7 ∷ []) h)

pub zero_fails : ¬ Timed (bytes_of late) (0 ∷ [])
zero_fails h = omega (arith, first_time (0 ∷ []) h)
