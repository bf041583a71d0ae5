-- Whether bytes are whole commands: the test of the call that writes means what `NoRun` says. Assumes nothing.
--   told        a list is a run, or it is none
use Prim.Native.Nat.{ℕ, zero, suc, ◌+◌, ◌*◌, ◌<◌}
use mathlib.Core.Path.{◌≡◌, refl, ap}
use mathlib.Core.List.{List, [], ◌∷◌}
use mathlib.Core.Bool.{true, false}
use native.Mathlib.Omega.{arith}
use native.Mathlib.Decide.{dec_lt}
use native.Mathlib.Nat.{not-suc-le-zero}
use lib.ListN.{length, get_or}
use borrow.Author.Tests.{eq-eqb, ne_eqb}
use Rattle.model.specs.declared.Command.{Command}
use Rattle.layout.specs.Commands.{command_of}
use Rattle.layout.proofs.Commands.{unknown}
use Rattle.layout.specs.Bytes.{command_size, or_end, in_fives, one_command, commands_in}
use Rattle.recording.specs.Calls.{is_run}
use Rattle.recording.specs.WritingStatements.{NoRun, cut_end, no_command}
use Rattle.readings.proofs.Commanded.{named_one}

-- ---- one command of a list

unknown_none : (number at p : ℕ) → 7 < number → one_command (command_of number at p) ≡ []
unknown_none number at p h = ap one_command (unknown number at p h)

more_length : {A : Type 0} (xs rest : List A) → length xs ≡ 1 → length (or_end xs rest) ≡ suc (length rest)
more_length [] rest e = absurd (omega (arith, e))
more_length (x ∷ xs) rest e = refl

-- ---- the whole list

abbrev Whole : List ℕ → Type 0
Whole list = command_size * length (commands_in list) ≡ length list

data Told (list : List ℕ) : Type 0 where
  run : Whole list → (NoRun list → ⊥) → Told list
  none : (Whole list → ⊥) → NoRun list → Told list

-- fewer than five bytes
short : (list : List ℕ) → length (commands_in list) ≡ 0 → 0 < length list → length list < 5 → Told list
short list e l h = none (λ w. omega arith) (cut_end (λ z. omega arith))

module _ (a b c d e : ℕ) (rest : List ℕ) where
  abbrev row : List ℕ
  row = a ∷ b ∷ c ∷ d ∷ e ∷ rest

  -- a command further on
  behind : (i : ℕ) → get_or row (command_size * suc i) 0 ≡ get_or rest (command_size * i) 0
  behind i = ap (λ (k : ℕ). get_or row k 0) next
    where
      next : 5 * suc i ≡ suc (suc (suc (suc (suc (5 * i)))))
      next = omega arith

  later_none : NoRun rest → NoRun row
  later_none (cut_end h) = cut_end (λ z. h (omega arith))
  later_none (no_command i l g) = no_command (suc i) (omega arith) (omega (arith, behind i))

  first_none : a < 8 → NoRun row → NoRun rest
  first_none h (cut_end g) = cut_end (λ z. g (omega arith))
  first_none h (no_command zero l g) = absurd (omega arith)
  first_none h (no_command (suc i) l g) = no_command i (omega arith) (omega (arith, behind i))

  told_more : Told rest → Told row
  unfolding in_fives
  told_more t = go (dec_lt 7 a) t
    where
      read : List Command
      read = one_command (command_of a (b + 256 * c) (d + 256 * e))

      longer : a < 8 → length (commands_in row) ≡ suc (length (commands_in rest))
      longer h = more_length read (commands_in rest) (named_one a (b + 256 * c) (d + 256 * e) h)

      go : Dec (7 < a) → Told rest → Told row
      go (yes p) t =
          none (λ w. omega (
            arith,
            ap (λ (xs : List Command). length (or_end xs (commands_in rest)))
                (unknown_none a (b + 256 * c) (d + 256 * e) p),
          ))
          (no_command 0 (omega arith) p)
      go (no q) (run w n) = run (omega (arith, longer (omega arith))) (λ x. n (first_none (omega arith) x))
      go (no q) (none w n) = none (λ x. w (omega (arith, longer (omega arith)))) (later_none n)

told : (list : List ℕ) → Told list
unfolding in_fives
told [] = run refl (λ x. none_empty x)
  where
    none_empty : NoRun [] → ⊥
    none_empty (cut_end h) = h refl
    none_empty (no_command i l g) = not-suc-le-zero l
told (a ∷ []) = short (a ∷ []) refl (omega arith) (omega arith)
told (a ∷ b ∷ []) = short (a ∷ b ∷ []) refl (omega arith) (omega arith)
told (a ∷ b ∷ c ∷ []) = short (a ∷ b ∷ c ∷ []) refl (omega arith) (omega arith)
told (a ∷ b ∷ c ∷ d ∷ []) = short (a ∷ b ∷ c ∷ d ∷ []) refl (omega arith) (omega arith)
told (a ∷ b ∷ c ∷ d ∷ e ∷ rest) = told_more a b c d e rest (told rest)

-- the test's value, with its meaning
pub data Tested (list : List ℕ) : Type 0 where
  is_run_lem : is_run list ≡ true → (NoRun list → ⊥) → Tested list
  no_run : is_run list ≡ false → NoRun list → Tested list

pub tested : (list : List ℕ) → Tested list
tested list = go (told list)
  where
    go : Told list → Tested list
    go (run w n) = is_run_lem (eq-eqb (command_size * length (commands_in list)) (length list) w) n
    go (none w n) = no_run (ne_eqb (command_size * length (commands_in list)) (length list) w) n
