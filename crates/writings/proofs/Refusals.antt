-- When a run can't be written, and which number its call answers (`WriteRefusalsExact`). Assumes nothing.
--   not_writable, writable-fits    the test of a command means that no value it uses is too large
--   Outcome, outcome               what the call comes to: no run, a run that can't be written, or its text
use Prim.Native.Nat.{ℕ, ◌+◌, ◌*◌, ◌^◌, ◌≤◌}
use mathlib.Core.Path.{◌≡◌, refl, sym, ap, ◌∙◌}
use mathlib.Core.Logic.{◌↔◌}
use mathlib.Core.List.Memᴰ.{head as here}
use mathlib.Core.List.Memᴰ.{tail as there}
use mathlib.Core.List.{List, [], ◌∷◌, Memᴰ}
use mathlib.Core.Bool.{Bool, true, false, ◌&&◌, true≢false}
use native.Mathlib.Omega.{arith}
use native.Mathlib.Nat.{pow-le-pow_right}
use lib.ListN.{length}
use lib.Dec.{leb}
use borrow.Author.Tests.{ltb-false, leb-true, leb-false}
use Rattle.lists.proofs.Bools.{and_in, clash, Flag, on, off, flag}
use Rattle.model.specs.declared.SourceId.{SourceId}
use Rattle.model.specs.declared.CoreId.{CoreId}
use Rattle.model.specs.declared.SourceAction.{SourceAction}
use Rattle.model.specs.declared.SourceAction.TheVariants.{SetSourcePriority, Mask, Unmask, Trigger, Redeliver, Complete}
use Rattle.model.specs.declared.CoreAction.{CoreAction}
use Rattle.model.specs.declared.CoreAction.TheVariants.{SetCorePriority, Claim}
use Rattle.model.specs.declared.Command.{Command}
use Rattle.model.specs.declared.Command.TheVariants.{OnSource, OnCore}
use Rattle.layout.specs.Commands.{level_of}
use Rattle.layout.specs.Bytes.{commands_in, number_in}
use Rattle.recording.specs.declared.Signal.TheVariants.{Core, Arg, Prio}
use Rattle.recording.specs.Words.{all}
use Rattle.recording.specs.Declarations.{Form, narrow, width_in}
use Rattle.recording.specs.Stamps.{max_commands}
use Rattle.recording.specs.Writing.{core_value, arg_value, holds, written, writable}
use Rattle.recording.specs.Calls.{write_call_of, can_write, written_into, write_call}
use Rattle.recording.specs.WritingStatements.{Fits, TooLarge, source_id, source_priority, core_number, core_priority}
use Rattle.recording.specs.WritingStatements.{Unwritable, too_many, too_large, too_long, NoRun, WriteRefusalsExact}
use Rattle.readings.proofs.Lists.{all_out}
use Rattle.writings.proofs.Runs.{Used, used}
use Rattle.writings.proofs.Whole.{Tested, is_run_lem, no_run, tested}

-- ---- what a command uses

source_values : (id : SourceId) (a : SourceAction) → (core_value (OnSource id a) ≡ 0) × (arg_value (OnSource id a) ≡ id.0)
source_values id (SetSourcePriority p) = (refl, refl)
source_values id Mask = (refl, refl)
source_values id Unmask = (refl, refl)
source_values id Trigger = (refl, refl)
source_values id Redeliver = (refl, refl)
source_values id Complete = (refl, refl)

core_values : (k : CoreId) (a : CoreAction) → (core_value (OnCore k a) ≡ k.0) × (arg_value (OnCore k a) ≡ 0)
core_values k (SetCorePriority p) = (refl, refl)
core_values k Claim = (refl, refl)

module _ (f : Form) where
  -- every width has room for 0
  room : (width : ℕ) → 1 ≤ 2 ^ width
  room width = pow-le-pow_right {n = 2} (omega arith) {i = 0} {j = width} (omega arith)

  -- a value that fits isn't too large
  used_fits : {c : Command} → Used f c → TooLarge f c → ⊥
  used_fits u (source_id id a h) = omega (arith, u.arg, (source_values id a).1)
  used_fits u (source_priority id p h) = omega (arith, u.prio)
  used_fits u (core_number k a h) = omega (arith, u.core, (core_values k a).0)
  used_fits u (core_priority k p h) = omega (arith, u.prio)

  -- the first value that doesn't fit
  large_level : (c : Command) → 2 ^ width_in f Prio ≤ level_of c → TooLarge f c
  large_level (OnSource id (SetSourcePriority p)) h = source_priority id p h
  large_level (OnSource id Mask) h = absurd (omega (arith, room f.prio))
  large_level (OnSource id Unmask) h = absurd (omega (arith, room f.prio))
  large_level (OnSource id Trigger) h = absurd (omega (arith, room f.prio))
  large_level (OnSource id Redeliver) h = absurd (omega (arith, room f.prio))
  large_level (OnSource id Complete) h = absurd (omega (arith, room f.prio))
  large_level (OnCore k (SetCorePriority p)) h = core_priority k p h
  large_level (OnCore k Claim) h = absurd (omega (arith, room f.prio))

  large_arg : (c : Command) → 2 ^ width_in f Arg ≤ arg_value c → TooLarge f c
  large_arg (OnSource id a) h = source_id id a (omega (arith, (source_values id a).1))
  large_arg (OnCore k a) h = absurd (omega (arith, (core_values k a).1, room f.arg))

  large_core : (c : Command) → 2 ^ width_in f Core ≤ core_value c → TooLarge f c
  large_core (OnSource id a) h = absurd (omega (arith, (source_values id a).0))
  large_core (OnCore k a) h = core_number k a (omega (arith, (core_values k a).0))

  not_writable : (c : Command) → writable f c ≡ false → TooLarge f c
  not_writable c = go (flag x) (flag y) (flag z)
    where
      x : Bool
      x = holds (width_in f Core) (core_value c)

      y : Bool
      y = holds (width_in f Arg) (arg_value c)

      z : Bool
      z = holds (width_in f Prio) (level_of c)

      go : Flag x → Flag y → Flag z → x && y && z ≡ false → TooLarge f c
      go (off p) q r e = large_core c (ltb-false (core_value c) (2 ^ width_in f Core) p)
      go (on p) (off q) r e = large_arg c (ltb-false (arg_value c) (2 ^ width_in f Arg) q)
      go (on p) (on q) (off r) e = large_level c (ltb-false (level_of c) (2 ^ width_in f Prio) r)
      go (on p) (on q) (on r) e = clash (and_in (and_in p q) r) e

  -- a command of a run that can't be written
  not_all : (cs : List Command) → all (writable f) cs ≡ false → (c : Command) × Memᴰ c cs × TooLarge f c
  not_all [] e = absurd (true≢false e)
  not_all (c ∷ cs) e = go (flag (writable f c)) (not_all cs)
    where
      go : Flag (writable f c) → (all (writable f) cs ≡ false → (d : Command) × Memᴰ d cs × TooLarge f d) →
          (d : Command) × Memᴰ d (c ∷ cs) × TooLarge f d
      go (off p) rest = (c, here refl, not_writable c p)
      go (on p) rest =
          let (d, m, t) = rest (sym (ap (λ (b : Bool). b && all (writable f) cs) p) ∙ e) in
          (d, there m, t)

-- ---- what the call comes to

-- the text has room in the buffer
pub record Accepted (cs : List Command) (text : List ℕ) : Type 0 where
  pub fits : Fits narrow cs
  pub room_for : length (written narrow cs) ≤ length text

accepted_writable : (cs : List Command) (text : List ℕ) → Accepted cs text → Unwritable narrow cs (length text) → ⊥
accepted_writable cs text a (too_many h) = omega (arith, a.fits.count)
accepted_writable cs text a (too_large c m t) = used_fits narrow (used narrow c (all_out (writable narrow) cs a.fits.values c m)) t
accepted_writable cs text a (too_long h) = omega (arith, a.room_for)

-- the three tests, with their meaning
data Judged (cs : List Command) (text : List ℕ) : Type 0 where
  fit : can_write cs text ≡ true → Accepted cs text → Judged cs text
  unfit : can_write cs text ≡ false → Unwritable narrow cs (length text) → Judged cs text

judged : (cs : List Command) (text : List ℕ) → Judged cs text
judged cs text = go (flag x) (flag y) (flag z)
  where
    x : Bool
    x = leb (length cs) max_commands

    y : Bool
    y = all (writable narrow) cs

    z : Bool
    z = leb (length (written narrow cs)) (length text)

    go : Flag x → Flag y → Flag z → Judged cs text
    go (off p) q r = unfit (rw p) (too_many (leb-false (length cs) max_commands p))
    go (on p) (off q) r = let (c, m, t) = not_all narrow cs q in unfit (rw (p, q)) (too_large c m t)
    go (on p) (on q) (off r) = unfit (rw (p, q, r)) (too_long (leb-false (length (written narrow cs)) (length text) r))
    go (on p) (on q) (on r) =
        fit (and_in (and_in p q) r)
        (record {
          fits = record { listed = here refl; count = leb-true (length cs) max_commands p; values = q };
          room_for = leb-true (length (written narrow cs)) (length text) r;
        })

pub data Outcome (list text : List ℕ) : Type 0 where
  unread : NoRun list → write_call list text ≡ write_call_of 255 text → Outcome list text
  refused : (NoRun list → ⊥) → Unwritable narrow (commands_in list) (length text) → write_call list text ≡ write_call_of 15 text →
      Outcome list text
  accepted : (NoRun list → ⊥) → Accepted (commands_in list) text → write_call list text ≡ written_into (commands_in list) text →
      Outcome list text

pub outcome : (list text : List ℕ) → Outcome list text
unfolding write_call
outcome list text = go (tested list) (judged (commands_in list) text)
  where
    go : Tested list → Judged (commands_in list) text → Outcome list text
    go (no_run e n) j = unread n (rw e)
    go (is_run_lem e n) (unfit w u) = refused n u (rw (e, w))
    go (is_run_lem e n) (fit w a) = accepted n a (rw (e, w))

-- ---- the numbers

-- the number of an accepted text is 0, whatever its length
pub number_of : (n : ℕ) → number_in (0 + 256 * n) ≡ 0
number_of n = omega arith

pub write_refusals_exact : WriteRefusalsExact
write_refusals_exact list text = go (outcome list text)
  where
    go : Outcome list text →
        let number = number_in (write_call list text).result in
        ((number ≡ 255) ↔ NoRun list) ×
        ((number ≡ 15) ↔ ((¬ NoRun list) × Unwritable narrow (commands_in list) (length text))) ×
        Memᴰ number (0 ∷ 15 ∷ 255 ∷ [])
    go (unread n e) = rw e (
      ((λ x. n), (λ x. refl)),
      ((λ x. absurd (omega (arith, x))), (λ x. absurd (x.0 n))),
      there (there (here refl)),
    )
    go (refused n u e) = rw e (
      ((λ x. absurd (omega (arith, x))), (λ x. absurd (n x))),
      ((λ x. (n, u)), (λ x. refl)),
      there (here refl),
    )
    go (accepted n a e) = rw (e, number_of (length (written narrow (commands_in list)))) (
      ((λ x. absurd (omega (arith, x))), (λ x. absurd (n x))),
      ((λ x. absurd (omega (arith, x))), (λ x. absurd (accepted_writable (commands_in list) text a x.1))),
      here refl,
    )
