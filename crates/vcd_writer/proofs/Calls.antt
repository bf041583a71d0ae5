-- What the call answers, from what its tests say. Assumes nothing.
--   write_unreadable                        the bytes are no run
--   too_many, too_large, too_long           of a run that can't be written
--   write_all                               the text is written
use Prim.Native.Nat.{ℕ, ◌*◌, ◌/◌, ◌<◌, ◌≤◌}
use mathlib.Core.Path.{◌≡◌, refl, ap, ◌∙◌}
use mathlib.Core.List.{List, ◌++◌}
use mathlib.Core.Bool.{true, false, ◌&&◌, and-false}
use lib.ListN.{length}
use lib.Seq.{sets}
use lib.Dec.{leb}
use native.Mathlib.Omega.{arith}
use borrow.Author.Tests.{le-leb, lt-leb}
use Rattle.lists.specs.Walks.{every}
use Rattle.lists.proofs.Bools.{and_in}
use Rattle.layout.specs.Bytes.{command_size, commands_in, unreadable}
use Rattle.recording.specs.Stamps.{max_commands}
use Rattle.recording.specs.Declarations.{narrow}
use Rattle.recording.specs.Writing.{definition_text, written}
use Rattle.recording.specs.Calls.{is_run, can_write, not_writable, write_call, DoesWrite}
use Rattle.vcd_writer.specs.Lines.{fits_at, text_to}
use Rattle.vcd_writer.proofs.Runs.{run_count, run_text, run_fit}

module _ (list text : List ℕ) where
  abbrev n : ℕ
  n = length list / command_size

  pub write_unreadable : is_run list ≡ false → DoesWrite unreadable text (write_call list text)
  unfolding write_call
  write_unreadable e = rw e (refl, refl)

  module _ (run : is_run list ≡ true) where
    written_is : written narrow (commands_in list) ≡ text_to list n
    unfolding written text_to
    written_is = ap (λ (l : List ℕ). definition_text narrow ++ l) (run_text list run)

    can_write_is :
        can_write (commands_in list) text ≡
        leb n max_commands && every n (fits_at list) && leb (length (text_to list n)) (length text)
    can_write_is = rw (run_count list run, run_fit list run, written_is)

    refused : can_write (commands_in list) text ≡ false → DoesWrite not_writable text (write_call list text)
    unfolding write_call
    refused e = rw (run, e) (refl, refl)

    pub too_many : max_commands < n → DoesWrite not_writable text (write_call list text)
    too_many h = refused (can_write_is ∙ rw (lt-leb n max_commands h))

    pub too_large : every n (fits_at list) ≡ false → DoesWrite not_writable text (write_call list text)
    too_large e = refused (can_write_is ∙ simp (e, and-false))

    pub too_long : length text < length (text_to list n) → DoesWrite not_writable text (write_call list text)
    too_long h = refused (can_write_is ∙ simp (lt-leb _ _ h, and-false))

    pub write_all :
        {r size : ℕ} {text' : List ℕ} → n ≤ max_commands → every n (fits_at list) ≡ true → size ≡ length (text_to list n) →
        size ≤ length text → r ≡ 256 * size → text' ≡ sets text 0 (text_to list n) → DoesWrite r text' (write_call list text)
    unfolding write_call
    write_all {r} {size} few fit size_is room er et =
        let long : length (text_to list n) ≤ length text = omega arith in
        let can = can_write_is ∙ and_in (and_in (le-leb _ _ few) fit) (le-leb _ _ long) in
        rw (run, can, written_is) (omega arith, et)
