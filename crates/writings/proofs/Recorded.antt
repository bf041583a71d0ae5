-- The commands of every recording can be written, and written anew it is replayed as before (`RecordedFits`, `RewrittenReplays`).
-- Assumes nothing.
--   strobe_fits      the command of a strobe, from what the variables hold
--   words_fit        along the words of a text
use Rattle.std.specs.Prelude.{None, Some}
use Prim.Native.Nat.{ℕ, zero, suc, ◌^◌, ◌<◌}
use mathlib.Core.Path.{◌≡◌, refl, ap}
use mathlib.Core.List.Memᴰ.{head as here}
use mathlib.Core.List.{List, [], ◌∷◌, ◌++◌}
use mathlib.Core.Bool.{Bool, true, false, not, ◌&&◌, cond}
use native.Mathlib.Omega.{arith}
use lib.ListN.{length}
use borrow.Author.Tests.{lt-ltb}
use Rattle.lists.proofs.Bools.{and_in, and_l, and_r, Flag, on, off, flag}
use Rattle.model.specs.declared.Command.{Command}
use Rattle.model.specs.declared.Controller.{Controller}
use Rattle.model.specs.Records.{reset}
use Rattle.model.specs.Commands.{bad_size, run}
use Rattle.model.specs.Ledger.{answers_to}
use Rattle.model.specs.WellFormed.{sizes_in_range}
use Rattle.layout.specs.Bytes.{one_command}
use Rattle.layout.specs.Commands.{command_of}
use Rattle.recording.specs.declared.Signal.TheVariants.{Cmd, Core, Arg, Prio}
use Rattle.recording.specs.declared.Value.{Value}
use Rattle.recording.specs.declared.Reader.{Reader}
use Rattle.recording.specs.Words.{all, Word, words}
use Rattle.recording.specs.Records.{start, variable}
use Rattle.recording.specs.Declarations.{narrow}
use Rattle.recording.specs.Stamps.{rises, uses_core, uses_priority, strobe_of, commands_of}
use Rattle.recording.specs.Reading.{is_good, read_word, finish, Progress, progress, advance, read_words, finished, Reading, answered, reading}
use Rattle.recording.specs.Replay.{Replay, replay_with, replay_from, replayed}
use Rattle.recording.specs.Faults.{ends_stamp, unclear, excessive, taken_at}
use Rattle.recording.specs.Statements.{up_to}
use Rattle.recording.specs.Writing.{written, writable}
use Rattle.recording.specs.WritingStatements.{RecordedFits, RewrittenReplays}
use Rattle.readings.proofs.Faults.{strobes_exact}
use Rattle.readings.proofs.Final.{bad_word, bad_finish}
use Rattle.readings.proofs.Commanded.{Fit, start_fit, read_word-fit}
use Rattle.readings.proofs.Counted.{at_most_65535}
use Rattle.writings.proofs.RoundTrip.{written_is_read}

-- every command of a list can be written
abbrev Writable : List Command → Type 0
Writable cs = all (writable narrow) cs ≡ true

-- ---- the command of a strobe

module _ (core arg prio : Value) (c : core.number < 2 ^ 5) (a : arg.number < 2 ^ 8) (p : prio.number < 2 ^ 9) where
  named_fits : (number : ℕ) → number < 8 →
      Writable (one_command (command_of number (cond (uses_core number) core arg).number (cond (uses_priority number) prio.number 0)))
  unfolding command_of
  named_fits zero h = rw (lt-ltb arg.number (2 ^ 8) a, lt-ltb prio.number (2 ^ 9) p)
  named_fits (suc zero) h = rw (lt-ltb arg.number (2 ^ 8) a)
  named_fits (suc (suc zero)) h = rw (lt-ltb arg.number (2 ^ 8) a)
  named_fits (suc (suc (suc zero))) h = rw (lt-ltb core.number (2 ^ 5) c, lt-ltb prio.number (2 ^ 9) p)
  named_fits (suc (suc (suc (suc zero)))) h = rw (lt-ltb arg.number (2 ^ 8) a)
  named_fits (suc (suc (suc (suc (suc zero))))) h = rw (lt-ltb core.number (2 ^ 5) c)
  named_fits (suc (suc (suc (suc (suc (suc zero)))))) h = rw (lt-ltb arg.number (2 ^ 8) a)
  named_fits (suc (suc (suc (suc (suc (suc (suc zero))))))) h = rw (lt-ltb arg.number (2 ^ 8) a)
  named_fits (suc (suc (suc (suc (suc (suc (suc (suc k)))))))) h = absurd (omega arith)

strobe_fits : (r : Reader) → Fit r → Writable (commands_of (Some (strobe_of r)))
unfolding commands_of strobe_of
strobe_fits r h =
    named_fits (variable r Core).value (variable r Arg).value (variable r Prio).value (h.below Core) (h.below Arg)
    (h.below Prio) (variable r Cmd).value.number (h.below Cmd)

taken_fits : (r : Reader) → Fit r → (ends : Bool) → Writable (commands_of (taken_at ends r))
unfolding taken_at commands_of
taken_fits r h ends = go (ends && rises r && not (unclear r) && not (excessive r))
  where
    go : (b : Bool) → Writable (commands_of (cond b (Some (strobe_of r)) None))
    go true = strobe_fits r h
    go false = refl

module _ (r : Reader) (h : Fit r) where
  word_fits : (w : Word) → Writable (commands_of (read_word r w).strobe)
  unfolding commands_of
  word_fits w = go (flag (is_good r))
    where
      go : Flag (is_good r) → Writable (commands_of (read_word r w).strobe)
      go (on g) = rw ((strobes_exact r g).0 w) (taken_fits r h (ends_stamp r w))
      go (off g) = rw (bad_word r w g)

  end_fits : (n : ℕ) → Writable (commands_of (finish n r).strobe)
  unfolding commands_of
  end_fits n = go (flag (is_good r))
    where
      go : Flag (is_good r) → Writable (commands_of (finish n r).strobe)
      go (on g) = rw ((strobes_exact r g).1 n) (taken_fits r h r.stamp.opened)
      go (off g) = rw (bad_finish n r g)

-- ---- the whole reading

both_writable : (cs ds : List Command) → Writable cs → Writable ds → Writable (cs ++ ds)
both_writable [] ds p q = q
both_writable (c ∷ cs) ds p q =
    and_in (and_l (writable narrow c) (all (writable narrow) cs) p)
    (both_writable cs ds (and_r (writable narrow c) (all (writable narrow) cs) p) q)

words_fit : (p : Progress) (ws : List Word) → Fit p.reader → Writable p.commands →
    Fit (read_words p ws).reader × Writable (read_words p ws).commands
unfolding read_words advance
words_fit p [] h w = (h, w)
words_fit p (v ∷ ws) h w =
    words_fit (advance p.commands (read_word p.reader v)) ws (read_word-fit p.reader v h)
    (both_writable p.commands (commands_of (read_word p.reader v).strobe) w (word_fits p.reader h v))

reading_fits : (t : List ℕ) → Writable (reading t).commands
unfolding reading answered finished advance
reading_fits t =
    let (h, w) = words_fit (progress start []) (words t) start_fit refl in
    both_writable (up_to t).commands (commands_of (finish (length t) (up_to t).reader).strobe) w
    (end_fits (up_to t).reader h (length t))

pub recorded_fits : RecordedFits
recorded_fits t = record { listed = here refl; count = at_most_65535 t; values = reading_fits t }

-- a replay's state and answers are those of the commands
same_replay : (b : Bool) (s : Controller) (x y : Reading) (other : Replay) → x.commands ≡ y.commands →
    ((cond b (replay_from s x) other).state ≡ (cond b (replay_from s y) other).state) ×
    ((cond b (replay_from s x) other).answers ≡ (cond b (replay_from s y) other).answers)
same_replay true s x y other e = (ap (run s) e, ap (answers_to s) e)
same_replay false s x y other e = (refl, refl)

pub rewritten_replays : RewrittenReplays
unfolding replayed
rewritten_replays n m t =
    let cs = (reading t).commands in
    same_replay (sizes_in_range n m) (reset n m) (reading (written narrow cs)) (reading t) (replay_with bad_size 0 (reset 1 1) [])
    (ap (λ (x : Reading). x.commands) (written_is_read narrow cs (recorded_fits t)))
