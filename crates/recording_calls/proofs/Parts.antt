-- What is yet to be read of a text, a part at a time. Assumes nothing.
--   advanced, ended      a part up to a command, and the end of the text (`Continues`)
--   next_one             a part that gives a command
--   Inside               where the text is read next lies in it
--   due                  a number that falls with each part
--   whole_reading, whole_times    what is left before the first word is the whole reading
use Prim.Native.Nat.{ℕ, ◌+◌, ◌-◌, ◌<◌, ◌≤◌}
use mathlib.Core.Path.{◌≡◌, refl, sym, ap, ◌∙◌}
use mathlib.Core.List.{List, [], ◌∷◌, ◌++◌, map, append-nil, append_assoc}
use mathlib.Core.Bool.{Bool, cond}
use native.Mathlib.Omega.{arith}
use lib.ListN.{length, drop_of_length-le}
use lib.Dec.{ltb}
use borrow.Author.Tests.{lt-ltb, le-ltb}
use Rattle.std.specs.Bool.{then_some}
use Rattle.model.specs.declared.Command.{Command}
use Rattle.std.specs.Prelude.{Option, Some, None}
use Rattle.recording.specs.declared.Reader.{Reader}
use Rattle.recording.specs.declared.Read.{Read}
use Rattle.recording.specs.Words.{Word, cut}
use Rattle.recording.specs.Records.{start}
use Rattle.recording.specs.Stamps.{commands_of}
use Rattle.recording.specs.Reading.{is_good, finish, Progress, progress, advance, read_words, finished, reading_with, answered, reading}
use Rattle.recording.specs.Reading.{times_at, times_from, times_of}
use Rattle.vcd_reader.specs.Advances.{words_from, Advances}
use Rattle.vcd_reader.specs.declared.Advanced.{Advanced}
use Rattle.readings.proofs.Cutting.{read_words-commands}
use Rattle.recording_calls.specs.Remaining.{Remaining, remaining_with, to_end, remaining, to_come, before, Continues}

module _ (t : List ℕ) (at : ℕ) (r : Reader) (a : Advanced) where
  -- ---- up to a command

  abbrev given : List Command
  given = commands_of a.strobe

  abbrev times : List ℕ
  times = map (λ (c : Command). a.time) given

  module _ (h : Advances t at r a) where
    advance_commands : (q : Progress) → q ≡ read_words (progress a.reader []) (words_from t a.end) →
        read_words (progress r []) (words_from t at) ≡ progress q.reader (given ++ q.commands)
    advance_commands q e =
        h.reads [] ∙ read_words-commands a.reader given (words_from t a.end) ∙
        sym (ap (λ (p : Progress). progress p.reader (given ++ p.commands)) e)

    advance_remaining : remaining t at r ≡ before a.strobe a.time (remaining t a.end a.reader)
    unfolding remaining
    advance_remaining =
        let q = read_words (progress a.reader []) (words_from t a.end) in
        let f = finish (length t) q.reader in
        let rest = times_from a.reader (words_from t a.end) in
        ap (λ (p : Progress). to_end (length t) p (times_from r (words_from t at))) (advance_commands q refl) ∙
        ap (to_end (length t) (progress q.reader (given ++ q.commands))) h.times ∙
        ap (λ (cs : List Command). remaining_with cs ((times ++ rest) ++ times_at q.reader f) f.reader)
        (append_assoc given q.commands (commands_of f.strobe)) ∙
        ap (λ (ts : List ℕ). remaining_with (given ++ (q.commands ++ commands_of f.strobe)) ts f.reader)
        (append_assoc times rest (times_at q.reader f))

    pub advanced : at < length t → Continues t at r a
    advanced less =
        record {
          within = h.within (omega arith);
          forth = omega (arith, h.moves less);
          moves = h.moves;
          reads =
              advance_remaining ∙
              sym (ap (λ (b : Bool). before a.strobe a.time (to_come t (then_some b a.end) a.reader)) (lt-ltb at (length t) less));
        }

  -- ---- the end of the text

  no_words : length t ≤ at → words_from t at ≡ []
  unfolding cut
  no_words h = rw (drop_of_length-le t h)

  module _ (ends : length t ≤ at) (inside : at ≤ length t) where
    end_remaining :
        (f : Read) → f ≡ finish (length t) r →
        remaining t at r ≡ before f.strobe r.stamp.time (remaining_with [] [] f.reader)
    unfolding remaining read_words times_from
    end_remaining f e =
        ap (λ (ws : List Word). to_end (length t) (read_words (progress r []) ws) (times_from r ws)) (no_words ends) ∙
        ap (λ (x : Read). remaining_with (commands_of x.strobe) (times_at r x) x.reader) (sym e) ∙
        ap (λ (cs : List Command). remaining_with cs (times_at r f) f.reader) (sym (append-nil (commands_of f.strobe))) ∙
        ap (λ (ts : List ℕ). remaining_with (commands_of f.strobe ++ []) ts f.reader) (sym (append-nil (times_at r f)))

    pub ended :
        (f : Read) → f ≡ finish (length t) r → a.reader ≡ f.reader → a.end ≡ at → a.strobe ≡ f.strobe → a.time ≡ r.stamp.time →
        Continues t at r a
    ended f e er ee es et =
        record {
          within = omega arith;
          forth = omega arith;
          moves = λ less. absurd (omega arith);
          reads = end_remaining f e ∙ rw (le-ltb at (length t) ends, er, es, et);
        }

-- ---- a part that gives a command

module _ {t : List ℕ} {at : ℕ} {r : Reader} {a : Advanced} (h : Continues t at r a) {from onto : Option ℕ} {c : Command} where
  -- it is to come, and then what is to come behind the part
  pub next_one :
      from ≡ Some at → onto ≡ then_some (ltb at (length t)) a.end → c ∷ [] ≡ commands_of a.strobe →
      let q = to_come t onto a.reader in to_come t from r ≡ remaining_with (c ∷ q.commands) (a.time ∷ q.times) q.reader
  next_one here there e = rw (here, there) (h.reads ∙ rw (← e))

-- ---- where the text is read next

abbrev pub Inside : List ℕ → Option ℕ → Type 0
Inside t (Some at) = at ≤ length t
Inside t None = Unit {0}

-- ---- the parts that are yet to be read are no more than this number, which falls with each

abbrev pub due : List ℕ → Option ℕ → ℕ
due t (Some at) = (length t - at) + 1
due t None = 0

-- ---- the whole text

module _ (t : List ℕ) where
  abbrev pub all : Remaining
  all = remaining t 0 start

  pub whole_reading :
      let r = all.reader in
      reading t ≡ reading_with all.commands r.fault.number (cond (is_good r) (length t) r.fault.offset)
  unfolding reading answered finished advance remaining
  whole_reading = refl

  pub whole_times : times_of t ≡ all.times
  unfolding times_of remaining
  whole_times = refl
