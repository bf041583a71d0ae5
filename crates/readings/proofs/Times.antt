-- The times of the commands are those of the stamps at whose ends they are taken, and no other list is (`TimesExact`). Assumes nothing.
--   times_joined   the times of words joined
--   taken_time     a command's time is that of the stamp that was open where it is taken
--   find_taken     each command is taken somewhere
use Prim.Native.Nat.{ℕ, suc, ◌+◌, ◌<◌, ◌≤◌}
use mathlib.Core.Path.{◌≡◌, refl, sym, ap, ◌∙◌, subst}
use mathlib.Core.List.{List, [], ◌∷◌, ◌++◌, append-nil, append_assoc, map}
use mathlib.Core.Bool.{Bool, true, false, cond}
use native.Mathlib.Omega.{arith}
use lib.ListN.{length, get_or, length-append, length-map}
use lib.Seq.{ext_get_or, get_or-append_seam}
use lib.Dec.{ltb}
use borrow.Author.Tests.{ltb-true, ltb-false}
use Rattle.lists.proofs.Bools.{confirmed, Flag, on, off, flag}
use Rattle.model.specs.declared.Command.{Command}
use Rattle.recording.specs.declared.Reader.{Reader}
use Rattle.recording.specs.declared.Read.{Read}
use Rattle.recording.specs.Words.{Word, words}
use Rattle.recording.specs.Records.{start}
use Rattle.recording.specs.Stamps.{commands_of}
use Rattle.recording.specs.Reading.{is_good, read_word, finish, Progress, progress, advance, read_words, finished, answered, reading, times_at}
use Rattle.recording.specs.Reading.{times_from, times_of}
use Rattle.recording.specs.Statements.{after_words, up_to, LastTime, TakenAfter, next_word, text_end, Timed, TimesExact}
use Rattle.readings.proofs.Cutting.{read_words-commands}
use Rattle.readings.proofs.Final.{bad_word, bad_finish}
use Rattle.readings.proofs.Limits.{strobe_most, word_opened, end_opened}
use Rattle.readings.proofs.Rising.{rises}
use Rattle.readings.proofs.LastTimes.{after, count, next_count, behind_one, last_time, only_time}

-- ---- where a command is taken

pub times_joined : (r : Reader) (xs ys : List Word) →
    times_from r (xs ++ ys) ≡ times_from r xs ++ times_from (read_words (progress r []) xs).reader ys
unfolding times_from read_words advance
times_joined r [] ys = refl
times_joined r (x ∷ xs) ys =
    let a = read_word r x in
    ap (λ (l : List ℕ). times_at r a ++ l) (times_joined a.reader xs ys) ∙
    sym (append_assoc (times_at r a) (times_from a.reader xs) (times_from (read_words (progress a.reader []) xs).reader ys)) ∙
    ap (λ (p : Progress). (times_at r a ++ times_from a.reader xs) ++ times_from p.reader ys)
    (sym (read_words-commands a.reader ([] ++ commands_of a.strobe) xs))

-- a time for each command
times_length : (r : Reader) (cs : List Command) (ws : List Word) →
    length cs + length (times_from r ws) ≡ length (read_words (progress r cs) ws).commands
unfolding times_from read_words advance
times_length r cs [] = omega arith
times_length r cs (w ∷ ws) =
    let a = read_word r w in
    omega (
      arith,
      length-append (times_at r a) (times_from a.reader ws),
      length-map (commands_of a.strobe) (λ (c : Command). r.stamp.time),
      length-append cs (commands_of a.strobe),
      times_length a.reader (cs ++ commands_of a.strobe) ws,
    )

times_each : (t : List ℕ) → length (times_of t) ≡ length (reading t).commands
unfolding times_of reading answered finished advance
times_each t =
    let p = up_to t in
    let a = finish (length t) p.reader in
    omega (
      arith,
      length-append (times_from start (words t)) (times_at p.reader a),
      length-map (commands_of a.strobe) (λ (c : Command). p.reader.stamp.time),
      length-append p.commands (commands_of a.strobe),
      times_length start [] (words t),
    )

-- one command, one time
one_time : (x : ℕ) (cs : List Command) → length cs ≡ 1 → map (λ (c : Command). x) cs ≡ x ∷ []
one_time x [] e = absurd (omega (arith, e))
one_time x (c ∷ []) e = refl
one_time x (c ∷ d ∷ cs) e = absurd (omega (arith, e))

-- only in an open stamp, and before any fault
open_stamp_lem : (o : Bool) → 1 ≤ cond o 1 0 → o ≡ true
open_stamp_lem true h = refl
open_stamp_lem false h = absurd (omega arith)

module _ (r : Reader) where
  taken_word : (w : Word) → length (commands_of (read_word r w).strobe) ≡ 1 → (is_good r ≡ true) × (r.stamp.opened ≡ true)
  unfolding commands_of
  taken_word w e = (
    confirmed (is_good r)
        (λ b. omega (arith, e, ap (λ (a : Read). length (commands_of a.strobe)) (bad_word r w b))),
    open_stamp_lem r.stamp.opened (omega (arith, e, word_opened r w)),
  )

  taken_end : (n : ℕ) → length (commands_of (finish n r).strobe) ≡ 1 → (is_good r ≡ true) × (r.stamp.opened ≡ true)
  unfolding commands_of
  taken_end n e = (
    confirmed (is_good r)
        (λ b. omega (arith, e, ap (λ (a : Read). length (commands_of a.strobe)) (bad_finish n r b))),
    open_stamp_lem r.stamp.opened (omega (arith, e, end_opened r n)),
  )

-- what stands behind the times before
at_seam : (xs ys : List ℕ) (x i : ℕ) → length xs ≡ i → get_or (xs ++ (x ∷ ys)) i 0 ≡ x
at_seam xs ys x i e = ap (λ (k : ℕ). get_or (xs ++ (x ∷ ys)) k 0) (sym e) ∙ get_or-append_seam xs x ys 0

pub record TakenAt (t : List ℕ) (i : ℕ) (r : Reader) : Type 0 where
  pub good : is_good r ≡ true
  pub opened : r.stamp.opened ≡ true
  pub time : get_or (times_of t) i 0 ≡ r.stamp.time

taken_time : (t : List ℕ) (i : ℕ) (ws : List Word) → TakenAfter t i ws → TakenAt t i (after ws)
unfolding times_of times_from reading answered finished advance
taken_time t i ws (next_word w rest e c d) =
    let r = after ws in
    let a = read_word r w in
    let one : length (commands_of a.strobe) ≡ 1 = omega (arith, next_count ws w) in
    let (g, o) = taken_word r w one in
    let end = times_at (up_to t).reader (finish (length t) (up_to t).reader) in
    let rest-times = times_from a.reader rest in
    let front : times_from start (words t) ≡ times_from start ws ++ (r.stamp.time ∷ rest-times)
    = ap (times_from start) e ∙ times_joined start ws (w ∷ rest) ∙
    ap (λ (l : List ℕ). times_from start ws ++ (l ++ rest-times)) (one_time r.stamp.time (commands_of a.strobe) one) in
    let whole : times_from start (words t) ++ end ≡ times_from start ws ++ (r.stamp.time ∷ (rest-times ++ end))
    = ap (λ (l : List ℕ). l ++ end) front ∙ append_assoc (times_from start ws) (r.stamp.time ∷ rest-times) end in
    record {
      good = g;
      opened = o;
      time =
          ap (λ (l : List ℕ). get_or l i 0) whole ∙
          at_seam (times_from start ws) (rest-times ++ end) r.stamp.time i (omega (arith, times_length start [] ws, c));
    }
taken_time t i ws (text_end e c d) =
    let r = after (words t) in
    let a = finish (length t) r in
    let k : count (words t) ≡ i = ap count e ∙ c in
    let one : length (commands_of a.strobe) ≡ 1
    = omega (arith, length-append (after_words (words t)).commands (commands_of a.strobe), d, k) in
    let (g, o) = taken_end r (length t) one in
    subst (λ (xs : List Word). TakenAt t i (after xs)) e
    (record {
      good = g;
      opened = o;
      time =
          ap (λ (l : List ℕ). get_or (times_from start (words t) ++ l) i 0) (one_time r.stamp.time (commands_of a.strobe) one) ∙
          at_seam (times_from start (words t)) [] r.stamp.time i (omega (arith, times_length start [] (words t), k));
    })

-- ---- each command is taken somewhere

record Found (ws : List Word) (i : ℕ) : Type 0 where
  before : List Word
  word : Word
  behind : List Word
  split : ws ≡ before ++ (word ∷ behind)
  first : count before ≡ i
  more : count (before ++ (word ∷ [])) ≡ suc i

found : (ws vs : List Word) (i : ℕ) → count ws ≤ i → i < count (ws ++ vs) → Found (ws ++ vs) i
found ws [] i h k = absurd (omega (arith, ap count (append-nil ws)))
found ws (v ∷ vs) i h k = go (flag (ltb i (count (ws ++ (v ∷ []))))) (found (ws ++ (v ∷ [])) vs i)
  where
    go : Flag (ltb i (count (ws ++ (v ∷ [])))) →
        (count (ws ++ (v ∷ [])) ≤ i → i < count ((ws ++ (v ∷ [])) ++ vs) → Found ((ws ++ (v ∷ [])) ++ vs) i) → Found (ws ++ (v ∷ vs)) i
    go (on e) rest =
        let l : i < count (ws ++ (v ∷ [])) = ltb-true i (count (ws ++ (v ∷ []))) e in
        let one : length (commands_of (read_word (after ws) v).strobe) ≤ 1 = strobe_most (read_word (after ws) v).strobe in
        record {
          before = ws;
          word = v;
          behind = vs;
          split = refl;
          first = omega (arith, next_count ws v);
          more = omega (arith, next_count ws v);
        }
    go (off e) rest =
        subst (λ (xs : List Word). Found xs i) (behind_one ws v vs)
        (rest (omega (arith, ltb-false i (count (ws ++ (v ∷ []))) e))
        (subst (λ (xs : List Word). i < count xs) (sym (behind_one ws v vs)) k))

find_taken : (t : List ℕ) (i : ℕ) → i < length (reading t).commands → (ws : List Word) × TakenAfter t i ws
unfolding reading answered finished advance read_words
find_taken t i h = go (flag (ltb i (count (words t))))
  where
    go : Flag (ltb i (count (words t))) → (ws : List Word) × TakenAfter t i ws
    go (on e) =
        let f : Found (words t) i = found [] (words t) i (omega arith) (ltb-true i (count (words t)) e) in
        (f.before, next_word f.word f.behind f.split f.first f.more)
    go (off e) =
        let a = finish (length t) (after (words t)) in
        let both : length (reading t).commands ≡ count (words t) + length (commands_of a.strobe)
        = length-append (after_words (words t)).commands (commands_of a.strobe) in (
          words t,
          text_end refl (omega (arith, ltb-false i (count (words t)) e, strobe_most a.strobe))
              (omega (arith, ltb-false i (count (words t)) e, strobe_most a.strobe)),
        )

-- ---- the whole

times_timed : (t : List ℕ) → Timed t (times_of t)
unfolding times_of
times_timed t =
    record {
      each = times_each t;
      last =
          λ i h.
          let (ws, k) = find_taken t i (omega (arith, times_each t)) in
          let x : TakenAt t i (after ws) = taken_time t i ws k in
          (ws, k, subst (LastTime ws) (sym x.time) (last_time ws x.good x.opened));
      rising = (rises start (words t) (length t)).1;
    }

timed_only : (t times : List ℕ) → Timed t times → times ≡ times_of t
timed_only t times h =
    ext_get_or 0 times (times_of t) (h.each ∙ sym (times_each t))
    (λ i k.
    let (ws, taken, time) = h.last i k in
    let x : TakenAt t i (after ws) = taken_time t i ws taken in
    sym (x.time ∙ only_time ws (get_or times i 0) time x.good))

pub times_exact : TimesExact
times_exact t times = (timed_only t times, (λ e. subst (Timed t) (sym e) (times_timed t)))
