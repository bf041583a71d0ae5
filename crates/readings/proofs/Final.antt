-- What follows a fault changes nothing (`FaultIsFinal`), and a fault is one of five, shown at a word or at the text's end
-- (`FaultsShown`). Assumes nothing.
use Prim.Native.Nat.{ℕ, suc, ◌+◌}
use mathlib.Core.Path.{◌≡◌, refl, sym, ap, ◌∙◌}
use mathlib.Core.List.Memᴰ.{head as here}
use mathlib.Core.List.Memᴰ.{tail as there}
use mathlib.Core.List.{List, [], ◌∷◌, ◌++◌, append-nil, Memᴰ}
use mathlib.Core.Bool.{Bool, true, false, not, ◌&&◌, cond, true≢false}
use lib.ListN.{length}
use lib.Dec.{eqb}
use borrow.Author.Tests.{eq-eqb}
use Rattle.lists.proofs.Bools.{Flag, on, off, flag}
use Rattle.recording.specs.declared.Fault.{Fault}
use Rattle.recording.specs.declared.Reader.{Reader}
use Rattle.recording.specs.declared.Read.{Read}
use Rattle.recording.specs.Words.{Word, cut, words}
use Rattle.recording.specs.Records.{start, fault_with, only}
use Rattle.recording.specs.Stamps.{commands_of}
use Rattle.recording.specs.Reading.{is_body, is_good, read_word, finish, Progress, progress, advance, read_words, finished, reading_with}
use Rattle.recording.specs.Reading.{answered, reading}
use Rattle.recording.specs.Faults.{ends_stamp, unclear, excessive, fits_in, declares_well, is_late, fault_at, fault_at_end}
use Rattle.recording.specs.Statements.{up_to, FaultIsFinal, Shown, at_word, at_end, FaultsShown}
use Rattle.readings.proofs.Cutting.{cut_joined, read_words-joined}
use Rattle.readings.proofs.Faults.{faults_exact}

-- ---- a reader with a fault stays as it is

pub bad_word : (r : Reader) (w : Word) → is_good r ≡ false → read_word r w ≡ only r
unfolding read_word
bad_word r w bad = rw bad

pub bad_finish : (n : ℕ) (r : Reader) → is_good r ≡ false → finish n r ≡ only r
unfolding finish
bad_finish n r bad = rw bad

pub advance_only : (p : Progress) → advance p.commands (only p.reader) ≡ p
unfolding advance commands_of
advance_only p = ap (progress p.reader) (append-nil p.commands)

pub bad_words : (p : Progress) (ws : List Word) → is_good p.reader ≡ false → read_words p ws ≡ p
unfolding read_words
bad_words p [] bad = refl
bad_words p (w ∷ ws) bad =
    ap (λ (a : Read). read_words (advance p.commands a) ws) (bad_word p.reader w bad) ∙
    ap (λ (q : Progress). read_words q ws) (advance_only p) ∙ bad_words p ws bad

pub bad_finished : (n : ℕ) (p : Progress) → is_good p.reader ≡ false → finished n p ≡ p
unfolding finished
bad_finished n p bad = ap (advance p.commands) (bad_finish n p.reader bad) ∙ advance_only p

pub bad_answered : (n : ℕ) (p : Progress) → is_good p.reader ≡ false →
    answered n p ≡ reading_with p.commands p.reader.fault.number p.reader.fault.offset
unfolding answered
bad_answered n p bad = ap (λ (b : Bool). reading_with p.commands p.reader.fault.number (cond b n p.reader.fault.offset)) bad

pub fault_is_final : FaultIsFinal
unfolding reading
fault_is_final t u b s bad =
    ap (λ (ws : List Word). answered n (finished n (read_words (progress start []) ws))) (cut_joined 0 [] t u b s) ∙
    ap (λ (p : Progress). answered n (finished n p)) (read_words-joined (progress start []) (words t) rest ∙ bad_words (up_to t) rest bad) ∙
    ap (answered n) (bad_finished n (up_to t) bad) ∙ bad_answered n (up_to t) bad
  where
    n : ℕ
    n = length (t ++ (b ∷ u))

    rest : List Word
    rest = cut (suc (0 + length t)) [] u

-- ---- where a fault is shown

-- the five numbers
abbrev numbers : List ℕ
numbers = 11 ∷ 12 ∷ 13 ∷ 14 ∷ 19 ∷ []

-- none yet, or one of five at a word of the list
data Told (ws : List Word) (f : Fault) : Type 0 where
  good : f.number ≡ 0 → Told ws f
  shown : Memᴰ f.number numbers → (w : Word) → Memᴰ w ws → w.at ≡ f.offset → Told ws f

module _ (ws : List Word) (w : Word) (m : Memᴰ w ws) where
  told_at : (p q i v l : Bool) (f : Fault) → Told ws f →
      Told ws
      (cond p (fault_with 13 w.at)
      (cond q (fault_with 19 w.at) (cond i (fault_with 11 w.at) (cond v (fault_with 12 w.at) (cond l (fault_with 14 w.at) f)))))
  told_at true q i v l f t = shown (there (there (here refl))) w m refl
  told_at false true i v l f t = shown (there (there (there (there (here refl))))) w m refl
  told_at false false true v l f t = shown (here refl) w m refl
  told_at false false false true l f t = shown (there (here refl)) w m refl
  told_at false false false false true f t = shown (there (there (there (here refl)))) w m refl
  told_at false false false false false f t = t

  told_word : (r : Reader) → Told ws r.fault → Told ws (read_word r w).reader.fault
  unfolding fault_at
  told_word r t = go (flag (is_good r))
    where
      go : Flag (is_good r) → Told ws (read_word r w).reader.fault
      go (on e) =
          rw ((faults_exact r e).0 w)
          (told_at (ends_stamp r w && unclear r) (ends_stamp r w && excessive r) (not (fits_in r.place r w.bytes))
          (not (declares_well r.place r w.bytes)) (is_late r w.bytes) r.fault t)
      go (off e) = rw (bad_word r w e) t

told_words : (ws : List Word) (p : Progress) (vs : List Word) → ((w : Word) → Memᴰ w vs → Memᴰ w ws) →
    Told ws p.reader.fault → Told ws (read_words p vs).reader.fault
unfolding read_words advance
told_words ws p [] sub t = t
told_words ws p (v ∷ vs) sub t =
    told_words ws (advance p.commands (read_word p.reader v)) vs (λ w m. sub w (there m))
    (told_word ws v (sub v (here refl)) p.reader t)

-- the same, or at the end
data Ended (ws : List Word) (n : ℕ) (f : Fault) : Type 0 where
  told : Told ws f → Ended ws n f
  last : Memᴰ f.number numbers → n ≡ f.offset → Ended ws n f

ended_at : (ws : List Word) (n : ℕ) (p q i : Bool) (f : Fault) → Told ws f →
    Ended ws n (cond p (fault_with 13 n) (cond q (fault_with 19 n) (cond i (fault_with 11 n) f)))
ended_at ws n true q i f t = last (there (there (here refl))) refl
ended_at ws n false true i f t = last (there (there (there (there (here refl))))) refl
ended_at ws n false false true f t = last (here refl) refl
ended_at ws n false false false f t = told t

ended_finish : (ws : List Word) (n : ℕ) (r : Reader) → Told ws r.fault → Ended ws n (finish n r).reader.fault
unfolding fault_at_end
ended_finish ws n r t = go (flag (is_good r))
  where
    go : Flag (is_good r) → Ended ws n (finish n r).reader.fault
    go (on e) =
        rw ((faults_exact r e).1 n)
        (ended_at ws n (r.stamp.opened && unclear r) (r.stamp.opened && excessive r) (not (is_body r.place)) r.fault t)
    go (off e) = rw (bad_finish n r e) (told t)

-- a number of the five is not 0
not_zero : (k : ℕ) → Memᴰ k numbers → eqb k 0 ≡ false
not_zero k (here e) = rw e
not_zero k (there (here e)) = rw e
not_zero k (there (there (here e))) = rw e
not_zero k (there (there (there (here e)))) = rw e
not_zero k (there (there (there (there (here e))))) = rw e
not_zero k (there (there (there (there (there m))))) = elim m [ ]

module _ (t : List ℕ) (p : Progress) where
  shown_answer : Ended (words t) (length t) p.reader.fault →
      Memᴰ (answered (length t) p).number (0 ∷ numbers) × Shown t (answered (length t) p).offset ×
      ((answered (length t) p).number ≡ 0 → (answered (length t) p).offset ≡ length t)
  unfolding answered
  shown_answer (told (good e)) =
      let g : is_good p.reader ≡ true = rw e in
      (here e, rw g (at_end refl), (λ _. rw g))
  shown_answer (told (shown k w m e)) =
      let g : is_good p.reader ≡ false = not_zero p.reader.fault.number k in
      (there k, rw g (at_word w m e), (λ z. absurd (true≢false (sym (eq-eqb p.reader.fault.number 0 z) ∙ g))))
  shown_answer (last k e) =
      let g : is_good p.reader ≡ false = not_zero p.reader.fault.number k in
      (there k, rw g (at_end e), (λ z. absurd (true≢false (sym (eq-eqb p.reader.fault.number 0 z) ∙ g))))

pub faults_shown : FaultsShown
unfolding reading finished advance
faults_shown t =
    shown_answer t (finished (length t) (up_to t))
    (ended_finish (words t) (length t) (up_to t).reader
    (told_words (words t) (progress start []) (words t) (λ w m. m) (good refl)))
