-- What a word that shows no fault of the grammar does to a reader. Assumes nothing.
--   good_fits        a word after which there is no fault could stand at its place, and declared well if it declared
--   good_before      no fault at the end: none before
--   fits-word        a word that can stand there and declares well shows neither 11 nor 12
--   time_kept        a time leaves the place and the variables alone
use Prim.Native.Nat.{ℕ}
use mathlib.Core.Path.{◌≡◌, refl, sym, ap, ◌∙◌}
use mathlib.Core.Logic.{◌≢◌}
use mathlib.Core.List.{List}
use mathlib.Core.Bool.{Bool, true, false, not, ◌&&◌, cond, true≢false}
use native.Mathlib.Omega.{arith}
use lib.Dec.{eqb}
use borrow.Author.Tests.{eqb-true}
use Rattle.lists.proofs.Bools.{confirmed}
use Rattle.recording.specs.declared.Fault.{Fault}
use Rattle.recording.specs.declared.Reader.{Reader}
use Rattle.recording.specs.declared.Read.{Read}
use Rattle.recording.specs.Words.{Word}
use Rattle.recording.specs.Records.{fault_with, refused, with_time, read_with}
use Rattle.recording.specs.Stamps.{end_open_stamp}
use Rattle.recording.specs.Reading.{is_body, is_good, out_of_place, is_time, time_of, is_later, open_stamp, and_then, read_time, read_word, finish}
use Rattle.recording.specs.Reading.{Progress, read_words, finished}
use Rattle.recording.specs.Faults.{ends_stamp, unclear, excessive, fits_in, declares_well, is_late, fault_at, fault_at_end}
use Rattle.readings.proofs.Faults.{by_stamp, faults_exact}
use Rattle.readings.proofs.Final.{bad_words, bad_finished}

-- ---- no fault

-- of the six outcomes the last alone has no fault
good_last : (p q i v l : Bool) (n : ℕ) (f : Fault) →
    eqb (cond p (fault_with 13 n) (cond q (fault_with 19 n) (cond (not i) (fault_with 11 n)
    (cond (not v) (fault_with 12 n) (cond l (fault_with 14 n) f))))).number 0 ≡ true →
    (i ≡ true) × (v ≡ true)
good_last true q i v l n f e = absurd (true≢false (sym e))
good_last false true i v l n f e = absurd (true≢false (sym e))
good_last false false false v l n f e = absurd (true≢false (sym e))
good_last false false true false l n f e = absurd (true≢false (sym e))
good_last false false true true l n f e = (refl, refl)

pub good_fits : (r : Reader) (w : Word) → is_good r ≡ true → is_good (read_word r w).reader ≡ true →
    (fits_in r.place r w.bytes ≡ true) × (declares_well r.place r w.bytes ≡ true)
unfolding fault_at
good_fits r w g e =
    good_last (ends_stamp r w && unclear r) (ends_stamp r w && excessive r) (fits_in r.place r w.bytes)
    (declares_well r.place r w.bytes) (is_late r w.bytes) w.at r.fault
    (ap (λ (f : Fault). eqb f.number 0) (sym ((faults_exact r g).0 w)) ∙ e)

good_end : (p q b : Bool) (n : ℕ) (f : Fault) →
    eqb (cond p (fault_with 13 n) (cond q (fault_with 19 n) (cond (not b) (fault_with 11 n) f))).number 0 ≡ true → b ≡ true
good_end true q b n f e = absurd (true≢false (sym e))
good_end false true b n f e = absurd (true≢false (sym e))
good_end false false true n f e = refl
good_end false false false n f e = absurd (true≢false (sym e))

-- a text that ends without a fault ends where it may
pub good_finish_body : (n : ℕ) (r : Reader) → is_good r ≡ true → is_good (finish n r).reader ≡ true → is_body r.place ≡ true
unfolding fault_at_end
good_finish_body n r g e =
    good_end (r.stamp.opened && unclear r) (r.stamp.opened && excessive r) (is_body r.place) n r.fault
    (ap (λ (f : Fault). eqb f.number 0) (sym ((faults_exact r g).1 n)) ∙ e)

pub good_before : (n : ℕ) (p : Progress) (ws : List Word) → is_good (finished n (read_words p ws)).reader ≡ true →
    is_good p.reader ≡ true
good_before n p ws e =
    confirmed (is_good p.reader)
    (λ b. true≢false (sym e ∙ ap (λ (q : Progress). is_good q.reader) (ap (finished n) (bad_words p ws b) ∙ bad_finished n p b) ∙ b))

-- ---- no fault of the grammar

-- neither 11 nor 12
pub record Clear (f : Fault) : Type 0 where
  pub not_grammar : f.number ≢ 11
  pub not_variable : f.number ≢ 12

pub clear_good : (f : Fault) → f.number ≡ 0 → Clear f
clear_good f e = record { not_grammar = λ p. omega (arith, e, p); not_variable = λ p. omega (arith, e, p) }

clear_number : (k n : ℕ) → (k ≢ 11) × (k ≢ 12) → Clear (fault_with k n)
clear_number k n h = record { not_grammar = h.0; not_variable = h.1 }

clear_fits : (p q l : Bool) (n : ℕ) (f : Fault) → Clear f →
    Clear (cond p (fault_with 13 n) (cond q (fault_with 19 n) (cond (not true) (fault_with 11 n)
    (cond (not true) (fault_with 12 n) (cond l (fault_with 14 n) f)))))
clear_fits true q l n f c = clear_number 13 n (omega arith)
clear_fits false true l n f c = clear_number 19 n (omega arith)
clear_fits false false true n f c = clear_number 14 n (omega arith)
clear_fits false false false n f c = c

pub clear_word : (r : Reader) (w : Word) → is_good r ≡ true → fits_in r.place r w.bytes ≡ true →
    declares_well r.place r w.bytes ≡ true →
    Clear (read_word r w).reader.fault
unfolding fault_at
clear_word r w g f d =
    rw ((faults_exact r g).0 w, f, d)
    (clear_fits (ends_stamp r w && unclear r) (ends_stamp r w && excessive r) (is_late r w.bytes) w.at r.fault
    (clear_good r.fault (eqb-true r.fault.number 0 g)))

clear_last : (p q : Bool) (n : ℕ) (f : Fault) → Clear f →
    Clear (cond p (fault_with 13 n) (cond q (fault_with 19 n) (cond (not true) (fault_with 11 n) f)))
clear_last true q n f c = clear_number 13 n (omega arith)
clear_last false true n f c = clear_number 19 n (omega arith)
clear_last false false n f c = c

pub clear_finish : (n : ℕ) (r : Reader) → is_good r ≡ true → is_body r.place ≡ true → Clear (finish n r).reader.fault
unfolding fault_at_end
clear_finish n r g b =
    rw ((faults_exact r g).1 n, b)
    (clear_last (r.stamp.opened && unclear r) (r.stamp.opened && excessive r) n r.fault
    (clear_good r.fault (eqb-true r.fault.number 0 g)))

-- ---- a time

-- the same place and the same variables
pub record Stays (r x : Reader) : Type 0 where
  pub place : x.place ≡ r.place
  pub variables : x.variables ≡ r.variables

open_stays : (r : Reader) (w : Word) (x : Reader) → Stays r x → Stays r (open_stamp x w)
unfolding open_stamp
open_stays r w x s = go (not (is_time w.bytes)) (is_later x (time_of w.bytes))
  where
    go : (t l : Bool) → Stays r (cond t (out_of_place w x) (cond l (with_time (time_of w.bytes) x) (refused 14 w.at x)))
    go true l = record { place = s.place; variables = s.variables }
    go false true = record { place = s.place; variables = s.variables }
    go false false = record { place = s.place; variables = s.variables }

pub time_stays : (r : Reader) (w : Word) → Stays r (read_time r w).reader
unfolding read_time and_then
time_stays r w = go (is_good a.reader)
  where
    a : Read
    a = end_open_stamp w.at r

    ended : Stays r a.reader
    ended =
        by_stamp (λ (x : Reader). Stays r x) w.at r (record { place = refl; variables = refl })
        (record { place = refl; variables = refl })
        (record { place = refl; variables = refl }) (record { place = refl; variables = refl }) (record { place = refl; variables = refl })

    go : (b : Bool) → Stays r (cond b (read_with (open_stamp a.reader w) a.strobe) a).reader
    go true = open_stays r w a.reader ended
    go false = ended
