-- A reader that reads a word which can stand at its place goes on without 11 and 12. Assumes nothing.
--   Follows n p I ws     a reader at the place p of which I holds reads ws, the end of a text of n bytes, without 11 and 12
--   move                 one word that can stand there
--   skipped-..           what is skipped, up to $end
use Prim.Native.Nat.{ℕ}
use mathlib.Core.Path.{◌≡◌, refl, sym, ap, subst, ◌∙◌}
use mathlib.Core.List.{List, ◌∷◌}
use mathlib.Core.Bool.{Bool, true, cond}
use Rattle.lists.proofs.Bools.{Flag, on, off, flag}
use Rattle.recording.specs.declared.Place.{Place}
use Rattle.recording.specs.declared.Place.TheVariants.{Definition, SkipDefinition, Body, SkipBody}
use Rattle.recording.specs.declared.Reader.{Reader}
use Rattle.recording.specs.declared.Read.{Read}
use Rattle.recording.specs.Words.{is_text, Word}
use Rattle.recording.specs.Records.{at}
use Rattle.recording.specs.Reading.{is_good, read_at, read_word, Progress, advance, read_words, finished}
use Rattle.recording.specs.Faults.{fits_in, declares_well}
use Rattle.recording.specs.Grammar.{Skipped, ends, passes, Declaration}
use Rattle.readings.proofs.Agreement.{Agrees}
use Rattle.readings.proofs.Faults.{good_word}
use Rattle.readings.proofs.Final.{bad_words, bad_finished}
use Rattle.readings.proofs.Steps.{Clear, clear_word}

-- ---- one word

unfoldable pub Fine : ℕ → Progress → List Word → Type 0
Fine n p ws = Clear (finished n (read_words p ws)).reader.fault

unfoldable pub Follows : ℕ → Place → (Reader → Type 0) → List Word → Type 0
Follows n pl I ws = (p : Progress) → p.reader.place ≡ pl → is_good p.reader ≡ true → I p.reader → Fine n p ws

-- a word that can stand there and declares well is followed by what follows the reader after it, or by nothing
module _ (n : ℕ) (pl next : Place) (I : Reader → Type 0) (p : Progress) (w : Word) (ws : List Word) where
  pub move : p.reader.place ≡ pl → is_good p.reader ≡ true → fits_in pl p.reader w.bytes ≡ true →
      declares_well pl p.reader w.bytes ≡ true →
      (y : Reader) → (read_at pl p.reader w).reader ≡ y → y.place ≡ next → I y → Follows n next I ws → Fine n p (w ∷ ws)
  unfolding Fine Follows read_words advance
  move e g f d y k l i follows = go (flag (is_good x.reader))
    where
      r : Reader
      r = p.reader

      x : Read
      x = read_word r w

      reached : x.reader ≡ y
      reached = ap (λ (a : Read). a.reader) (good_word r w g) ∙ ap (λ (q : Place). (read_at q r w).reader) e ∙ k

      clear : Clear x.reader.fault
      clear = clear_word r w g (subst (λ (q : Place). fits_in q r w.bytes ≡ true) (sym e) f)
          (subst (λ (q : Place). declares_well q r w.bytes ≡ true) (sym e) d)

      go : Flag (is_good x.reader) → Clear (finished n (read_words (advance p.commands x) ws)).reader.fault
      go (on b) = follows (advance p.commands x) (ap (λ (z : Reader). z.place) reached ∙ l) b (subst I (sym reached) i)
      go (off b) = rw (bad_words (advance p.commands x) ws b, bad_finished n (advance p.commands x) b) clear

-- the reader's variables agree with the declarations
unfoldable pub Declared : List Declaration → Reader → Type 0
Declared ds r = Agrees r.variables ds

-- ---- what is skipped

module _ (n : ℕ) (ds : List Declaration) (inside next : Place)
    (reads : (r : Reader) (w : Word) → (read_at inside r w).reader ≡ cond (is_text "$end" w.bytes) (at next r) r)
    (fits : (r : Reader) (w : Word) → (fits_in inside r w.bytes ≡ true) × (declares_well inside r w.bytes ≡ true)) where
  skipped : {ws rest : List Word} → Skipped ws rest → Follows n next (Declared ds) rest → Follows n inside (Declared ds) ws
  unfolding Follows Declared
  skipped (ends {w} {ws} h) follows p e g a =
      move n inside next (Declared ds) p w ws e g (fits p.reader w).0 (fits p.reader w).1 (at next p.reader)
      (reads p.reader w ∙ ap (λ (b : Bool). cond b (at next p.reader) p.reader) h) refl a follows
  skipped (passes {w} {ws} {rest} h s) follows p e g a =
      move n inside inside (Declared ds) p w ws e g (fits p.reader w).0 (fits p.reader w).1 p.reader
      (reads p.reader w ∙ ap (λ (b : Bool). cond b (at next p.reader) p.reader) h) e a (skipped s follows)

pub skipped_definition : (n : ℕ) (ds : List Declaration) {ws rest : List Word} → Skipped ws rest →
    Follows n Definition (Declared ds) rest → Follows n SkipDefinition (Declared ds) ws
unfolding read_at fits_in declares_well
skipped_definition n ds s = skipped n ds SkipDefinition Definition (λ r w. refl) (λ r w. (refl, refl)) s

pub skipped_body : (n : ℕ) (ds : List Declaration) {ws rest : List Word} → Skipped ws rest → Follows n Body (Declared ds) rest →
    Follows n SkipBody (Declared ds) ws
unfolding read_at fits_in declares_well
skipped_body n ds s = skipped n ds SkipBody Body (λ r w. refl) (λ r w. (refl, refl)) s
