-- What a word does to the open stamp and to the count of the commands. Assumes nothing.
--   standing r w              the word starts with #, where a time may stand
--   Aside r x                 x has the stamp and the count of r
--   word_aside, word_quiet    a word that doesn't stand as a time leaves both alone, and gives no command
--   read_time_lem, time_kept      one that does is read as a time, and leaves the count alone once its stamp is ended
--   Opens, opens_later        and where it shows no fault it is a time, later than the one before, and opens its stamp
use Prim.Native.Nat.{ℕ, ◌<◌}
use mathlib.Core.Path.{◌≡◌, refl, sym, ap, ◌∙◌, subst}
use Rattle.std.specs.Prelude.{Option, None, Some}
use mathlib.Core.Bool.{Bool, true, false, not, ◌&&◌, cond, true≢false}
use lib.Dec.{ltb, leb}
use borrow.Author.Tests.{ltb-true}
use Rattle.lists.proofs.Bools.{and_l, and_r, or_off, clash, Flag, on, off, flag}
use Rattle.recording.specs.declared.Place.{Place}
use Rattle.recording.specs.declared.Place.TheVariants.{Definition, SkipDefinition, Wire, Width, Code, Name, VarEnd, DefinitionsEnd, Body}
use Rattle.recording.specs.declared.Place.TheVariants.{SkipBody, BodyCode, Block, BlockCode}
use Rattle.recording.specs.declared.Signal.{Signal}
use Rattle.recording.specs.declared.Reader.{Reader}
use Rattle.recording.specs.declared.Read.{Read}
use Rattle.recording.specs.Words.{is_text, Word}
use Rattle.recording.specs.Values.{is_decimal, is_code}
use Rattle.recording.specs.Records.{variable, at, declaring, with_time, refused, read_with, only}
use Rattle.recording.specs.Declarations.{signal_of, all_declared, declares}
use Rattle.recording.specs.Stamps.{end_open_stamp}
use Rattle.recording.specs.Reading.{is_body, is_good, out_of_place, is_skipped, read_definition, read_width, read_code, read_name, is_vector}
use Rattle.recording.specs.Reading.{is_scalar, read_change, vector_signal, read_vector_code, starts_time, is_time, time_of, is_later, open_stamp}
use Rattle.recording.specs.Reading.{and_then, read_time, is_dump, read_body, read_block, read_at, read_word}
use Rattle.recording.specs.Faults.{taken_at}
use Rattle.readings.proofs.Faults.{by_stamp, good_word, strobes_exact}
use Rattle.readings.proofs.Final.{bad_word}

abbrev pub standing : Reader → Word → Bool
standing r w = is_body r.place && starts_time w.bytes

-- ---- other words

abbrev pub Aside : Reader → Reader → Type 0
Aside r x = (x.stamp ≡ r.stamp) × (x.taken ≡ r.taken)

module _ (r : Reader) (w : Word) where
  same : Aside r r
  same = (refl, refl)

  either : (b : Bool) (x y : Reader) → Aside r x → Aside r y → Aside r (cond b x y)
  either true x y p q = p
  either false x y p q = q

  name_aside : (o : Option Signal) → Aside r (read_name o r w)
  unfolding read_name
  name_aside None = same
  name_aside (Some s) = either (declares r s) (at VarEnd (declaring s r)) (refused 12 w.at r) same same

  change_aside : (p q : Place) → Aside r (read_change p q r w)
  unfolding read_change
  change_aside p q = either (is_vector w.bytes) _ _ same (either (is_scalar r w.bytes) _ _ same same)

  code_aside : (p : Place) (o : Option Signal) → Aside r (read_vector_code p o r w)
  unfolding read_vector_code
  code_aside p None = same
  code_aside p (Some s) = either (leb r.pending.vector.length (variable r s).width) _ _ same same

  body_aside : (t c d : Bool) → t ≡ false →
      Aside r
      (cond t (read_time r w) (cond c (only (at SkipBody r)) (cond d (only (at Block r)) (only (read_change Body BodyCode r w))))).reader
  body_aside true c d e = absurd (true≢false e)
  body_aside false true d e = same
  body_aside false false true e = same
  body_aside false false false e = change_aside Body BodyCode

  read_at-aside : (p : Place) → is_body p && starts_time w.bytes ≡ false → Aside r (read_at p r w).reader
  unfolding read_at read_definition read_width read_code read_body read_block
  read_at-aside Definition e =
      either (is_skipped w.bytes) _ _ same
      (either (is_text "$var" w.bytes) _ _ same
      (either (not (is_text "$enddefinitions" w.bytes)) _ _ same (either (all_declared r) _ _ same same)))
  read_at-aside SkipDefinition e = either (is_text "$end" w.bytes) _ _ same same
  read_at-aside Wire e = either (is_text "wire" w.bytes) _ _ same same
  read_at-aside Width e = either (is_decimal w.bytes) _ _ same same
  read_at-aside Code e = either (is_code w.bytes) _ _ same same
  read_at-aside Name e = name_aside (signal_of w.bytes)
  read_at-aside VarEnd e = either (is_text "$end" w.bytes) _ _ same same
  read_at-aside DefinitionsEnd e = either (is_text "$end" w.bytes) _ _ same same
  read_at-aside Body e = body_aside (starts_time w.bytes) (is_text "$comment" w.bytes) (is_dump w.bytes) e
  read_at-aside SkipBody e = either (is_text "$end" w.bytes) _ _ same same
  read_at-aside BodyCode e = code_aside Body (vector_signal r w.bytes)
  read_at-aside Block e = either (is_text "$end" w.bytes) _ _ same (change_aside Block BlockCode)
  read_at-aside BlockCode e = code_aside Block (vector_signal r w.bytes)

  pub word_aside : standing r w ≡ false → Aside r (read_word r w).reader
  word_aside e = go (flag (is_good r))
    where
      go : Flag (is_good r) → Aside r (read_word r w).reader
      go (on g) = rw (good_word r w g) (read_at-aside r.place e)
      go (off g) = rw (bad_word r w g) same

  pub word_quiet : standing r w ≡ false → (read_word r w).strobe ≡ None
  unfolding taken_at
  word_quiet e = go (flag (is_good r))
    where
      go : Flag (is_good r) → (read_word r w).strobe ≡ None
      go (on g) = (strobes_exact r g).0 w ∙ ap (λ (b : Bool). taken_at (b && r.stamp.opened) r) e
      go (off g) = ap (λ (a : Read). a.strobe) (bad_word r w g)

-- ---- a time

-- where a time may stand there is one place
body_place : (p : Place) → is_body p ≡ true → p ≡ Body
body_place Definition e = absurd (true≢false (sym e))
body_place SkipDefinition e = absurd (true≢false (sym e))
body_place Wire e = absurd (true≢false (sym e))
body_place Width e = absurd (true≢false (sym e))
body_place Code e = absurd (true≢false (sym e))
body_place Name e = absurd (true≢false (sym e))
body_place VarEnd e = absurd (true≢false (sym e))
body_place DefinitionsEnd e = absurd (true≢false (sym e))
body_place Body e = refl
body_place SkipBody e = absurd (true≢false (sym e))
body_place BodyCode e = absurd (true≢false (sym e))
body_place Block e = absurd (true≢false (sym e))
body_place BlockCode e = absurd (true≢false (sym e))

-- a word that stands as a time, and shows no fault
pub record Opens (r : Reader) (w : Word) (x : Reader) : Type 0 where
  pub is_time_lem : is_time w.bytes ≡ true
  pub opened : x.stamp.opened ≡ true
  pub time : x.stamp.time ≡ time_of w.bytes
  pub later : r.stamp.opened ≡ true → r.stamp.time < time_of w.bytes

module _ (r : Reader) (w : Word) where
  -- the end of a stamp leaves it open, at its time
  stamp_kept : ((end_open_stamp w.at r).reader.stamp.opened ≡ r.stamp.opened) ×
      ((end_open_stamp w.at r).reader.stamp.time ≡ r.stamp.time)
  stamp_kept =
      by_stamp (λ (x : Reader). (x.stamp.opened ≡ r.stamp.opened) × (x.stamp.time ≡ r.stamp.time)) w.at r (refl, refl)
      (refl, refl) (refl, refl) (refl, refl) (refl, refl)

  opening : (x : Reader) → (x.stamp.opened ≡ r.stamp.opened) × (x.stamp.time ≡ r.stamp.time) →
      is_good (open_stamp x w) ≡ true → Opens r w (open_stamp x w)
  unfolding open_stamp
  opening x (o, e) = go (is_time w.bytes) refl (is_later x (time_of w.bytes)) refl
    where
      go : (t : Bool) → is_time w.bytes ≡ t → (l : Bool) → is_later x (time_of w.bytes) ≡ l →
          is_good (cond (not t) (out_of_place w x) (cond l (with_time (time_of w.bytes) x) (refused 14 w.at x))) ≡ true →
          Opens r w (cond (not t) (out_of_place w x) (cond l (with_time (time_of w.bytes) x) (refused 14 w.at x)))
      go false et l el g = absurd (true≢false (sym g))
      go true et false el g = absurd (true≢false (sym g))
      go true et true el g =
          record {
            is_time_lem = et;
            opened = refl;
            time = refl;
            later =
                λ h.
                subst (λ (k : ℕ). k < time_of w.bytes) e
                (ltb-true x.stamp.time (time_of w.bytes)
                (or_off (not x.stamp.opened) (ltb x.stamp.time (time_of w.bytes)) el (ap not (o ∙ h))));
          }

  time_opens : is_good (read_time r w).reader ≡ true → Opens r w (read_time r w).reader
  unfolding read_time and_then
  time_opens = go (is_good a.reader) refl
    where
      a : Read
      a = end_open_stamp w.at r

      go : (b : Bool) → is_good a.reader ≡ b → is_good (cond b (read_with (open_stamp a.reader w) a.strobe) a).reader ≡ true →
          Opens r w (cond b (read_with (open_stamp a.reader w) a.strobe) a).reader
      go true e g = opening a.reader stamp_kept g
      go false e g = clash g e

  pub time_kept : (open_stamp r w).taken ≡ r.taken
  unfolding open_stamp
  time_kept = go (not (is_time w.bytes)) (is_later r (time_of w.bytes))
    where
      go : (t l : Bool) → (cond t (out_of_place w r) (cond l (with_time (time_of w.bytes) r) (refused 14 w.at r))).taken ≡ r.taken
      go true l = refl
      go false true = refl
      go false false = refl

  pub read_time_lem : standing r w ≡ true → is_good r ≡ true → read_word r w ≡ read_time r w
  unfolding read_at read_body
  read_time_lem s g =
      good_word r w g ∙ ap (λ (p : Place). read_at p r w) (body_place r.place (and_l (is_body r.place) (starts_time w.bytes) s)) ∙
      rw (and_r (is_body r.place) (starts_time w.bytes) s)

  pub opens_later : standing r w ≡ true → is_good r ≡ true → is_good (read_word r w).reader ≡ true → Opens r w (read_word r w).reader
  opens_later s g = subst (λ (a : Read). is_good a.reader ≡ true → Opens r w a.reader) (sym (read_time_lem s g)) time_opens
