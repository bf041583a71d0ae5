-- Words that stand n bytes further on are read alike: only the offset of a fault is n more. Assumes nothing.
-- The offset of a word enters a reading only where the word is refused.
--   moved n r                        the reader r, the offset of its fault n more; without a fault as it is
--   word_moved, finish_moved         one word, and the end of the text
--   cut_moved                        the words of bytes that stand further on
--   words_moved, times_moved         many words: reader and commands, and the times
-- Every reader that is moved itself reads moved words so (`any_word`, `any_finish`, `any_words`, `any_times`), and one without a fault is
-- moved as it stands (`good_stays`).
use Prim.Native.Nat.{ℕ, suc, ◌+◌, ◌≤◌, min}
use mathlib.Core.Path.{◌≡◌, refl, sym, ap, ◌∙◌}
use Rattle.std.specs.Prelude.{Option, None, Some}
use mathlib.Core.List.{List, [], ◌∷◌, ◌++◌, map, tail}
use mathlib.Core.Bool.{Bool, true, false, not, cond}
use native.Mathlib.Omega.{arith}
use lib.ListN.{length, length-append, get_or}
use lib.Dec.{leb}
use Rattle.lists.proofs.Bools.{Flag, on, off, flag}
use Rattle.model.specs.declared.Command.{Command}
use Rattle.recording.specs.declared.Place.{Place}
use Rattle.recording.specs.declared.Place.TheVariants.{Definition, SkipDefinition, Wire, Width, Code, Name, VarEnd, DefinitionsEnd, Body}
use Rattle.recording.specs.declared.Place.TheVariants.{SkipBody, BodyCode, Block, BlockCode}
use Rattle.recording.specs.declared.Signal.{Signal}
use Rattle.recording.specs.declared.Signal.TheVariants.{Stb}
use Rattle.recording.specs.declared.Reader.{Reader}
use Rattle.recording.specs.declared.Read.{Read}
use Rattle.recording.specs.Words.{is_text, separator, Word, word_with, closed, cut}
use Rattle.recording.specs.Values.{is_decimal, decimal, is_code, code_of, bit_of, value_of, vector_of}
use Rattle.recording.specs.Records.{variable, at, with_width, with_code, with_vector, with_value, declaring, with_time, with_up, with_taken}
use Rattle.recording.specs.Records.{refused, read_with, only}
use Rattle.recording.specs.Declarations.{signal_of, all_declared, declares}
use Rattle.recording.specs.Stamps.{max_commands, level, is_high, rises, is_readable, strobe_of, end_stamp, end_open_stamp}
use Rattle.recording.specs.Reading.{is_body, is_good, out_of_place, is_skipped, read_definition, read_width, read_code, read_name}
use Rattle.recording.specs.Reading.{is_vector, is_scalar, read_change, vector_signal, read_vector_code, starts_time, is_time, time_of, is_later}
use Rattle.recording.specs.Reading.{open_stamp, and_then, read_time, is_dump, read_body, read_block, read_at, read_word, ending, finish}
use Rattle.recording.specs.Reading.{Progress, progress, advance, read_words, times_at, times_from}
use Rattle.readings.proofs.Rising.{bad_times}

-- ---- moved

abbrev pub moved : ℕ → Reader → Reader
moved n r = refused r.fault.number (cond (is_good r) r.fault.offset (n + r.fault.offset)) r

abbrev pub moved_read : ℕ → Read → Read
moved_read n a = read_with (moved n a.reader) a.strobe

abbrev pub moved_word : ℕ → Word → Word
moved_word n w = word_with (n + w.at) w.bytes

abbrev pub moved_progress : ℕ → Progress → Progress
moved_progress n p = progress (moved n p.reader) p.commands

pub good_stays : (n : ℕ) (r : Reader) → is_good r ≡ true → moved n r ≡ r
good_stays n r good = rw good

-- ---- choices

-- a choice between images is the image of the choice: of two, three, four or five
chosen : {A : Type 0} (f : A → A) (b : Bool) (x y : A) → cond b (f x) (f y) ≡ f (cond b x y)
chosen f true x y = refl
chosen f false x y = refl

chosen_three : {A : Type 0} (f : A → A) (b c : Bool) (x y z : A) →
    cond b (f x) (cond c (f y) (f z)) ≡ f (cond b x (cond c y z))
chosen_three f true c x y z = refl
chosen_three f false c x y z = chosen f c y z

chosen_four : {A : Type 0} (f : A → A) (b c d : Bool) (x y z u : A) →
    cond b (f x) (cond c (f y) (cond d (f z) (f u))) ≡ f (cond b x (cond c y (cond d z u)))
chosen_four f true c d x y z u = refl
chosen_four f false c d x y z u = chosen_three f c d y z u

chosen_five : {A : Type 0} (f : A → A) (b c d e : Bool) (x y z u v : A) →
    cond b (f x) (cond c (f y) (cond d (f z) (cond e (f u) (f v)))) ≡ f (cond b x (cond c y (cond d z (cond e u v))))
chosen_five f true c d e x y z u v = refl
chosen_five f false c d e x y z u v = chosen_four f c d e y z u v

-- ---- the end of a stamp

module _ (n : ℕ) where
  end_moved : (k : ℕ) (r : Reader) → end_stamp (n + k) (moved n r) ≡ moved_read n (end_stamp k r)
  unfolding end_stamp is_readable strobe_of
  end_moved k r =
      chosen_five (moved_read n) (not (level r).known) (not (rises r)) (not (is_readable r)) (leb max_commands r.taken)
      (only (refused 13 k r)) (only (with_up (is_high r) r)) (only (refused 13 k r)) (only (refused 19 k r))
      (read_with (with_taken (suc r.taken) (with_up true r)) (Some (strobe_of r)))

  open_end_moved : (k : ℕ) (r : Reader) → end_open_stamp (n + k) (moved n r) ≡ moved_read n (end_open_stamp k r)
  unfolding end_open_stamp
  open_end_moved k r =
      ap (λ (a : Read). cond r.stamp.opened a (only (moved n r))) (end_moved k r) ∙
      chosen (moved_read n) r.stamp.opened (end_stamp k r) (only r)

  then_moved : (a : Read) (f g : Reader → Reader) → ((x : Reader) → g (moved n x) ≡ moved n (f x)) →
      and_then (moved_read n a) g ≡ moved_read n (and_then a f)
  unfolding and_then
  then_moved a f g e =
      ap (λ (x : Reader). cond (is_good a.reader) (read_with x a.strobe) (moved_read n a)) (e a.reader) ∙
      chosen (moved_read n) (is_good a.reader) (read_with (f a.reader) a.strobe) a

-- ---- a word, place by place

open_moved : (n : ℕ) (w : Word) (r : Reader) → open_stamp (moved n r) (moved_word n w) ≡ moved n (open_stamp r w)
unfolding open_stamp
open_moved n w r =
    chosen_three (moved n) (not (is_time w.bytes)) (is_later r (time_of w.bytes)) (out_of_place w r) (with_time (time_of w.bytes) r)
    (refused 14 w.at r)

module _ (n : ℕ) (r : Reader) (w : Word) where
  abbrev s : Reader
  s = moved n r

  abbrev v : Word
  v = moved_word n w

  definition_moved : read_definition s v ≡ moved n (read_definition r w)
  unfolding read_definition
  definition_moved =
      chosen_five (moved n) (is_skipped w.bytes) (is_text "$var" w.bytes) (not (is_text "$enddefinitions" w.bytes))
      (all_declared r) (at SkipDefinition r) (at Wire r) (out_of_place w r) (at DefinitionsEnd r) (refused 12 w.at r)

  name_moved : (o : Option Signal) → read_name o s v ≡ moved n (read_name o r w)
  unfolding read_name declares
  name_moved None = refl
  name_moved (Some x) = chosen (moved n) (declares r x) (at VarEnd (declaring x r)) (refused 12 w.at r)

  change_moved : (p q : Place) → read_change p q s v ≡ moved n (read_change p q r w)
  unfolding read_change
  change_moved p q =
      chosen_three (moved n) (is_vector w.bytes) (is_scalar r w.bytes) (at q (with_vector (vector_of (tail w.bytes)) r))
      (at p (with_value Stb (value_of (bit_of (get_or w.bytes 0 0) ∷ [])) r)) (out_of_place w r)

  code_moved : (p : Place) (o : Option Signal) → read_vector_code p o s v ≡ moved n (read_vector_code p o r w)
  unfolding read_vector_code
  code_moved p None = refl
  code_moved p (Some x) =
      chosen (moved n) (leb r.pending.vector.length (variable r x).width) (at p (with_value x r.pending.vector.value r))
      (out_of_place w r)

  block_moved : read_block s v ≡ moved n (read_block r w)
  unfolding read_block
  block_moved =
      ap (cond (is_text "$end" w.bytes) (at Body s)) (change_moved Block BlockCode) ∙
      chosen (moved n) (is_text "$end" w.bytes) (at Body r) (read_change Block BlockCode r w)

  time_moved : read_time s v ≡ moved_read n (read_time r w)
  unfolding read_time
  time_moved =
      ap (λ (a : Read). and_then a (λ x. open_stamp x v)) (open_end_moved n w.at r) ∙
      then_moved n (end_open_stamp w.at r) (λ x. open_stamp x w) (λ x. open_stamp x v) (open_moved n w)

  body_moved : read_body s v ≡ moved_read n (read_body r w)
  unfolding read_body
  body_moved =
      (λ t. cond (starts_time w.bytes) (time_moved t) (cond (is_text "$comment" w.bytes) (only (at SkipBody s))
      (cond (is_dump w.bytes) (only (at Block s)) (only (change_moved Body BodyCode t))))) ∙
      chosen_four (moved_read n) (starts_time w.bytes) (is_text "$comment" w.bytes) (is_dump w.bytes) (read_time r w)
      (only (at SkipBody r)) (only (at Block r)) (only (read_change Body BodyCode r w))

  at_moved : (p : Place) → read_at p s v ≡ moved_read n (read_at p r w)
  unfolding read_at read_width read_code
  at_moved Definition = ap only definition_moved
  at_moved SkipDefinition = ap only (chosen (moved n) (is_text "$end" w.bytes) (at Definition r) r)
  at_moved Wire = ap only (chosen (moved n) (is_text "wire" w.bytes) (at Width r) (out_of_place w r))
  at_moved Width =
      ap only
      (chosen (moved n) (is_decimal w.bytes) (at Code (with_width (min 255 (decimal w.bytes)) r)) (out_of_place w r))
  at_moved Code = ap only (chosen (moved n) (is_code w.bytes) (at Name (with_code (code_of w.bytes) r)) (out_of_place w r))
  at_moved Name = ap only (name_moved (signal_of w.bytes))
  at_moved VarEnd = ap only (chosen (moved n) (is_text "$end" w.bytes) (at Definition r) (out_of_place w r))
  at_moved DefinitionsEnd = ap only (chosen (moved n) (is_text "$end" w.bytes) (at Body r) (out_of_place w r))
  at_moved Body = body_moved
  at_moved SkipBody = ap only (chosen (moved n) (is_text "$end" w.bytes) (at Body r) r)
  at_moved BodyCode = ap only (code_moved Body (vector_signal r w.bytes))
  at_moved Block = ap only block_moved
  at_moved BlockCode = ap only (code_moved Block (vector_signal r w.bytes))

  any_word : read_word s v ≡ moved_read n (read_word r w)
  unfolding read_word
  any_word =
      ap (λ (a : Read). cond (is_good r) a (only s)) (at_moved r.place) ∙
      chosen (moved_read n) (is_good r) (read_at r.place r w) (only r)

pub word_moved : (n : ℕ) (r : Reader) (w : Word) → is_good r ≡ true → read_word r (moved_word n w) ≡ moved_read n (read_word r w)
word_moved n r w good = ap (λ (x : Reader). read_word x (moved_word n w)) (sym (good_stays n r good)) ∙ any_word n r w

-- ---- the end of the text

ending_moved : (n k : ℕ) (r : Reader) → ending (n + k) (moved n r) ≡ moved n (ending k r)
ending_moved n k r = chosen (moved n) (is_body r.place) r (refused 11 k r)

any_finish : (n k : ℕ) (r : Reader) → finish (n + k) (moved n r) ≡ moved_read n (finish k r)
unfolding finish
any_finish n k r =
    ap (λ (a : Read). cond (is_good r) a (only (moved n r)))
    (ap (λ (a : Read). and_then a (ending (n + k))) (open_end_moved n k r) ∙
    then_moved n (end_open_stamp k r) (ending k) (ending (n + k)) (ending_moved n k)) ∙
    chosen (moved_read n) (is_good r) (and_then (end_open_stamp k r) (ending k)) (only r)

pub finish_moved : (n k : ℕ) (r : Reader) → is_good r ≡ true → finish (n + k) r ≡ moved_read n (finish k r)
finish_moved n k r good = ap (finish (n + k)) (sym (good_stays n r good)) ∙ any_finish n k r

-- ---- the words of bytes that stand further on

closed_moved : (n at : ℕ) (w : List ℕ) (ws : List Word) → length w ≤ at →
    closed (n + at) w (map (moved_word n) ws) ≡ map (moved_word n) (closed at w ws)
closed_moved n at [] ws h = refl
closed_moved n at (b ∷ bs) ws h = ap (λ (k : ℕ). word_with k (b ∷ bs) ∷ map (moved_word n) ws) (omega arith)

pub cut_moved : (n at : ℕ) (w t : List ℕ) → length w ≤ at → cut (n + at) w t ≡ map (moved_word n) (cut at w t)
unfolding cut
cut_moved n at w [] h = closed_moved n at w [] h
cut_moved n at w (b ∷ t) h =
    go (separator b) (next [] ∙ cut_moved n (suc at) [] t (omega arith))
    (next (w ++ (b ∷ [])) ∙ cut_moved n (suc at) (w ++ (b ∷ [])) t (omega (arith, h, length-append w (b ∷ []))))
  where
    next : (u : List ℕ) → cut (suc (n + at)) u t ≡ cut (n + suc at) u t
    next u = ap (λ (k : ℕ). cut k u t) (omega arith)

    go : (x : Bool) → cut (suc (n + at)) [] t ≡ map (moved_word n) (cut (suc at) [] t) →
        cut (suc (n + at)) (w ++ (b ∷ [])) t ≡ map (moved_word n) (cut (suc at) (w ++ (b ∷ [])) t) →
        cond x (closed (n + at) w (cut (suc (n + at)) [] t)) (cut (suc (n + at)) (w ++ (b ∷ [])) t) ≡
        map (moved_word n) (cond x (closed at w (cut (suc at) [] t)) (cut (suc at) (w ++ (b ∷ [])) t))
    go true p q = ap (closed (n + at) w) p ∙ closed_moved n at w (cut (suc at) [] t) h
    go false p q = q

-- ---- many words

any_words : (n : ℕ) (p : Progress) (ws : List Word) →
    read_words (moved_progress n p) (map (moved_word n) ws) ≡ moved_progress n (read_words p ws)
unfolding read_words advance
any_words n p [] = refl
any_words n p (w ∷ ws) =
    ap (λ (a : Read). read_words (advance p.commands a) (map (moved_word n) ws)) (any_word n p.reader w) ∙
    any_words n (advance p.commands (read_word p.reader w)) ws

pub words_moved : (n : ℕ) (r : Reader) (cs : List Command) (ws : List Word) → is_good r ≡ true →
    read_words (progress r cs) (map (moved_word n) ws) ≡ moved_progress n (read_words (progress r cs) ws)
words_moved n r cs ws good =
    ap (λ (x : Reader). read_words (progress x cs) (map (moved_word n) ws)) (sym (good_stays n r good)) ∙
    any_words n (progress r cs) ws

any_times : (n : ℕ) (r : Reader) (ws : List Word) → times_from (moved n r) (map (moved_word n) ws) ≡ times_from r ws
unfolding times_from
any_times n r [] = refl
any_times n r (w ∷ ws) =
    ap (λ (a : Read). times_at r a ++ times_from a.reader (map (moved_word n) ws)) (any_word n r w) ∙
    ap (λ (l : List ℕ). times_at r (read_word r w) ++ l) (any_times n (read_word r w).reader ws)

-- a reader with a fault gives no times
pub times_moved : (n : ℕ) (r : Reader) (ws : List Word) → times_from r (map (moved_word n) ws) ≡ times_from r ws
times_moved n r ws = go (flag (is_good r))
  where
    go : Flag (is_good r) → times_from r (map (moved_word n) ws) ≡ times_from r ws
    go (on good) = ap (λ (x : Reader). times_from x (map (moved_word n) ws)) (sym (good_stays n r good)) ∙ any_times n r ws
    go (off bad) = bad_times r (map (moved_word n) ws) bad ∙ sym (bad_times r ws bad)
