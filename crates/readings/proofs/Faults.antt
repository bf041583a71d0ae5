-- A word shows exactly the fault that its condition says, in the order 13, 19, 11, 12, 14, and takes exactly the command of its stamp
-- (`FaultsExact`, `StrobesExact`). Assumes nothing.
--   end_open_stamp-fault, end_open_stamp-strobe    the end of a stamp: 13, 19, or the command
--   read_at-fault, read_at-strobe                a word, place by place
use Prim.Native.Nat.{ℕ, suc, min}
use mathlib.Core.Path.{◌≡◌, refl, ap, ◌∙◌}
use Rattle.std.specs.Prelude.{Option, None, Some}
use mathlib.Core.List.{[], ◌∷◌, tail}
use mathlib.Core.Bool.{Bool, true, false, not, ◌&&◌, ◌||◌, cond}
use lib.ListN.{get_or}
use lib.Dec.{leb, eqb}
use Rattle.recording.specs.declared.Place.{Place}
use Rattle.recording.specs.declared.Place.TheVariants.{Definition, SkipDefinition, Wire, Width, Code, Name, VarEnd, DefinitionsEnd, Body}
use Rattle.recording.specs.declared.Place.TheVariants.{SkipBody, BodyCode, Block, BlockCode}
use Rattle.recording.specs.declared.Signal.{Signal}
use Rattle.recording.specs.declared.Signal.TheVariants.{Stb}
use Rattle.recording.specs.declared.Fault.{Fault}
use Rattle.recording.specs.declared.Strobe.{Strobe}
use Rattle.recording.specs.declared.Reader.{Reader}
use Rattle.recording.specs.declared.Read.{Read}
use Rattle.recording.specs.Words.{is_text, Word}
use Rattle.recording.specs.Values.{is_decimal, decimal, is_code, code_of, bit_of, value_of, vector_of}
use Rattle.recording.specs.Records.{variable, at, with_width, with_code, with_vector, with_value, declaring, with_time, with_up, with_taken}
use Rattle.recording.specs.Records.{refused, fault_with, read_with, only}
use Rattle.recording.specs.Declarations.{signal_of, all_declared, declares}
use Rattle.recording.specs.Stamps.{max_commands, level, is_high, rises, is_readable, strobe_of, end_stamp, end_open_stamp}
use Rattle.recording.specs.Reading.{is_body, is_good, out_of_place, is_skipped, read_definition, read_width, read_code, read_name, is_vector}
use Rattle.recording.specs.Reading.{is_scalar, read_change, vector_signal, read_vector_code, starts_time, is_time, time_of, is_later, open_stamp}
use Rattle.recording.specs.Reading.{and_then, read_time, is_dump, read_body, read_block, read_at, read_word, ending, finish}
use Rattle.recording.specs.Faults.{unclear, excessive, takes_vector, is_change, fits_in, is_declared, declares_well, fault_at, fault_at_end}
use Rattle.recording.specs.Faults.{taken_at}
use Rattle.recording.specs.Statements.{FaultsExact, StrobesExact}

-- ---- the end of a stamp

-- the tests of `end_stamp` in the order of the numbers, for the two readings of 13 at once
in_order : (o k v d x : Bool) (a b t u i : Read) →
    cond o (cond (not k) a (cond (not v) u (cond (not d) a (cond x b t)))) i ≡
    cond (o && (not k || (v && not d))) a (cond (o && (v && x)) b (cond (o && v) t (cond o u i)))
in_order true true true true true a b t u i = refl
in_order true true true true false a b t u i = refl
in_order true true true false x a b t u i = refl
in_order true true false d x a b t u i = refl
in_order true false v d x a b t u i = refl
in_order false k v d x a b t u i = refl

-- what the end of a stamp shows of a reader, a command or none
abbrev ended : ℕ → Reader → Read
ended n r =
    cond (r.stamp.opened && unclear r) (only (refused 13 n r))
    (cond (r.stamp.opened && excessive r) (only (refused 19 n r))
    (cond (r.stamp.opened && rises r) (read_with (with_taken (suc r.taken) (with_up true r)) (Some (strobe_of r)))
    (cond r.stamp.opened (only (with_up (is_high r) r)) (only r))))

pub end_open_stamp-ended : (n : ℕ) (r : Reader) → end_open_stamp n r ≡ ended n r
unfolding end_stamp end_open_stamp
end_open_stamp-ended n r =
    in_order r.stamp.opened (level r).known (rises r) (is_readable r) (leb max_commands r.taken) (only (refused 13 n r))
    (only (refused 19 n r)) (read_with (with_taken (suc r.taken) (with_up true r)) (Some (strobe_of r))) (only (with_up (is_high r) r)) (only r)

-- the fault of a stamp's end, before anything else
abbrev stamp_fault : ℕ → Reader → Fault
stamp_fault n r =
    cond (r.stamp.opened && unclear r) (fault_with 13 n) (cond (r.stamp.opened && excessive r) (fault_with 19 n) r.fault)

-- a property of the five ways in which a stamp can end
by_ends : (P : Read → Type 0) (p q s o : Bool) (a b t u i : Read) → P a → P b → P t → P u → P i →
    P (cond p a (cond q b (cond s t (cond o u i))))
by_ends P true q s o a b t u i pa pb pt pu pi = pa
by_ends P false true s o a b t u i pa pb pt pu pi = pb
by_ends P false false true o a b t u i pa pb pt pu pi = pt
by_ends P false false false true a b t u i pa pb pt pu pi = pu
by_ends P false false false false a b t u i pa pb pt pu pi = pi

ended_fault : (p q s o : Bool) (n : ℕ) (r t : Reader) (c : Option Strobe) → t.fault ≡ r.fault → (u : Reader) → u.fault ≡ r.fault →
    (cond p (only (refused 13 n r)) (cond q (only (refused 19 n r)) (cond s (read_with t c) (cond o (only u) (only r))))).reader.fault ≡
    cond p (fault_with 13 n) (cond q (fault_with 19 n) r.fault)
ended_fault true q s o n r t c e u e' = refl
ended_fault false true s o n r t c e u e' = refl
ended_fault false false true o n r t c e u e' = e
ended_fault false false false true n r t c e u e' = e'
ended_fault false false false false n r t c e u e' = refl

pub end_open_stamp-fault : (n : ℕ) (r : Reader) → (end_open_stamp n r).reader.fault ≡ stamp_fault n r
end_open_stamp-fault n r =
    ap (λ (a : Read). a.reader.fault) (end_open_stamp-ended n r) ∙
    ended_fault (r.stamp.opened && unclear r) (r.stamp.opened && excessive r) (r.stamp.opened && rises r) r.stamp.opened n r
    (with_taken (suc r.taken) (with_up true r)) (Some (strobe_of r)) refl (with_up (is_high r) r) refl

-- a command exactly at a strobe that shows neither
ended_strobe : (o p q s : Bool) (a b u i : Reader) (t : Reader) (c : Option Strobe) →
    (cond (o && p) (only a) (cond (o && q) (only b) (cond (o && s) (read_with t c) (cond o (only u) (only i))))).strobe ≡
    cond (o && s && not p && not q) c None
ended_strobe true true q true a b u i t c = refl
ended_strobe true true q false a b u i t c = refl
ended_strobe true false true true a b u i t c = refl
ended_strobe true false true false a b u i t c = refl
ended_strobe true false false true a b u i t c = refl
ended_strobe true false false false a b u i t c = refl
ended_strobe false p q s a b u i t c = refl

pub end_open_stamp-strobe : (n : ℕ) (r : Reader) → (end_open_stamp n r).strobe ≡ taken_at r.stamp.opened r
unfolding taken_at
end_open_stamp-strobe n r =
    ap (λ (a : Read). a.strobe) (end_open_stamp-ended n r) ∙
    ended_strobe r.stamp.opened (unclear r) (excessive r) (rises r) (refused 13 n r) (refused 19 n r) (with_up (is_high r) r) r
    (with_taken (suc r.taken) (with_up true r)) (Some (strobe_of r))

-- a property of the reader after the end of a stamp, from the five ways in which a stamp can end
pub by_stamp : (P : Reader → Type 0) (n : ℕ) (r : Reader) → P (refused 13 n r) → P (refused 19 n r) →
    P (with_taken (suc r.taken) (with_up true r)) → P (with_up (is_high r) r) → P r → P (end_open_stamp n r).reader
by_stamp P n r pa pb pt pu pi =
    rw end_open_stamp-ended
    (by_ends (λ (a : Read). P a.reader) (r.stamp.opened && unclear r) (r.stamp.opened && excessive r)
    (r.stamp.opened && rises r) r.stamp.opened (only (refused 13 n r)) (only (refused 19 n r))
    (read_with (with_taken (suc r.taken) (with_up true r)) (Some (strobe_of r))) (only (with_up (is_high r) r)) (only r) pa pb pt pu pi)

-- the open stamp's time is still there, for the next to be compared with
later_kept : (n : ℕ) (r : Reader) (t : ℕ) → is_later (end_open_stamp n r).reader t ≡ is_later r t
later_kept n r t = by_stamp (λ (x : Reader). is_later x t ≡ is_later r t) n r refl refl refl refl refl

place_kept : (n : ℕ) (r : Reader) → (end_open_stamp n r).reader.place ≡ r.place
place_kept n r = by_stamp (λ (x : Reader). x.place ≡ r.place) n r refl refl refl refl refl

-- ---- what goes on after it

then_strobe : (a : Read) (f : Reader → Reader) → (and_then a f).strobe ≡ a.strobe
unfolding and_then
then_strobe a f = go (is_good a.reader)
  where
    go : (b : Bool) → (cond b (read_with (f a.reader) a.strobe) a).strobe ≡ a.strobe
    go true = refl
    go false = refl

then_fault : (a : Read) (f : Reader → Reader) →
    (and_then a f).reader.fault ≡ cond (is_good a.reader) (f a.reader).fault a.reader.fault
unfolding and_then
then_fault a f = go (is_good a.reader)
  where
    go : (b : Bool) →
        (cond b (read_with (f a.reader) a.strobe) a).reader.fault ≡ cond b (f a.reader).fault a.reader.fault
    go true = refl
    go false = refl

-- the stamp's fault comes first, then what follows for a reader without one
first_fault : (p q : Bool) (n : ℕ) (f : Fault) (g : Fault → Fault) → eqb f.number 0 ≡ true →
    cond (eqb (cond p (fault_with 13 n) (cond q (fault_with 19 n) f)).number 0)
    (g (cond p (fault_with 13 n) (cond q (fault_with 19 n) f))) (cond p (fault_with 13 n) (cond q (fault_with 19 n) f)) ≡
    cond p (fault_with 13 n) (cond q (fault_with 19 n) (g f))
first_fault true q n f g good = refl
first_fault false true n f g good = refl
first_fault false false n f g good = rw good

stamp_then : (n : ℕ) (r : Reader) (h : Reader → Reader) (g : Fault → Fault) →
    is_good r ≡ true → (h (end_open_stamp n r).reader).fault ≡ g (end_open_stamp n r).reader.fault →
    (and_then (end_open_stamp n r) h).reader.fault ≡
    cond (r.stamp.opened && unclear r) (fault_with 13 n) (cond (r.stamp.opened && excessive r) (fault_with 19 n) (g r.fault))
stamp_then n r h g good e =
    then_fault (end_open_stamp n r) h ∙
    rw (e, end_open_stamp-fault n r)
    (first_fault (r.stamp.opened && unclear r) (r.stamp.opened && excessive r) n r.fault g good)

open_stamp-fault : (r : Reader) (w : Word) →
    (open_stamp r w).fault ≡
    cond (not (is_time w.bytes)) (fault_with 11 w.at) (cond (not (is_later r (time_of w.bytes))) (fault_with 14 w.at) r.fault)
unfolding open_stamp
open_stamp-fault r w = go (is_time w.bytes) (is_later r (time_of w.bytes))
  where
    go : (t l : Bool) →
        (cond (not t) (out_of_place w r) (cond l (with_time (time_of w.bytes) r) (refused 14 w.at r))).fault ≡
        cond (not t) (fault_with 11 w.at) (cond (not l) (fault_with 14 w.at) r.fault)
    go true true = refl
    go true false = refl
    go false l = refl

read_time-fault : (r : Reader) (w : Word) → is_good r ≡ true →
    (read_time r w).reader.fault ≡
    cond (r.stamp.opened && unclear r) (fault_with 13 w.at)
    (cond (r.stamp.opened && excessive r) (fault_with 19 w.at)
    (cond (not (is_time w.bytes)) (fault_with 11 w.at) (cond (not (is_later r (time_of w.bytes))) (fault_with 14 w.at) r.fault)))
unfolding read_time
read_time-fault r w good =
    stamp_then w.at r (λ r'. open_stamp r' w)
    (λ f. cond (not (is_time w.bytes)) (fault_with 11 w.at) (cond (not (is_later r (time_of w.bytes))) (fault_with 14 w.at) f))
    good
    (open_stamp-fault (end_open_stamp w.at r).reader w ∙ rw (later_kept w.at r (time_of w.bytes)))

-- ---- a word, place by place

-- a place where only some words may stand
judged : (b : Bool) (x y : Reader) → (cond b x y).fault ≡ cond (not b) y.fault x.fault
judged true x y = refl
judged false x y = refl

-- the words that are skipped
passed : (b : Bool) (x y : Reader) → x.fault ≡ y.fault → (cond b x y).fault ≡ y.fault
passed true x y e = e
passed false x y e = refl

module _ (r : Reader) (w : Word) where
  definition_fault : (s v e d : Bool) →
      (cond s (at SkipDefinition r) (cond v (at Wire r) (cond (not e) (out_of_place w r)
      (cond d (at DefinitionsEnd r) (refused 12 w.at r))))).fault ≡
      cond (not (s || v || e)) (fault_with 11 w.at) (cond (not (s || v || d)) (fault_with 12 w.at) r.fault)
  definition_fault true v e d = refl
  definition_fault false true e d = refl
  definition_fault false false false d = refl
  definition_fault false false true true = refl
  definition_fault false false true false = refl

  name_fault : (o : Option Signal) → (read_name o r w).fault ≡ cond (not (is_declared o r)) (fault_with 12 w.at) r.fault
  unfolding read_name
  name_fault None = refl
  name_fault (Some s) = judged (declares r s) (at VarEnd (declaring s r)) (refused 12 w.at r)

  change_fault : (p q : Place) → (read_change p q r w).fault ≡ cond (not (is_change r w.bytes)) (fault_with 11 w.at) r.fault
  unfolding read_change
  change_fault p q = go (is_vector w.bytes) (is_scalar r w.bytes) (at q (with_vector (vector_of (tail w.bytes)) r))
      (at p (with_value Stb (value_of (bit_of (get_or w.bytes 0 0) ∷ [])) r)) refl refl
    where
      go : (v s : Bool) (x y : Reader) → x.fault ≡ r.fault → y.fault ≡ r.fault →
          (cond v x (cond s y (out_of_place w r))).fault ≡ cond (not (v || s)) (fault_with 11 w.at) r.fault
      go true s x y e e' = e
      go false true x y e e' = e'
      go false false x y e e' = refl

  code_fault : (p : Place) (o : Option Signal) →
      (read_vector_code p o r w).fault ≡ cond (not (takes_vector o r)) (fault_with 11 w.at) r.fault
  unfolding read_vector_code
  code_fault p None = refl
  code_fault p (Some s) =
      judged (leb r.pending.vector.length (variable r s).width) (at p (with_value s r.pending.vector.value r)) (out_of_place w r)

  block_fault : (read_block r w).fault ≡ cond (not (is_text "$end" w.bytes || is_change r w.bytes)) (fault_with 11 w.at) r.fault
  unfolding read_block
  block_fault = go (is_text "$end" w.bytes)
    where
      go : (b : Bool) →
          (cond b (at Body r) (read_change Block BlockCode r w)).fault ≡ cond (not (b || is_change r w.bytes))
          (fault_with 11 w.at) r.fault
      go true = refl
      go false = change_fault Block BlockCode

  body_fault : is_good r ≡ true →
      (read_body r w).reader.fault ≡
      cond (starts_time w.bytes && r.stamp.opened && unclear r) (fault_with 13 w.at)
      (cond (starts_time w.bytes && r.stamp.opened && excessive r) (fault_with 19 w.at)
      (cond (not (cond (starts_time w.bytes) (is_time w.bytes)
      (is_text "$comment" w.bytes || is_dump w.bytes || is_change r w.bytes))) (fault_with 11 w.at)
      (cond (starts_time w.bytes && not (is_later r (time_of w.bytes))) (fault_with 14 w.at) r.fault)))
  unfolding read_body
  body_fault good = go (starts_time w.bytes) (is_text "$comment" w.bytes) (is_dump w.bytes)
    where
      go : (t c d : Bool) →
          (cond t (read_time r w) (cond c (only (at SkipBody r))
          (cond d (only (at Block r)) (only (read_change Body BodyCode r w))))).reader.fault ≡
          cond (t && r.stamp.opened && unclear r) (fault_with 13 w.at)
          (cond (t && r.stamp.opened && excessive r) (fault_with 19 w.at)
          (cond (not (cond t (is_time w.bytes) (c || d || is_change r w.bytes))) (fault_with 11 w.at)
          (cond (t && not (is_later r (time_of w.bytes))) (fault_with 14 w.at) r.fault)))
      go true c d = read_time-fault r w good
      go false true d = refl
      go false false true = refl
      go false false false = change_fault Body BodyCode

  -- the reading's fault at a place is the one that its conditions name there
  fault_in : Place → Fault
  fault_in p =
      cond (is_body p && starts_time w.bytes && r.stamp.opened && unclear r) (fault_with 13 w.at)
      (cond (is_body p && starts_time w.bytes && r.stamp.opened && excessive r) (fault_with 19 w.at)
      (cond (not (fits_in p r w.bytes)) (fault_with 11 w.at)
      (cond (not (declares_well p r w.bytes)) (fault_with 12 w.at)
      (cond (is_body p && starts_time w.bytes && not (is_later r (time_of w.bytes))) (fault_with 14 w.at) r.fault))))

  read_at-fault : is_good r ≡ true → (p : Place) → (read_at p r w).reader.fault ≡ fault_in p
  unfolding read_at read_definition read_width read_code fits_in declares_well fault_in
  read_at-fault good Definition = definition_fault (is_skipped w.bytes) (is_text "$var" w.bytes)
      (is_text "$enddefinitions" w.bytes) (all_declared r)
  read_at-fault good SkipDefinition = passed (is_text "$end" w.bytes) (at Definition r) r refl
  read_at-fault good Wire = judged (is_text "wire" w.bytes) (at Width r) (out_of_place w r)
  read_at-fault good Width = judged (is_decimal w.bytes) (at Code (with_width (min 255 (decimal w.bytes)) r)) (out_of_place w r)
  read_at-fault good Code = judged (is_code w.bytes) (at Name (with_code (code_of w.bytes) r)) (out_of_place w r)
  read_at-fault good Name = name_fault (signal_of w.bytes)
  read_at-fault good VarEnd = judged (is_text "$end" w.bytes) (at Definition r) (out_of_place w r)
  read_at-fault good DefinitionsEnd = judged (is_text "$end" w.bytes) (at Body r) (out_of_place w r)
  read_at-fault good Body = body_fault good
  read_at-fault good SkipBody = passed (is_text "$end" w.bytes) (at Body r) r refl
  read_at-fault good BodyCode = code_fault Body (vector_signal r w.bytes)
  read_at-fault good Block = block_fault
  read_at-fault good BlockCode = code_fault Block (vector_signal r w.bytes)

  body_strobe : (t c d : Bool) (x y z : Reader) →
      (cond t (read_time r w) (cond c (only x) (cond d (only y) (only z)))).strobe ≡ taken_at (t && r.stamp.opened) r
  unfolding read_time taken_at
  body_strobe true c d x y z =
      then_strobe (end_open_stamp w.at r) (λ r'. open_stamp r' w) ∙ end_open_stamp-strobe w.at r
  body_strobe false true d x y z = refl
  body_strobe false false true x y z = refl
  body_strobe false false false x y z = refl

  read_at-strobe : (p : Place) → (read_at p r w).strobe ≡ taken_at (is_body p && starts_time w.bytes && r.stamp.opened) r
  unfolding read_at read_body taken_at
  read_at-strobe Definition = refl
  read_at-strobe SkipDefinition = refl
  read_at-strobe Wire = refl
  read_at-strobe Width = refl
  read_at-strobe Code = refl
  read_at-strobe Name = refl
  read_at-strobe VarEnd = refl
  read_at-strobe DefinitionsEnd = refl
  read_at-strobe Body =
      body_strobe (starts_time w.bytes) (is_text "$comment" w.bytes) (is_dump w.bytes) (at SkipBody r) (at Block r)
      (read_change Body BodyCode r w)
  read_at-strobe SkipBody = refl
  read_at-strobe BodyCode = refl
  read_at-strobe Block = refl
  read_at-strobe BlockCode = refl

-- ---- the whole word, and the end of the text

pub good_word : (r : Reader) (w : Word) → is_good r ≡ true → read_word r w ≡ read_at r.place r w
unfolding read_word
good_word r w good = rw good

pub good_finish : (n : ℕ) (r : Reader) → is_good r ≡ true → finish n r ≡ and_then (end_open_stamp n r) (ending n)
unfolding finish
good_finish n r good = rw good

ending_fault : (n : ℕ) (r : Reader) (b : Bool) → (cond b r (refused 11 n r)).fault ≡ cond (not b) (fault_with 11 n) r.fault
ending_fault n r true = refl
ending_fault n r false = refl

pub faults_exact : FaultsExact
unfolding fault_at fault_at_end fault_in
faults_exact r good = (
  (λ w. rw (good_word r w good) (read_at-fault r w good r.place)),
  (λ n.
      rw (good_finish n r good)
      (stamp_then n r (ending n) (λ f. cond (not (is_body r.place)) (fault_with 11 n) f) good
      (ending_fault n (end_open_stamp n r).reader (is_body (end_open_stamp n r).reader.place) ∙ rw (place_kept n r)))),
)

pub strobes_exact : StrobesExact
strobes_exact r good = (
  (λ w. rw (good_word r w good) (read_at-strobe r w r.place)),
  (λ n. rw (good_finish n r good) (then_strobe (end_open_stamp n r) (ending n) ∙ end_open_stamp-strobe n r)),
)
