-- A list of five-byte items, read and taken one at a time, over any reader and any machine; and the room for its answers. Assumes nothing.
--   not_whole, no_room       the list isn't whole, or its answers have no room
--   whole_room               it is, and they have, from the lengths; room_whole, room-enough: the lengths, from that
--   answers_fit              the answers to what is read have room
--   RunTo, Ran               the items before place i are taken; the list has run: count, state and answers are those of the whole
--   run_none, run_more       no item is taken; one more is taken
--   run_end, run_stop        no byte is left, or the next five give no item: the list has run
--   more_left                a place before the end has a whole item
use Prim.Native.Nat.{ℕ, ◌+◌, ◌*◌, ◌/◌, ◌%◌, ◌<◌, ◌≤◌}
use mathlib.Core.Path.{◌≡◌, refl, ap}
use mathlib.Core.List.{List, [], ◌∷◌}
use mathlib.Core.Bool.{Bool, true, false, and-false}
use lib.ListN.{length, drop}
use lib.Seq.{sets}
use lib.Dec.{eqb, leb}
use native.Mathlib.Omega.{arith}
use borrow.Author.Tests.{eq-eqb, ne_eqb, le-leb, lt-leb, eqb-true, leb-true}
use Rattle.lists.proofs.Bools.{and_l, and_r, and_in, Flag, on, off, flag}
use Rattle.layout.specs.Bytes.{command_size, answer_size, in_fives, room_for}
use Rattle.layout.proofs.Fives.{fives_length, read_at, fives_there, fives_end}
use Rattle.layout.proofs.Machines.{Machine, Taken, taken_none, taken_more, taken_all}

-- ---- whether a list is whole and its answers have room

module _ (list answers : List ℕ) where
  abbrev is_whole : Bool
  is_whole = eqb (length list % command_size) 0

  abbrev has_room : Bool
  has_room = leb (length list / command_size * answer_size) (length answers)

  pub whole_room : length list % command_size ≡ 0 → length list ≤ length answers → room_for list answers ≡ true
  whole_room e h =
      let room : length list / command_size * answer_size ≤ length answers = omega arith in
      and_in (eq-eqb _ _ e) (le-leb _ _ room)

  pub not_whole : (length list % command_size ≡ 0 → ⊥) → room_for list answers ≡ false
  not_whole h = rw (ne_eqb _ _ h)

  pub no_room : length answers < length list → room_for list answers ≡ false
  no_room h = go (flag is_whole)
    where
      go : Flag is_whole → room_for list answers ≡ false
      go (on e) =
          let whole : length list % command_size ≡ 0 = eqb-true _ _ e in
          let less : length answers < length list / command_size * answer_size = omega arith in
          simp (lt-leb _ _ less, and-false)
      go (off e) = rw e

  pub room_whole : room_for list answers ≡ true → length list % command_size ≡ 0
  room_whole e = eqb-true _ _ (and_l is_whole has_room e)

  pub room_enough : room_for list answers ≡ true → length list ≤ length answers
  room_enough e =
      let whole : length list % command_size ≡ 0 = room_whole e in
      let room : length list / command_size * answer_size ≤ length answers = leb-true _ _ (and_r is_whole has_room e) in
      omega arith

  pub answers_fit :
      {C : Type 0} (read : ℕ → ℕ → ℕ → List C) → room_for list answers ≡ true → answer_size * length (in_fives read list) ≤ length answers
  answers_fit read e = omega (arith, fives_length read list, room_enough e)

-- ---- an item at a time

-- the items from place i on
abbrev pub left : {C : Type 0} → (ℕ → ℕ → ℕ → List C) → List ℕ → ℕ → List C
left read list i = in_fives read (drop i list)

module _ {S C : Type 0} (read : ℕ → ℕ → ℕ → List C) (M : Machine S C) (list answers₀ : List ℕ) (s₀ : S) where
  pub record RunTo (answers : List ℕ) (s : S) (i : ℕ) : Type 0 where
    pub within : i ≤ length list
    pub whole : length list % command_size ≡ 0
    pub place : i % command_size ≡ 0
    pub room : length list ≤ length answers₀
    pub counts : i / command_size + length (left read list i) ≡ length (in_fives read list)
    pub taken : Taken M answers₀ s₀ (in_fives read list) answers s i (left read list i)

  pub run_none : length list % command_size ≡ 0 → length list ≤ length answers₀ → RunTo answers₀ s₀ 0
  run_none e h =
      record {
        within = omega arith;
        whole = e;
        place = refl;
        room = h;
        counts = omega arith;
        taken = taken_none M answers₀ s₀ (in_fives read list);
      }

  -- the list has run to its end: the count r, the state and the answers
  pub record Ran (r : ℕ) (answers : List ℕ) (s : S) : Type 0 where
    pub fits : room_for list answers₀ ≡ true
    pub count : r ≡ length (in_fives read list)
    pub state : s ≡ M.run s₀ (in_fives read list)
    pub written : answers ≡ sets answers₀ 0 (M.answers s₀ (in_fives read list))

module _
    {S C : Type 0} {read : ℕ → ℕ → ℕ → List C} {M : Machine S C} {list answers₀ : List ℕ} {s₀ : S} {answers : List ℕ} {s : S} {i : ℕ}
    (t : RunTo read M list answers₀ s₀ answers s i) where
  -- a place before the end has a whole item
  pub more_left : i < length list → i + command_size ≤ length list
  more_left h = omega (arith, t.whole, t.place)

  pub run_more :
      {answers' xs : List ℕ} {s' : S} {c : C} → i < length list → read_at read list i ≡ c ∷ [] → s' ≡ M.next s c →
      answers' ≡ sets answers i xs → xs ≡ M.says s c → RunTo read M list answers₀ s₀ answers' s' (i + command_size)
  run_more {c = c} h ec es ea ex =
      let items : left read list i ≡ c ∷ left read list (i + command_size) = fives_there read list i (more_left h) ec in
      record {
        within = more_left h;
        whole = t.whole;
        place = omega (arith, t.place);
        room = t.room;
        counts = omega (arith, ap length items, t.counts);
        taken = taken_more t.taken refl items es ea ex;
      }

  ran : left read list i ≡ [] → Ran read M list answers₀ s₀ (i / command_size) answers s
  ran none =
      let (state_is, written_is) = taken_all t.taken none in
      record {
        fits = whole_room list answers₀ t.whole t.room;
        count = omega (arith, ap length none, t.counts);
        state = state_is;
        written = written_is;
      }

  pub run_end : length list ≤ i → Ran read M list answers₀ s₀ (i / command_size) answers s
  run_end h = ran (fives_end read list i h)

  pub run_stop : i < length list → read_at read list i ≡ [] → Ran read M list answers₀ s₀ (i / command_size) answers s
  run_stop h e = ran (fives_there read list i (more_left h) e)
