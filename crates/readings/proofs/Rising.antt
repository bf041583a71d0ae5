-- The times of the commands rise: a word at which one is taken either opens a later stamp or ends the reading. Assumes nothing.
--   times_to_end r ws n    the times of what is read from r on: the words ws, and the end of a text of n bytes
--   rises                none of them is before the stamp that is open at r, and each is above those before it
use Rattle.std.specs.Prelude.{Option}
use Prim.Native.Nat.{ℕ, zero, suc, ◌<◌, ◌≤◌}
use mathlib.Core.Path.{◌≡◌, refl, sym, ap, ◌∙◌, subst}
use mathlib.Core.List.{List, [], ◌∷◌, ◌++◌, append-nil, append_assoc, map}
use mathlib.Core.Bool.{Bool, true, false, cond}
use native.Mathlib.Omega.{arith}
use native.Mathlib.Nat.{not-suc-le-zero, le_of_suc-le-suc}
use lib.ListN.{length, get_or}
use Rattle.lists.proofs.Bools.{clash, confirmed, Flag, on, off, flag}
use Rattle.model.specs.declared.Command.{Command}
use Rattle.recording.specs.declared.Stamp.{Stamp}
use Rattle.recording.specs.declared.Reader.{Reader}
use Rattle.recording.specs.declared.Strobe.{Strobe}
use Rattle.recording.specs.declared.Read.{Read}
use Rattle.recording.specs.Words.{Word}
use Rattle.recording.specs.Stamps.{commands_of}
use Rattle.recording.specs.Reading.{is_good, read_word, finish, Progress, progress, advance, read_words, times_at, times_from}
use Rattle.readings.proofs.Cutting.{read_words-commands}
use Rattle.readings.proofs.Final.{bad_word, bad_finish, bad_words}
use Rattle.readings.proofs.Opening.{standing, word_aside, word_quiet, Opens, opens_later}
use Rattle.readings.proofs.Limits.{strobe_most, word_opened}

abbrev last_reader : Reader → List Word → Reader
last_reader r ws = (read_words (progress r []) ws).reader

abbrev pub times_to_end : Reader → List Word → ℕ → List ℕ
times_to_end r ws n = times_from r ws ++ times_at (last_reader r ws) (finish n (last_reader r ws))

-- word by word
to_end_more : (r : Reader) (w : Word) (ws : List Word) (n : ℕ) →
    times_to_end r (w ∷ ws) n ≡ times_at r (read_word r w) ++ times_to_end (read_word r w).reader ws n
unfolding times_from read_words advance
to_end_more r w ws n =
    let a = read_word r w in
    ap (λ (p : Progress). (times_at r a ++ times_from a.reader ws) ++ times_at p.reader (finish n p.reader))
    (read_words-commands a.reader ([] ++ commands_of a.strobe) ws) ∙
    append_assoc (times_at r a) (times_from a.reader ws) (times_at (last_reader a.reader ws) (finish n (last_reader a.reader ws)))

-- a reader with a fault gives none
pub bad_times : (r : Reader) (ws : List Word) → is_good r ≡ false → times_from r ws ≡ []
unfolding times_from commands_of
bad_times r [] b = refl
bad_times r (w ∷ ws) b = ap (λ (a : Read). times_at r a ++ times_from a.reader ws) (bad_word r w b) ∙ bad_times r ws b

bad_to_end : (r : Reader) (ws : List Word) (n : ℕ) → is_good r ≡ false → times_to_end r ws n ≡ []
unfolding commands_of
bad_to_end r ws n b =
    ap (λ (l : List ℕ). l ++ times_at (last_reader r ws) (finish n (last_reader r ws))) (bad_times r ws b) ∙
    ap (λ (p : Progress). times_at p.reader (finish n p.reader)) (bad_words (progress r []) ws b) ∙
    ap (times_at r) (bad_finish n r b)

-- ---- rows of numbers

abbrev pub AtLeast : ℕ → List ℕ → Type 0
AtLeast x l = (j : ℕ) → j < length l → x ≤ get_or l j 0

abbrev Above : ℕ → List ℕ → Type 0
Above x l = (j : ℕ) → j < length l → x < get_or l j 0

abbrev pub Rises : List ℕ → Type 0
Rises l = (i j : ℕ) → i < j → j < length l → get_or l i 0 < get_or l j 0

least_cons : (x y : ℕ) (l : List ℕ) → x ≤ y → AtLeast x l → AtLeast x (y ∷ l)
least_cons x y l h a zero k = h
least_cons x y l h a (suc j) k = a j (le_of_suc-le-suc k)

rises_cons : (x : ℕ) (l : List ℕ) → Above x l → Rises l → Rises (x ∷ l)
rises_cons x l a r zero zero h k = absurd (not-suc-le-zero h)
rises_cons x l a r zero (suc j) h k = a j (le_of_suc-le-suc k)
rises_cons x l a r (suc i) zero h k = absurd (not-suc-le-zero h)
rises_cons x l a r (suc i) (suc j) h k = r i j (le_of_suc-le-suc h) (le_of_suc-le-suc k)

none_above : (x : ℕ) (l : List ℕ) → l ≡ [] → Above x l
none_above x l e j h = absurd (omega (arith, ap length e))

none_rises : Rises []
none_rises i j h k = absurd (not-suc-le-zero k)

-- ---- from a reader on

-- the times of at most one command, then those of the rest
first_times : (x : ℕ) (cs : List Command) (l : List ℕ) → length cs ≤ 1 → AtLeast x l → (length cs ≡ 1 → Above x l) → Rises l →
    AtLeast x (map (λ (c : Command). x) cs ++ l) × Rises (map (λ (c : Command). x) cs ++ l)
first_times x [] l h a b r = (a, r)
first_times x (c ∷ []) l h a b r = (least_cons x x l (omega arith) a, rises_cons x l (b refl) r)
first_times x (c ∷ d ∷ cs) l h a b r = absurd (omega arith)

module _ (r : Reader) (w : Word) (l : List ℕ) (opened : r.stamp.opened ≡ true)
    (bad : is_good (read_word r w).reader ≡ false → l ≡ [])
    (least : (read_word r w).reader.stamp.opened ≡ true → AtLeast (read_word r w).reader.stamp.time l) where
  x : Reader
  x = (read_word r w).reader

  -- behind a word that stands as a time
  above_next : standing r w ≡ true → Above r.stamp.time l
  unfolding x
  above_next s = go (flag (is_good x))
    where
      go : Flag (is_good x) → Above r.stamp.time l
      go (on g) =
          let before : is_good r ≡ true
          = confirmed (is_good r) (λ b. clash {A = ⊥} g (ap (λ (a : Read). is_good a.reader) (bad_word r w b) ∙ b)) in
          let o : Opens r w x = opens_later r w s before g in
          λ j h. omega (arith, o.later opened, o.time, least o.opened j h)
      go (off g) = none_above r.stamp.time l (bad g)

  -- behind any word
  least_next : AtLeast r.stamp.time l
  unfolding x
  least_next = go (flag (standing r w))
    where
      go : Flag (standing r w) → AtLeast r.stamp.time l
      go (on s) = λ j h. omega (arith, above_next s j h)
      go (off s) =
          let same : x.stamp ≡ r.stamp = (word_aside r w s).0 in
          subst (λ (y : Stamp). AtLeast y.time l) same (least (ap (λ (y : Stamp). y.opened) same ∙ opened))

-- a word that gives a command stands as a time, in an open stamp
given_stands : (r : Reader) (w : Word) → length (commands_of (read_word r w).strobe) ≡ 1 → standing r w ≡ true
unfolding commands_of
given_stands r w e =
    confirmed (standing r w) (λ b. omega (arith, e, ap (λ (s : Option Strobe). length (commands_of s)) (word_quiet r w b)))

-- no command where no stamp is open
none_given : (x : ℕ) (cs : List Command) (l : List ℕ) (o : Bool) → length cs ≤ cond o 1 0 → o ≡ false → map (λ (c : Command). x) cs ++ l ≡ l
none_given x [] l o h e = refl
none_given x (c ∷ cs) l true h e = clash refl e
none_given x (c ∷ cs) l false h e = absurd (not-suc-le-zero h)

-- none is before the open stamp, and each is above those before it
abbrev pub FromOn : Reader → List ℕ → Type 0
FromOn r l = (r.stamp.opened ≡ true → AtLeast r.stamp.time l) × Rises l

word_rises : (r : Reader) (w : Word) (l : List ℕ) → (is_good (read_word r w).reader ≡ false → l ≡ []) → FromOn (read_word r w).reader l →
    FromOn r (times_at r (read_word r w) ++ l)
word_rises r w l bad (least, rising) = go (flag r.stamp.opened)
  where
    cs : List Command
    cs = commands_of (read_word r w).strobe

    go : Flag r.stamp.opened → FromOn r (times_at r (read_word r w) ++ l)
    go (on o) =
        let (a, b) = first_times r.stamp.time cs l (strobe_most (read_word r w).strobe) (least_next r w l o bad least)
        (λ e. above_next r w l o bad least (given_stands r w e)) rising in
        ((λ _. a), b)
    go (off o) =
        ((λ e. clash e o), subst Rises (sym (none_given r.stamp.time cs l r.stamp.opened (word_opened r w) o)) rising)

pub rises : (r : Reader) (ws : List Word) (n : ℕ) → FromOn r (times_to_end r ws n)
unfolding times_from read_words
rises r [] n =
    let cs = commands_of (finish n r).strobe in
    let (a, b) = first_times r.stamp.time cs [] (strobe_most (finish n r).strobe) (λ j h. absurd (not-suc-le-zero h))
    (λ e j h. absurd (not-suc-le-zero h)) none_rises in
    subst (FromOn r) (append-nil (times_at r (finish n r))) ((λ _. a), b)
rises r (w ∷ ws) n =
    subst (FromOn r) (sym (to_end_more r w ws n))
    (word_rises r w (times_to_end (read_word r w).reader ws n) (bad_to_end (read_word r w).reader ws n)
    (rises (read_word r w).reader ws n))
