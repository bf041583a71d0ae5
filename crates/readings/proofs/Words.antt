-- Words are exactly the longest runs of bytes that are no separators, each once, first to last (`WordsExact`). Assumes nothing.
--   State     where the cutting of a text stands: the word under way began at o, the next byte is at `at`
--   sound     each word cut from there on is such a run
--   complete  each such run from o on is cut
use Prim.Native.Nat.{ℕ, zero, suc, ◌+◌, ◌-◌, ◌<◌, ◌≤◌}
use mathlib.Core.Path.{◌≡◌, refl, sym, ap, ◌∙◌}
use mathlib.Core.List.Memᴰ
use mathlib.Core.List.Memᴰ.{head as here}
use mathlib.Core.List.Memᴰ.{tail as there}
use mathlib.Core.List.{List, [], ◌∷◌, ◌++◌, Memᴰ}
use mathlib.Core.Bool.{Bool, true, false, cond}
use native.Mathlib.Omega.{arith}
use native.Mathlib.Nat.{not-suc-le-zero, le_of_suc-le-suc}
use lib.ListN.{length, get_or, length-append}
use lib.Seq.{ext_get_or}
use lib.Dec.{ltb}
use borrow.Author.Tests.{ltb-true, ltb-false}
use Rattle.lists.proofs.Bools.{clash, Flag, on, off, flag}
use Rattle.recording.specs.Words.{separator, Word, word_with, closed, cut}
use Rattle.recording.specs.Statements.{Run, Rising, none, one, more, WordsExact}

-- ---- a word that ends

-- the word under way, if it has a byte, or one of the words after it
data Closed (end : ℕ) (w : List ℕ) (xs : List Word) (v : Word) : Type 0 where
  this : 0 < length w → v ≡ word_with (end - length w) w → Closed end w xs v
  later : Memᴰ v xs → Closed end w xs v

closed_out : (end : ℕ) (w : List ℕ) (xs : List Word) (v : Word) → Memᴰ v (closed end w xs) → Closed end w xs v
closed_out end [] xs v m = later m
closed_out end (b ∷ bs) xs v (here e) = this (omega arith) e
closed_out end (b ∷ bs) xs v (there m) = later m

closed_this : (end : ℕ) (w : List ℕ) (xs : List Word) (v : Word) → 0 < length w → v ≡ word_with (end - length w) w →
    Memᴰ v (closed end w xs)
closed_this end [] xs v h e = absurd (not-suc-le-zero h)
closed_this end (b ∷ bs) xs v h e = here e

closed_later : (end : ℕ) (w : List ℕ) (xs : List Word) (v : Word) → Memᴰ v xs → Memᴰ v (closed end w xs)
closed_later end [] xs v m = m
closed_later end (b ∷ bs) xs v m = there m

-- ---- where the cutting stands

record State (T : List ℕ) (o at : ℕ) (w t : List ℕ) : Type 0 where
  from : at ≡ o + length w
  whole : length T ≡ at + length t
  done : (i : ℕ) → i < length w → get_or w i 0 ≡ get_or T (o + i) 0
  rest : (i : ℕ) → i < length t → get_or t i 0 ≡ get_or T (at + i) 0
  clear : (i : ℕ) → i < length w → separator (get_or w i 0) ≡ false
  left : (i : ℕ) → suc i ≡ o → separator (get_or T i 0) ≡ true

-- the byte at an index that is said in two ways
same_byte : (T : List ℕ) {i j : ℕ} → i ≡ j → get_or T i 0 ≡ get_or T j 0
same_byte T e = ap (λ (k : ℕ). get_or T k 0) e

next_byte : (T : List ℕ) (o at : ℕ) (w : List ℕ) (b : ℕ) (t : List ℕ) → State T o at w (b ∷ t) → b ≡ get_or T at 0
next_byte T o at w b t s = s.rest 0 (omega arith) ∙ same_byte T (omega arith)

after_separator : (T : List ℕ) (o at : ℕ) (w : List ℕ) (b : ℕ) (t : List ℕ) → State T o at w (b ∷ t) → separator b ≡ true →
    State T (suc at) (suc at) [] t
after_separator T o at w b t s e =
    record {
      from = omega arith;
      whole = omega (arith, s.whole);
      done = λ i h. absurd (not-suc-le-zero h);
      rest = λ i h. s.rest (suc i) (omega arith) ∙ same_byte T (omega arith);
      clear = λ i h. absurd (not-suc-le-zero h);
      left = λ i h. ap separator (same_byte T {i = i} {j = at} (omega arith) ∙ sym (next_byte T o at w b t s)) ∙ e;
    }

-- what holds of each byte of w and of b holds of each of w ++ [b]
each_more : (P : ℕ → ℕ → Type 0) (w : List ℕ) (b : ℕ) → ((i : ℕ) → i < length w → P i (get_or w i 0)) → P (length w) b →
    (i : ℕ) → i < length (w ++ (b ∷ [])) → P i (get_or (w ++ (b ∷ [])) i 0)
each_more P [] b h p zero l = p
each_more P [] b h p (suc i) l = absurd (not-suc-le-zero (le_of_suc-le-suc l))
each_more P (c ∷ cs) b h p zero l = h 0 (omega arith)
each_more P (c ∷ cs) b h p (suc i) l =
    each_more (λ (j x : ℕ). P (suc j) x) cs b (λ j q. h (suc j) (omega arith)) p i (le_of_suc-le-suc l)

after_byte : (T : List ℕ) (o at : ℕ) (w : List ℕ) (b : ℕ) (t : List ℕ) → State T o at w (b ∷ t) → separator b ≡ false →
    State T o (suc at) (w ++ (b ∷ [])) t
after_byte T o at w b t s e =
    record {
      from = omega (arith, s.from, length-append w (b ∷ []));
      whole = omega (arith, s.whole);
      done =
          each_more (λ (i x : ℕ). x ≡ get_or T (o + i) 0) w b s.done
          (next_byte T o at w b t s ∙ same_byte T s.from);
      rest = λ i h. s.rest (suc i) (omega arith) ∙ same_byte T (omega arith);
      clear = each_more (λ (i x : ℕ). separator x ≡ false) w b s.clear e;
      left = s.left;
    }

-- the text ends here, or a separator follows
Stops : List ℕ → ℕ → Type 0
Stops T at = at < length T → separator (get_or T at 0) ≡ true

module _ (T : List ℕ) (o at : ℕ) (w t : List ℕ) (s : State T o at w t) (stops : Stops T at) where
  -- the word under way is a run
  run : 0 < length w → Run T (word_with o w)
  unfolding Stops
  run h =
      record {
        some_byte = h;
        inside = omega (arith, s.from, s.whole);
        here = s.done;
        no_separator = s.clear;
        begins = s.left;
        ends = λ l. ap separator (same_byte T (sym s.from)) ∙ stops (omega (arith, s.from));
      }

  module _ (v : Word) (u : Run T v) (low : o ≤ v.at) (high : v.at < at) where
    -- a byte of the word under way is no separator
    clear_at : (i : ℕ) → o ≤ i → i < at → separator (get_or T i 0) ≡ false
    clear_at i l h =
        ap separator (same_byte T {i = i} {j = o + (i - o)} (omega arith) ∙ sym (s.done (i - o) (omega (arith, s.from)))) ∙
        s.clear (i - o) (omega (arith, s.from))

    -- a run that begins in the word under way begins with it
    begins_here : v.at ≡ o
    begins_here = go (flag (ltb o v.at))
      where
        go : Flag (ltb o v.at) → v.at ≡ o
        go (on e) =
            let l : o < v.at = ltb-true o v.at e in
            clash (u.begins (v.at - 1) (omega arith)) (clear_at (v.at - 1) (omega arith) (omega arith))
        go (off e) = omega (arith, ltb-false o v.at e)

    -- and ends with it
    ends_here : length v.bytes ≡ length w
    unfolding Stops
    ends_here = go (flag (ltb (length v.bytes) (length w))) (flag (ltb (length w) (length v.bytes)))
      where
        go : Flag (ltb (length v.bytes) (length w)) → Flag (ltb (length w) (length v.bytes)) → length v.bytes ≡ length w
        go (on e) f =
            let l : length v.bytes < length w = ltb-true (length v.bytes) (length w) e in
            clash (u.ends (omega (arith, begins_here, s.from, s.whole)))
            (clear_at (v.at + length v.bytes) (omega arith) (omega (arith, begins_here, s.from)))
        go (off e) (on f) =
            let l : length w < length v.bytes = ltb-true (length w) (length v.bytes) f in
            clash
            (stops (omega (arith, u.inside, begins_here, s.from)))
            (ap separator (same_byte T {i = at} {j = v.at + length w} (omega (arith, begins_here, s.from)) ∙ sym
            (u.here (length w) l)) ∙ u.no_separator (length w) l)
        go (off e) (off f) =
            omega (arith, ltb-false (length v.bytes) (length w) e, ltb-false (length w) (length v.bytes) f)

    same_word : v ≡ word_with o w
    same_word =
        let bytes : v.bytes ≡ w =
        ext_get_or 0 v.bytes w ends_here
        (λ i h. u.here i h ∙ same_byte T (omega (arith, begins_here)) ∙ sym (s.done i (omega (arith, ends_here)))) in
        λ k. word_with (begins_here k) (bytes k)

stops_at_end : (T : List ℕ) (o at : ℕ) (w : List ℕ) → State T o at w [] → Stops T at
unfolding Stops
stops_at_end T o at w s l = absurd (omega (arith, s.whole))

stops_at_separator : (T : List ℕ) (o at : ℕ) (w : List ℕ) (b : ℕ) (t : List ℕ) → State T o at w (b ∷ t) → separator b ≡ true → Stops T at
unfolding Stops
stops_at_separator T o at w b t s e l = ap separator (sym (next_byte T o at w b t s)) ∙ e

-- the word under way stands where it began
this_run : (T : List ℕ) (o at : ℕ) (w t : List ℕ) → State T o at w t → Stops T at → (v : Word) → 0 < length w →
    v ≡ word_with (at - length w) w → Run T v × (o ≤ v.at)
this_run T o at w t s stops v h e =
    let f : v ≡ word_with o w = e ∙ ap (λ (k : ℕ). word_with k w) (omega (arith, s.from)) in
    rw f (run T o at w t s stops h, omega arith)

-- ---- each word is a run, and stands where the word under way began or later

sound : (T : List ℕ) (o at : ℕ) (w t : List ℕ) → State T o at w t → (v : Word) → Memᴰ v (cut at w t) → Run T v × (o ≤ v.at)
unfolding cut
sound T o at w [] s v m = go (closed_out at w [] v m)
  where
    go : Closed at w [] v → Run T v × (o ≤ v.at)
    go (this h e) = this_run T o at w [] s (stops_at_end T o at w s) v h e
    go (later l) = absurd (Memᴰ.not-nil l)
sound T o at w (b ∷ t) s v m =
    go (separator b) refl (λ e. sound T (suc at) (suc at) [] t (after_separator T o at w b t s e) v)
    (λ e. sound T o (suc at) (w ++ (b ∷ [])) t (after_byte T o at w b t s e) v) m
  where
    closing : separator b ≡ true → (Memᴰ v (cut (suc at) [] t) → Run T v × (suc at ≤ v.at)) →
        Closed at w (cut (suc at) [] t) v → Run T v × (o ≤ v.at)
    closing e next (this h f) = this_run T o at w (b ∷ t) s (stops_at_separator T o at w b t s e) v h f
    closing e next (later l) = ((next l).0, omega (arith, (next l).1, s.from))

    go : (x : Bool) → separator b ≡ x → (separator b ≡ true → Memᴰ v (cut (suc at) [] t) → Run T v × (suc at ≤ v.at)) →
        (separator b ≡ false → Memᴰ v (cut (suc at) (w ++ (b ∷ [])) t) → Run T v × (o ≤ v.at)) →
        Memᴰ v (cond x (closed at w (cut (suc at) [] t)) (cut (suc at) (w ++ (b ∷ [])) t)) → Run T v × (o ≤ v.at)
    go true e p q k = closing e (p e) (closed_out at w (cut (suc at) [] t) v k)
    go false e p q k = q e k

-- ---- each run from there on is a word

-- a run begins in the word under way, or past the separator that ends it
complete : (T : List ℕ) (o at : ℕ) (w t : List ℕ) → State T o at w t → (v : Word) → Run T v → o ≤ v.at → Memᴰ v (cut at w t)
unfolding cut
complete T o at w [] s v u low =
    let high : v.at < at = omega (arith, u.some_byte, u.inside, s.whole) in
    let e : v ≡ word_with o w = same_word T o at w [] s (stops_at_end T o at w s) v u low high in
    closed_this at w [] v (omega (arith, s.from)) (e ∙ ap (λ (k : ℕ). word_with k w) (omega (arith, s.from)))
complete T o at w (b ∷ t) s v u low =
    go (separator b) refl (λ e. complete T (suc at) (suc at) [] t (after_separator T o at w b t s e) v u)
    (λ e. complete T o (suc at) (w ++ (b ∷ [])) t (after_byte T o at w b t s e) v u low)
  where
    closing : separator b ≡ true → (suc at ≤ v.at → Memᴰ v (cut (suc at) [] t)) → Flag (ltb v.at at) →
        Flag (ltb at v.at) → Memᴰ v (closed at w (cut (suc at) [] t))
    closing e next (on f) g =
        let high : v.at < at = ltb-true v.at at f in
        let x : v ≡ word_with o w = same_word T o at w (b ∷ t) s (stops_at_separator T o at w b t s e) v u low high in
        closed_this at w (cut (suc at) [] t) v (omega (arith, s.from)) (x ∙ ap (λ (k : ℕ). word_with k w) (omega (arith, s.from)))
    closing e next (off f) (on g) = closed_later at w (cut (suc at) [] t) v (next (ltb-true at v.at g))
    closing e next (off f) (off g) =
        clash e
        (ap separator
        (next_byte T o at w b t s ∙
        same_byte T {i = at} {j = v.at + 0} (omega (arith, ltb-false v.at at f, ltb-false at v.at g)) ∙ sym
        (u.here 0 u.some_byte)) ∙
        u.no_separator 0 u.some_byte)

    go : (x : Bool) → separator b ≡ x → (separator b ≡ true → suc at ≤ v.at → Memᴰ v (cut (suc at) [] t)) →
        (separator b ≡ false → Memᴰ v (cut (suc at) (w ++ (b ∷ [])) t)) →
        Memᴰ v (cond x (closed at w (cut (suc at) [] t)) (cut (suc at) (w ++ (b ∷ [])) t))
    go true e p q = closing e (p e) (flag (ltb v.at at)) (flag (ltb at v.at))
    go false e p q = q e

-- ---- in order

rising_cons : (v : Word) (ws : List Word) → ((w : Word) → Memᴰ w ws → v.at < w.at) → Rising ws → Rising (v ∷ ws)
rising_cons v [] h r = one v
rising_cons v (w ∷ ws) h r = more v w ws (h w (here refl)) r

rising_closed : (end : ℕ) (w : List ℕ) (ws : List Word) → ((v : Word) → Memᴰ v ws → end < v.at) → Rising ws →
    Rising (closed end w ws)
rising_closed end [] ws h r = r
rising_closed end (b ∷ bs) ws h r = rising_cons (word_with (end - suc (length bs)) (b ∷ bs)) ws (λ v m. omega (arith, h v m)) r

rising : (T : List ℕ) (o at : ℕ) (w t : List ℕ) → State T o at w t → Rising (cut at w t)
unfolding cut
rising T o at w [] s = rising_closed at w [] (λ v m. absurd (Memᴰ.not-nil m)) none
rising T o at w (b ∷ t) s =
    go (separator b) refl (λ e. rising T (suc at) (suc at) [] t (after_separator T o at w b t s e))
    (λ e. rising T o (suc at) (w ++ (b ∷ [])) t (after_byte T o at w b t s e))
  where
    go : (x : Bool) → separator b ≡ x → (separator b ≡ true → Rising (cut (suc at) [] t)) →
        (separator b ≡ false → Rising (cut (suc at) (w ++ (b ∷ [])) t)) →
        Rising (cond x (closed at w (cut (suc at) [] t)) (cut (suc at) (w ++ (b ∷ [])) t))
    go true e p q =
        rising_closed at w (cut (suc at) [] t) (λ v m. (sound T (suc at) (suc at) [] t (after_separator T o at w b t s e) v m).1) (p e)
    go false e p q = q e

-- ---- the whole text

at_start : (t : List ℕ) → State t 0 0 [] t
at_start t =
    record {
      from = refl;
      whole = omega arith;
      done = λ i h. absurd (not-suc-le-zero h);
      rest = λ i h. same_byte t (omega arith);
      clear = λ i h. absurd (not-suc-le-zero h);
      left = λ i h. absurd (omega (arith, h));
    }

pub words_exact : WordsExact
words_exact t = (
  (λ w. ((λ m. (sound t 0 0 [] t (at_start t) w m).0), (λ u. complete t 0 0 [] t (at_start t) w u (omega arith)))),
  rising t 0 0 [] t (at_start t),
)
