-- A text in chunks is one reading (`ChunksAreOne`), wherever it is cut (`CutAnywhere`); after a fault or the end calls repeat it
-- (`OverRepeats`, `EndIsOver`), and a byte too many is one (`ByteTooMany`). Assumes nothing.
--   feed_joined    a chunk that is cut in two
--   kept_next      what is carried of a word with one more byte
--   Reads          what was fed, with the word under way ended, is the reading of some words
--   fed_reads      so it is of the words of the bytes fed
use Prim.Native.Nat.{ℕ, suc, ◌+◌, ◌-◌, ◌≤◌}
use mathlib.Core.Path.{◌≡◌, refl, sym, ap, ◌∙◌, subst}
use mathlib.Core.List.{List, [], ◌∷◌, ◌++◌, append-nil, append_assoc}
use mathlib.Core.Bool.{Bool, true, false, not, ◌&&◌, ◌||◌, cond}
use native.Mathlib.Omega.{arith}
use lib.ListN.{length, length-append, take, drop}
use lib.Dec.{ltb}
use borrow.Author.Tests.{lt-ltb, le-ltb}
use Rattle.lists.specs.Rows.{joined}
use Rattle.lists.proofs.Bools.{Flag, on, off, flag, or_in_r, not_in, clash}
use Rattle.recording.specs.declared.Reader.{Reader}
use Rattle.recording.specs.declared.Read.{Read}
use Rattle.recording.specs.Words.{is_empty, separator, Word, word_with, closed, cut, words}
use Rattle.recording.specs.Values.{is_bit, is_digit, is_definite, bit_of}
use Rattle.recording.specs.Records.{start, only}
use Rattle.recording.specs.Stamps.{commands_of}
use Rattle.recording.specs.Reading.{is_good, is_vector, read_word, finish, Progress, progress, advance, read_words, finished}
use Rattle.recording.specs.Reading.{answered, reading, times_at, times_from, times_of}
use Rattle.recording.specs.Chunks.{most_kept, is_binary, leads_zero, ending_in, held_bits, held_digits, kept_with, kept_after, kept, Carried}
use Rattle.recording.specs.Chunks.{carried_with, begun, most_bytes, is_over, Fed, fed_with, nothing_fed, then_fed, gives, closing}
use Rattle.recording.specs.Chunks.{place_in, between, too_long, take_byte, feed, feed_all, at_end, end_text, chunked}
use Rattle.recording.specs.ChunkStatements.{whole_text, KeptMeansSame, told_by, ChunksAreOne, OverRepeats, EndIsOver, ByteTooMany}
use Rattle.recording.specs.ChunkStatements.{CutAnywhere}
use Rattle.readings.proofs.Cutting.{read_words-commands}
use Rattle.readings.proofs.Final.{bad_word, bad_finish, advance_only, bad_words, bad_finished, bad_answered}
use Rattle.readings.proofs.Rising.{bad_times}
use Rattle.readings.proofs.Kept.{kept_means_same}

-- ---- after a fault or the end

over_byte : (c : Carried) (b : ℕ) → is_over c ≡ true → take_byte c b ≡ nothing_fed c
unfolding take_byte
over_byte c b o = rw o

over_feed : (c : Carried) (bs : List ℕ) → is_over c ≡ true → feed c bs ≡ nothing_fed c
unfolding feed
over_feed c [] o = refl
over_feed c (b ∷ bs) o = ap (λ (f : Fed). then_fed f (feed f.carried bs)) (over_byte c b o) ∙ over_feed c bs o

over_end : (c : Carried) → is_over c ≡ true → end_text c ≡ nothing_fed c
unfolding end_text
over_end c o = rw o

-- ---- a byte too many

over_long : (c : Carried) (b : ℕ) → is_over c ≡ false → c.taken ≡ most_bytes → take_byte c b ≡ nothing_fed (too_long c)
unfolding take_byte
over_long c b going full = rw (going, le-ltb c.taken most_bytes (omega (arith, full)))

pub byte_too_many : ByteTooMany
unfolding feed
byte_too_many c b bs going full =
    ap told_by (ap (λ (f : Fed). then_fed f (feed f.carried bs)) (over_long c b going full) ∙ over_feed (too_long c) bs refl)

open_end : (c : Carried) → is_over c ≡ false → end_text c ≡ then_fed (gives c.reader (closing c) c) (at_end c (closing c))
unfolding end_text
open_end c o = rw o

pub over_repeats : OverRepeats
over_repeats c o = ((λ bs. over_feed c bs o), over_end c o)

pub end_is_over : EndIsOver
end_is_over c = go (flag (is_over c))
  where
    go : Flag (is_over c) → is_over (end_text c).carried ≡ true
    go (on o) = ap (λ (f : Fed). is_over f.carried) (over_end c o) ∙ o
    go (off o) = ap (λ (f : Fed). is_over f.carried) (open_end c o)

-- ---- a text cut anywhere

then_fed-assoc : (x y z : Fed) → then_fed x (then_fed y z) ≡ then_fed (then_fed x y) z
then_fed-assoc x y z =
    λ t.
    fed_with z.carried (sym (append_assoc x.commands y.commands z.commands) t)
    (sym (append_assoc x.times y.times z.times) t)

pub feed_joined : (c : Carried) (bs cs : List ℕ) → feed c (bs ++ cs) ≡ then_fed (feed c bs) (feed (feed c bs).carried cs)
unfolding feed
feed_joined c [] cs = refl
feed_joined c (b ∷ bs) cs =
    let x = take_byte c b in
    let y = feed x.carried bs in
    ap (then_fed x) (feed_joined x.carried bs cs) ∙ then_fed-assoc x y (feed y.carried cs)

feed_all_lem : (c : Carried) (chunks : List (List ℕ)) → feed_all c chunks ≡ feed c (whole_text chunks)
unfolding feed_all feed joined
feed_all_lem c [] = refl
feed_all_lem c (bs ∷ rest) =
    ap (then_fed (feed c bs)) (feed_all_lem (feed c bs).carried rest) ∙ sym (feed_joined c bs (whole_text rest))

pub cut_anywhere : CutAnywhere
unfolding feed
cut_anywhere c = (refl, feed_all_lem c)

-- ---- what is carried of a word

kept_after_lem : (v w : List ℕ) (b : ℕ) → kept_after v (w ++ (b ∷ [])) ≡ kept_with (kept_after v w) b
unfolding kept_after
kept_after_lem v [] b = refl
kept_after_lem v (x ∷ w) b = kept_after_lem (kept_with v x) w b

pub kept_next : (w : List ℕ) (b : ℕ) → kept (w ++ (b ∷ [])) ≡ kept_with (kept w) b
kept_next w b = kept_after_lem [] w b

some_last : (w : List ℕ) (b : ℕ) → is_empty (w ++ (b ∷ [])) ≡ false
some_last [] b = refl
some_last (x ∷ w) b = refl

either : (x : Bool) (v w : List ℕ) → is_empty v ≡ false → is_empty w ≡ false → is_empty (cond x v w) ≡ false
either true v w p q = p
either false v w p q = q

some_kept : (w : List ℕ) (b : ℕ) → is_empty (kept_with w b) ≡ false
unfolding kept_with
some_kept [] b = refl
some_kept (x ∷ w) b =
    let v = x ∷ w in
    let last = some_last (take 255 v) b in
    let bits = is_bit b && (is_definite (bit_of b) || not (is_vector v)) in
    let held = either (is_binary x) (held_bits v b) (held_digits v b) (either bits v (ending_in v b) refl last)
    (either (is_digit b) v (ending_in v b) refl last) in
    let zeros = (x ∷ drop 2 v) ++ (b ∷ []) in
    let full = cond (is_binary x) (held_bits v b) (held_digits v b) in
    either (ltb (length v) most_kept) (v ++ (b ∷ [])) (cond (leads_zero v) zeros full) refl (either (leads_zero v) zeros full refl held)

some_after : (v w : List ℕ) → is_empty v ≡ false → is_empty (kept_after v w) ≡ false
unfolding kept_after
some_after v [] e = e
some_after v (b ∷ w) e = some_after (kept_with v b) w (some_kept v b)

-- none of a word exactly if it has none
kept_some : (w : List ℕ) → is_empty (kept w) ≡ is_empty w
unfolding kept_after
kept_some [] = refl
kept_some (b ∷ w) = some_after (kept_with [] b) w (some_kept [] b)

-- ---- the word under way

-- what the bytes w, which end before an offset, do there
ended : Reader → ℕ → List ℕ → Read
ended r at [] = only r
ended r at (b ∷ bs) = read_word r (word_with (at - length (b ∷ bs)) (b ∷ bs))

words_closed : (p : Progress) (at : ℕ) (w : List ℕ) (ws : List Word) →
    read_words p (closed at w ws) ≡ read_words (advance p.commands (ended p.reader at w)) ws
unfolding read_words ended
words_closed p at [] ws = ap (λ (q : Progress). read_words q ws) (sym (advance_only p))
words_closed p at (b ∷ bs) ws = refl

times_closed : (r : Reader) (at : ℕ) (w : List ℕ) (ws : List Word) →
    times_from r (closed at w ws) ≡ times_at r (ended r at w) ++ times_from (ended r at w).reader ws
unfolding times_from ended commands_of
times_closed r at [] ws = refl
times_closed r at (b ∷ bs) ws = refl

-- ---- what was fed

-- With the word under way ended, it is the reading of the words ws from r on; n bytes were taken unless there was a fault.
record Reads (f : Fed) (r : Reader) (n : ℕ) (ws : List Word) : Type 0 where
  whole : advance f.commands (closing f.carried) ≡ read_words (progress r []) ws
  times : f.times ++ times_at f.carried.reader (closing f.carried) ≡ times_from r ws
  going : f.carried.ended ≡ false
  taken : is_good f.carried.reader ≡ true → f.carried.taken ≡ n

-- a reader with a fault ends no word
bad_closing : (c : Carried) → is_good c.reader ≡ false → closing c ≡ only c.reader
unfolding closing
bad_closing c bad = go (is_empty c.word) (bad_word c.reader (word_with c.from c.word) bad)
  where
    go : (x : Bool) {a : Read} → a ≡ only c.reader → cond x (only c.reader) a ≡ only c.reader
    go true e = refl
    go false e = e

bad_reads : (c : Carried) (bs : List ℕ) (n : ℕ) (ws : List Word) → is_good c.reader ≡ false → c.ended ≡ false →
    Reads (feed c bs) c.reader n ws
unfolding commands_of
bad_reads c bs n ws bad e =
    let r = c.reader in
    subst (λ (f : Fed). Reads f r n ws) (sym (over_feed c bs (or_in_r c.ended (not_in bad))))
    (record {
      whole = ap (advance []) (bad_closing c bad) ∙ advance_only (progress r []) ∙ sym (bad_words (progress r []) ws bad);
      times = ap (times_at r) (bad_closing c bad) ∙ sym (bad_times r ws bad);
      going = e;
      taken = λ g. clash g bad;
    })

-- a word that ends before what was fed
reads_closed : (r : Reader) (at : ℕ) (w : List ℕ) (f : Fed) (n : ℕ) (ws : List Word) (c : Carried) →
    Reads f (ended r at w).reader n ws → Reads (then_fed (gives r (ended r at w) c) f) r n (closed at w ws)
unfolding advance
reads_closed r at w f n ws c h =
    let a = ended r at w in
    let given = commands_of a.strobe in
    let last = closing f.carried in
    let behind = times_at f.carried.reader last in
    record {
      whole =
          ap (progress last.reader) (append_assoc given f.commands (commands_of last.strobe)) ∙
          ap (λ (p : Progress). progress p.reader (given ++ p.commands)) h.whole ∙
          sym (read_words-commands a.reader given ws) ∙ sym (words_closed (progress r []) at w ws);
      times =
          append_assoc (times_at r a) f.times behind ∙ ap (λ (l : List ℕ). times_at r a ++ l) h.times ∙
          sym (times_closed r at w ws);
      going = h.going;
      taken = h.taken;
    }

-- ---- the words of the bytes fed

-- Where the bytes w under way begin, if there are any.
abbrev Begins : ℕ → ℕ → List ℕ → Type 0
Begins at from w = cond (is_empty w) at from + length w ≡ at

-- What is carried with the bytes w under way.
abbrev carrying : Reader → ℕ → ℕ → List ℕ → Carried
carrying r at from w = carried_with r at from (kept w) false

begins_next : (at from : ℕ) (w : List ℕ) (b : ℕ) → Begins at from w → Begins (suc at) (cond (is_empty (kept w)) at from) (w ++ (b ∷ []))
begins_next at from w b e =
    rw (some_last w b, kept_some w) (omega (arith, e, length-append w (b ∷ [])))

module _ (same : KeptMeansSame) where
  closing_ended : (r : Reader) (at from : ℕ) (w : List ℕ) → Begins at from w → closing (carrying r at from w) ≡ ended r at w
  unfolding closing ended kept_after
  closing_ended r at from [] e = refl
  closing_ended r at from (b ∷ bs) e =
      ap (λ (x : Bool). cond x (only r) (read_word r (word_with from (kept (b ∷ bs))))) (kept_some (b ∷ bs)) ∙ same r from (b ∷ bs) ∙
      ap (λ (n : ℕ). read_word r (word_with n (b ∷ bs))) (omega (arith, e))

  -- one more byte
  module _ (r : Reader) (at from : ℕ) (w : List ℕ) (b : ℕ) (g : is_good r ≡ true) (fits : ltb at most_bytes ≡ true) where
    at_separator : Begins at from w → separator b ≡ true →
        take_byte (carrying r at from w) b ≡
        gives r (ended r at w) (between (ended r at w).reader (place_in (ended r at w).reader (suc at)))
    unfolding take_byte kept_after
    at_separator e s =
        rw (g, fits, s)
        (ap (λ (x : Read). gives r x (between x.reader (place_in x.reader (suc at)))) (closing_ended r at from w e))

    at_byte : separator b ≡ false →
        take_byte (carrying r at from w) b ≡ nothing_fed (carrying r (suc at) (cond (is_empty (kept w)) at from) (w ++ (b ∷ [])))
    unfolding take_byte
    at_byte s =
        rw (g, fits, s)
        (ap (λ (v : List ℕ). nothing_fed (carried_with r (suc at) (cond (is_empty (kept w)) at from) v false)) (sym (kept_next w b)))

  fed_reads : (bs : List ℕ) (r : Reader) (at from : ℕ) (w : List ℕ) (n : ℕ) → Begins at from w → at + length bs ≡ n → n ≤ most_bytes →
      Reads (feed (carrying r at from w) bs) r n (cut at w bs)
  unfolding feed cut read_words times_from kept_after
  fed_reads [] r at from w n e l m =
      let c = closing_ended r at from w e in
      record {
        whole = ap (advance []) c ∙ sym (words_closed (progress r []) at w []);
        times = ap (times_at r) c ∙ sym (append-nil (times_at r (ended r at w))) ∙ sym (times_closed r at w []);
        going = refl;
        taken = λ _. omega (arith, l);
      }
  fed_reads (b ∷ bs) r at from w n e l m = go (flag (is_good r)) (flag (separator b))
      (fed_reads bs a.reader (suc at) (suc at) [] n (omega arith) (omega (arith, l)) m)
      (fed_reads bs r (suc at) (cond (is_empty (kept w)) at from) (w ++ (b ∷ [])) n (begins_next at from w b e) (omega (arith, l)) m)
    where
      a : Read
      a = ended r at w

      c : Carried
      c = carrying r at from w

      parted : Carried
      parted = between a.reader (place_in a.reader (suc at))

      -- by what is read from the next byte on; with a fault nothing is
      parted_reads : Flag (is_good a.reader) → Reads (feed (between a.reader (suc at)) bs) a.reader n (cut (suc at) [] bs) →
          Reads (feed parted bs) a.reader n (cut (suc at) [] bs)
      parted_reads (on g) p = rw g p
      parted_reads (off bad) p = bad_reads parted bs n (cut (suc at) [] bs) bad refl

      longer : Carried
      longer = carrying r (suc at) (cond (is_empty (kept w)) at from) (w ++ (b ∷ []))

      fits : ltb at most_bytes ≡ true
      fits = lt-ltb at most_bytes (omega (arith, l))

      go : Flag (is_good r) → Flag (separator b) → Reads (feed (between a.reader (suc at)) bs) a.reader n (cut (suc at) [] bs) →
          Reads (feed longer bs) r n (cut (suc at) (w ++ (b ∷ [])) bs) → Reads (feed c (b ∷ bs)) r n (cut at w (b ∷ bs))
      go (off bad) s p q = bad_reads c (b ∷ bs) n (cut at w (b ∷ bs)) bad refl
      go (on g) (on s) p q =
          rw (at_separator r at from w b g fits e s, s)
          (reads_closed r at w (feed parted bs) n (cut (suc at) [] bs) parted (parted_reads (flag (is_good a.reader)) p))
      go (on g) (off s) p q = rw (at_byte r at from w b g fits s, s) q

-- ---- the end

-- What was fed, with the end, says what a text of n bytes with the words ws does.
abbrev Says : Fed → ℕ → List Word → Type 0
Says f n ws =
    let p = read_words (progress start []) ws in
    (told_by f ≡ answered n (finished n p)) × (f.times ≡ times_from start ws ++ times_at p.reader (finish n p.reader))

module _ (f : Fed) (n : ℕ) (ws : List Word) (h : Reads f start n ws) where
  bad_says : is_good f.carried.reader ≡ false → Says (then_fed f (end_text f.carried)) n ws
  unfolding advance commands_of
  bad_says bad =
      let c = f.carried in
      let none = bad_closing c bad in
      let p : Progress = progress c.reader (f.commands ++ []) in
      let at_last : p ≡ read_words (progress start []) ws = ap (advance f.commands) (sym none) ∙ h.whole in
      let last : f.times ++ [] ≡ times_from start ws
      = ap (λ (a : Read). f.times ++ times_at c.reader a) (sym none) ∙ h.times in
      subst (λ (g : Fed). Says g n ws) (ap (then_fed f) (sym (over_end c (or_in_r c.ended (not_in bad))))) (
        rw bad (sym (bad_answered n p bad)) ∙ ap (answered n) (sym (bad_finished n p bad)) ∙
            ap (λ (q : Progress). answered n (finished n q)) at_last,
        last ∙ sym (append-nil (times_from start ws)) ∙
            ap (λ (a : Read). times_from start ws ++ times_at c.reader a) (sym (bad_finish n c.reader bad)) ∙
            ap (λ (q : Progress). times_from start ws ++ times_at q.reader (finish n q.reader)) at_last,
      )

  good_says : is_good f.carried.reader ≡ true → Says (then_fed f (end_text f.carried)) n ws
  unfolding answered finished advance
  good_says good =
      let c = f.carried in
      let a = closing c in
      let ending : ℕ → Fed = λ k. gives a.reader (finish k a.reader) (carried_with (finish k a.reader).reader k k [] true) in
      let open-now : is_over c ≡ false = rw (h.going, good) in
      let all : then_fed (then_fed f (gives c.reader a c)) (ending n) ≡ then_fed f (end_text c)
      = sym (ap (then_fed f) (open_end c open-now) ∙ then_fed-assoc f (gives c.reader a c) (ending c.taken) ∙
      ap (λ (k : ℕ). then_fed (then_fed f (gives c.reader a c)) (ending k)) (h.taken good)) in
      subst (λ (g : Fed). Says g n ws) all (
        ap (λ (q : Progress). answered n (finished n q)) h.whole,
        ap (λ (l : List ℕ). l ++ times_at a.reader (finish n a.reader)) h.times ∙
            ap (λ (q : Progress). times_from start ws ++ times_at q.reader (finish n q.reader)) h.whole,
      )

  says : Says (then_fed f (end_text f.carried)) n ws
  says = go (flag (is_good f.carried.reader))
    where
      go : Flag (is_good f.carried.reader) → Says (then_fed f (end_text f.carried)) n ws
      go (on good) = good_says good
      go (off bad) = bad_says bad

pub chunks_are_one : ChunksAreOne
unfolding chunked reading times_of kept_after
chunks_are_one chunks l =
    let t = whole_text chunks in
    subst (λ (f : Fed). Says (then_fed f (end_text f.carried)) (length t) (words t)) (sym (feed_all_lem begun chunks))
    (says (feed begun t) (length t) (words t) (fed_reads kept_means_same t start 0 0 [] (length t) refl (omega arith) (omega (arith, l))))
