-- Words that are skipped up to the next $end. Assumes nothing.
--   Reaches, reaches_more                  words up to i are passed, and none of them is $end
--   ends_here                              $end is found
--   passed_by, passed_ok                   a word after which others are skipped, up to their $end
--   reads_comment, reads_skipped           the words after which others are skipped
--   reads_end, reads_dump                  the words that end and begin a block
--   turns_by, turns_comment                these words and comments, where changes may stand
use Prim.Native.Nat.{ℕ, ◌+◌, ◌<◌, ◌≤◌}
use mathlib.Core.Path.{◌≡◌, refl, sym, ap, subst, ◌∙◌}
use mathlib.Core.List.{List, []}
use mathlib.Core.Bool.{Bool, true, false, not, ◌&&◌, cond}
use lib.ListN.{length, get_or}
use native.Mathlib.Omega.{arith}
use borrow.Author.Tests.{eq-eqb, not-true}
use Rattle.lists.proofs.Bools.{and_l, and_r, clash}
use Rattle.std.specs.Prelude.{Option, Some, None, IfSome, Result, Ok, Err, MatchResult}
use Rattle.std.specs.Result.{result_ok}
use Rattle.recording.specs.declared.Place.{Place}
use Rattle.recording.specs.declared.Place.TheVariants.{Definition, SkipDefinition, Body, SkipBody, Block}
use Rattle.recording.specs.declared.Reader.{Reader}
use Rattle.recording.specs.Words.{separator, is_text, bytes_of, word_with}
use Rattle.recording.specs.Records.{at, only}
use Rattle.recording.specs.Reading.{skipping, is_skipped, starts_time, is_dump, read_definition, read_body, read_block, read_at, read_word}
use Rattle.vcd_words.proofs.Spells.{same_eq}
use Rattle.vcd_reader.specs.Advances.{Follows}
use Rattle.vcd_reader.specs.Runs.{word_from, Skips}
use Rattle.vcd_reader.specs.Skipping.{Spelled, opens_block, Passes, PassedBy, SkipsTo, ToEnd, NoEnd, change_place, Turns}
use Rattle.vcd_reader.proofs.Follows.{follows_then, follows_skips, follows_word, word_moves}
use Rattle.vcd_reader.proofs.Reaching.{word_inside, word_starts}

-- ---- one word

module _ (r : Reader) (i : ℕ) (w : List ℕ) (good : r.fault.number ≡ 0) where
  module _ (p q : Place) (skips : SkipsTo p q) (pl : r.place ≡ p) where
    read_skipping : read_word r (word_with i w) ≡ only (skipping q r (word_with i w))
    unfolding read_word
    read_skipping =
        ap (λ (b : Bool). cond b (read_at r.place r (word_with i w)) (only r)) (eq-eqb _ _ good)
        ∙ ap (λ (x : Place). read_at x r (word_with i w)) pl ∙ skips r (word_with i w)

    read_passed : is_text "$end" w ≡ false → read_word r (word_with i w) ≡ only r
    read_passed e = read_skipping ∙ ap (λ (b : Bool). only (cond b (at q r) r)) e

    read_end : is_text "$end" w ≡ true → read_word r (word_with i w) ≡ only (at q r)
    read_end e = read_skipping ∙ ap (λ (b : Bool). only (cond b (at q r) r)) e

  pub reads_comment : r.place ≡ Body → is_text "$comment" w ≡ true → read_word r (word_with i w) ≡ only (at SkipBody r)
  unfolding read_word read_at read_body
  reads_comment pl e =
      ap (λ (x : List ℕ). read_word r (word_with i x)) (same_eq w (bytes_of "$comment") e) ∙ rw (eq-eqb _ _ good, pl)

  pub reads_skipped : r.place ≡ Definition → is_skipped w ≡ true → read_word r (word_with i w) ≡ only (at SkipDefinition r)
  unfolding read_word read_at read_definition
  reads_skipped pl e = rw (eq-eqb _ _ good, pl, e)

  pub reads_end : r.place ≡ Block → is_text "$end" w ≡ true → read_word r (word_with i w) ≡ only (at Body r)
  unfolding read_word read_at read_block
  reads_end pl e = rw (eq-eqb _ _ good, pl, e)

  pub reads_dump : r.place ≡ Body → opens_block w ≡ true → read_word r (word_with i w) ≡ only (at Block r)
  unfolding read_word read_at read_body
  reads_dump pl e =
      let no_time = and_l (not (starts_time w)) (not (is_text "$comment" w) && is_dump w) e in
      let rest = and_r (not (starts_time w)) (not (is_text "$comment" w) && is_dump w) e in
      let no-comment = and_l (not (is_text "$comment" w)) (is_dump w) rest in
      rw (
        eq-eqb _ _ good,
        pl,
        not-true (starts_time w) no_time,
        not-true (is_text "$comment" w) no-comment,
        and_r (not (is_text "$comment" w)) (is_dump w) rest,
      )

pub skips_body : (p : Place) → p ≡ SkipBody → SkipsTo p Body
unfolding read_at
skips_body p e r w = ap (λ (x : Place). read_at x r w) e

pub skips_definition : (p : Place) → p ≡ SkipDefinition → SkipsTo p Definition
unfolding read_at
skips_definition p e r w = ap (λ (x : Place). read_at x r w) e

-- ---- up to $end

module _ (t : List ℕ) (from : ℕ) where
  pub record Reaches (i : ℕ) : Type 0 where
    pub least : from ≤ i
    pub stops : i < length t → separator (get_or t i 0) ≡ false
    pub passes : (p q : Place) → SkipsTo p q → Passes p t from i

  module _ (i : ℕ) (o : Reaches i) where
    module _ (h : i < length t) where
      pub reaches_more :
          (end j : ℕ) → Spelled t i (bytes_of "$end") None → end ≡ i + length (word_from t i) → Skips t end j → Reaches j
      reaches_more end j s q k =
          record {
            least = omega (arith, o.least, word_moves t i h (o.stops h) end q, k.moves);
            stops = k.stops;
            passes = λ p to skips r pl good.
                follows_then t (o.passes p to skips r pl good)
                (follows_then t
                (follows_word t i h (o.stops h) end q r r (read_passed r i (word_from t i) good p to skips pl (sym s.found)))
                (follows_skips t end j r k));
          }

      pub ends_here : (end : ℕ) → Spelled t i (bytes_of "$end") (Some end) → ToEnd t from end
      ends_here end s =
          let moves = word_moves t i h (o.stops h) end s.end in
          record {
            least = omega (arith, o.least, moves);
            moves = λ x. omega (arith, o.least, moves);
            ends = λ p q skips r pl good.
                follows_then t (o.passes p q skips r pl good)
                (follows_word t i h (o.stops h) end s.end r (at q r)
                (read_end r i (word_from t i) good p q skips pl (sym s.found)));
          }

-- a word that passes a test has a byte
pub some_word : (test : List ℕ → Bool) (w : List ℕ) → test w ≡ true → test [] ≡ false → w ≡ [] → ⊥
some_word test w e none n = clash e (ap test n ∙ none)

-- ---- from the word after which others are skipped

module _ (t : List ℕ) (i : ℕ) (p q : Place) (skips : SkipsTo q p) (some : word_from t i ≡ [] → ⊥)
    (opens : (r : Reader) → r.place ≡ p → r.fault.number ≡ 0 → read_word r (word_with i (word_from t i)) ≡ only (at q r)) where
  pub passed_by : (end : ℕ) → end ≡ i + length (word_from t i) → (e : ℕ) → ToEnd t end e → PassedBy p t i e
  passed_by end h e k =
      let inside = word_inside t i some in
      let starts = word_starts t i some in
      record {
        inside = inside;
        moves = omega (arith, word_moves t i inside starts end h, k.least);
        passes = λ r pl good.
            follows_then t (follows_word t i inside starts end h r (at q r) (opens r pl good))
            (subst (λ (x : Reader). Follows t end (at q r) e x) (ap (λ (x : Place). at x r) (sym pl))
            (k.ends q p skips (at q r) refl good));
      }

-- the answer of a word's end and of the $end after it
pub passed_ok :
    {p : Place} {t : List ℕ} {i from : ℕ} (e : Result ℕ ℕ) {r : Option ℕ} → r ≡ result_ok e →
    MatchResult e (λ end. ToEnd t from end) (λ end. NoEnd t from end) →
    ((end : ℕ) → ToEnd t from end → PassedBy p t i end) → IfSome r (λ end. PassedBy p t i end)
passed_ok (Ok end) q k by = rw q (by end k)
passed_ok (Err end) q k by = rw q tt

-- ---- where changes may stand

module _ (t : List ℕ) (i : ℕ) (block : Bool) where
  pub turns_by :
      (end : ℕ) (next : Bool) → (word_from t i ≡ [] → ⊥) → end ≡ i + length (word_from t i) →
      ((r : Reader) → r.place ≡ change_place block → r.fault.number ≡ 0 →
      read_word r (word_with i (word_from t i)) ≡ only (at (change_place next) r)) →
      Turns t i block (record { end = end; block = next })
  turns_by end next some ends reads =
      let inside = word_inside t i some in
      let starts = word_starts t i some in
      record {
        moves = word_moves t i inside starts end ends;
        follows = λ r pl good. follows_word t i inside starts end ends r (at (change_place next) r) (reads r pl good);
      }

  pub turns_comment : block ≡ false → (end : ℕ) → PassedBy Body t i end → Turns t i block (record { end = end; block = false })
  turns_comment outside end p =
      record {
        moves = p.moves;
        follows = λ r pl good.
            let here = pl ∙ ap change_place outside in
            subst (λ (x : Reader). Follows t i r end x) (ap (λ (x : Place). at x r) here) (p.passes r here good);
      }
