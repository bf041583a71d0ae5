-- Marks over a row of keys. Assumes nothing.
--   marks_fewer                         the marks of a longer row
--   Marking, marking_none, -on, -off    marks while they are made: of no key, and of the next one, a candidate's or not
use Prim.Native.Nat.{ℕ, suc, ◌+◌, ◌<◌, ◌≤◌}
use mathlib.Core.Path.{◌≡◌, refl, ◌∙◌}
use mathlib.Core.List.{List}
use lib.ListN.{length, get_or, set, length-set}
use lib.Seq.{get_or-set_same, get_or-set_other}
use native.Mathlib.Omega.{arith}
use native.Mathlib.Numerals.{add-one}
use native.Mathlib.Decide.{ℕ_discrete}
use borrow.Author.Tests.{lt-ltb, le-ltb}
use Rattle.lists.specs.Walks.{tally}
use Rattle.lists.proofs.Tallies.{tally_on, tally_off, tally_le}
use Rattle.arbitration.specs.Marks.{ranked, MarksOf}

-- ---- marks while they are made

pub marks_fewer : {ks ms : List ℕ} {n i : ℕ} → MarksOf ks i ms → n ≤ i → MarksOf ks n ms
marks_fewer m h = record { room = omega (arith, m.room); before = λ j g. m.before j (omega arith) }

pub record Marking (ks ms : List ℕ) (before i : ℕ) : Type 0 where
  pub counted : before ≡ tally i (ranked ks)
  pub marked : MarksOf ks i ms

pub marking_none : (ks ms : List ℕ) → 0 < length ms → Marking ks (set ms 0 0) 0 0
unfolding tally
marking_none ks ms h =
    record {
      counted = refl;
      marked = record {
        room = omega (arith, length-set ms 0 0);
        before = λ i g. let z : i ≡ 0 = omega arith in rw z (get_or-set_same ms 0 0 0 h);
      };
    }

module _ {ks ms : List ℕ} {before i : ℕ} (r : Marking ks ms before i) (h : i + 1 < length ms) where
  -- the mark behind the key at i
  marking_more : (v : ℕ) → v ≡ tally (suc i) (ranked ks) → Marking ks (set ms (i + 1) v) v (i + 1)
  marking_more v e =
      record {
        counted = rw add-one e;
        marked = record {
          room = omega (arith, length-set ms (i + 1) v);
          before = λ j g. go j g (ℕ_discrete j (i + 1));
        };
      }
    where
      go : (j : ℕ) → j ≤ i + 1 → Dec (j ≡ i + 1) → get_or (set ms (i + 1) v) j 0 ≡ tally j (ranked ks)
      go j g (yes p) = rw (p, get_or-set_same ms (i + 1) v 0 h, add-one i) e
      go j g (no p) = get_or-set_other ms (i + 1) j v 0 p ∙ r.marked.before j (omega arith)

  pub marking_fits : before ≤ i
  marking_fits = omega (arith, r.counted, tally_le (ranked ks) i)

  pub marking_on : 0 < get_or ks i 0 → Marking ks (set ms (i + 1) (before + 1)) (before + 1) (i + 1)
  marking_on p = marking_more (before + 1) (omega (arith, r.counted, tally_on (ranked ks) i (lt-ltb 0 (get_or ks i 0) p)))

  pub marking_off : get_or ks i 0 ≤ 0 → Marking ks (set ms (i + 1) before) before (i + 1)
  marking_off p = marking_more before (omega (arith, r.counted, tally_off (ranked ks) i (le-ltb 0 (get_or ks i 0) p)))
