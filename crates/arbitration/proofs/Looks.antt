-- The search that skips ranges without a candidate: what a look into a range learns from looks into its halves. Assumes nothing.
--   highest_none, highest_some     in a range without a candidate the tree answers its start, in another a candidate
--   look_one                       a range of one key
--   Halved                         a range of at least two, cut in two
--   only_right, first, second      what is asked of a look into a half: the right one alone; the left one, and then the right one
--   skipped_left, skipped_right    a half without a candidate is skipped
--   both_right, both_left          both halves are looked into
--   search_none, search_some       a row without a candidate, and another; `search_asked` is what is asked of the look into it
--   searched_by_keys               keys that are the sources' ranks: the highest source, and the ranges with a candidate
use Prim.Native.Nat.{ℕ, zero, suc, ◌+◌, ◌-◌, ◌/◌, ◌<◌, ◌≤◌}
use Rattle.std.proofs.Common.{Option, Some, None}
use mathlib.Core.Path.{◌≡◌, refl, sym, ap, ◌∙◌}
use mathlib.Core.List.{List}
use mathlib.Core.Bool.{true, false}
use native.Mathlib.Omega.{arith}
use native.Mathlib.Decide.{dec_le}
use lib.ListN.{length, get_or}
use lib.Dec.{ltb}
use borrow.Author.Tests.{ltb-true, ltb-false, lt-ltb, le-ltb}
use Rattle.lists.specs.Walks.{tally, left_half, within, occupied}
use Rattle.model.specs.declared.Source.{Source}
use Rattle.model.specs.Records.{max_sources, no_source}
use Rattle.model.specs.Requests.{candidate}
use Rattle.model.specs.Arbitration.{rank, highest, candidate_at, ranges_with}
use Rattle.lists.proofs.Bools.{clash, refuted, Flag, on, off, flag}
use Rattle.lists.proofs.Walks.{Witness, some_out}
use Rattle.lists.proofs.Tallies.{within_in, within_rise, level_within, rise_within}
use Rattle.lists.proofs.Ranges.{occupied_single, occupied_node, occupied_none, occupied_size, occupied_cong}
use Rattle.lists.proofs.Winner.{FirstIn, none_above}
use Rattle.arbitration.specs.Keys.{key_above, HighestKey}
use Rattle.arbitration.specs.declared.search.Looked.{Looked}
use Rattle.arbitration.specs.Marks.{ranked, MarksOf, Lookable, LookedInto, place_of, looks_of, Searched}
use Rattle.arbitration.proofs.Keys.{above_order, at_most_one, first_in, highest_key, highest_inside, Beside, beside}
use Rattle.arbitration.proofs.Marking.{marks_fewer}
use Rattle.arbitration.proofs.ByKeys.{RanksOf, highest_by_keys}

-- ---- candidates and the highest key

module _ (ks : List ℕ) (lo len : ℕ) where
  key_none : within (ranked ks) (lo, len) ≡ false → (i : ℕ) → lo ≤ i → i < lo + len → get_or ks i 0 ≡ 0
  key_none e i h g =
      let off : ranked ks i ≡ false = refuted (ranked ks i) (λ p. clash (within_in (ranked ks) lo len i h g p) e) in
      omega (arith, ltb-false 0 (get_or ks i 0) off)

  highest_none : within (ranked ks) (lo, len) ≡ false → HighestKey ks lo len lo
  highest_none e = go (dec_le len 1)
    where
      go : Dec (len ≤ 1) → HighestKey ks lo len lo
      go (yes h) = at_most_one ks lo len h
      go (no h) =
          highest_key ks lo len lo
          (record {
            from = omega arith;
            inside = omega arith;
            before = λ j g u. absurd (omega arith);
            after = λ j g u. le-ltb (get_or ks lo 0) (get_or ks j 0) (omega (arith, key_none e j g u));
          })

  highest_some : within (ranked ks) (lo, len) ≡ true → (r : ℕ) → HighestKey ks lo len r → 0 < get_or ks r 0
  highest_some e r highest =
      let w : Witness len (λ j. ranked ks (lo + j)) = some_out len (λ j. ranked ks (lo + j)) e in
      let f : FirstIn (key_above ks) lo len r = first_in ks lo len r (omega (arith, w.below)) highest in
      let i : ℕ = lo + w.at in
      let top : key_above ks i r ≡ false = none_above (key_above ks) (above_order ks) lo len r f i (omega arith) (omega (arith, w.below)) in
      omega (arith, ltb-true 0 (get_or ks i 0) w.holds, ltb-false (get_or ks r 0) (get_or ks i 0) top)

-- ---- one range

-- the answer lies in the range, which has fewer than two ranges for each key
looked_into : (ks : List ℕ) (lo len : ℕ) (r : Looked) → 1 ≤ len → HighestKey ks lo len r.at → r.ranges ≡ occupied (ranked ks) lo len → LookedInto ks lo len r
looked_into ks lo len r h highest counted =
    record {
      highest = highest;
      counted = counted;
      inside = highest_inside ks lo len r.at h highest;
      few = omega (arith, occupied_size (ranked ks) lo len h);
    }

module _ {ks ms : List ℕ} {lo len : ℕ} (p : Lookable ks ms lo len) where
  -- a range with a candidate raises the marks
  marks_rise : get_or ms lo 0 < get_or ms (lo + len) 0
  marks_rise =
      omega (
        arith,
        within_rise (ranked ks) lo len p.held,
        p.marked.before lo (omega arith),
        p.marked.before (lo + len) (omega arith),
      )

  not_empty : 1 ≤ len
  not_empty = go len refl
    where
      go : (k : ℕ) → len ≡ k → 1 ≤ len
      go zero e =
          let same : lo + len ≡ lo = omega arith in
          absurd (omega (arith, marks_rise, ap (λ (i : ℕ). get_or ms i 0) same))
      go (suc k) e = omega arith

  pub look_one : len ≡ 1 → LookedInto ks lo len (record { at = lo; ranges = 1 })
  look_one e =
      let held : within (ranked ks) (lo, 1) ≡ true = rw e at p.held in
      looked_into ks lo len (record { at = lo; ranges = 1 }) (omega arith) (at_most_one ks lo len (omega arith)) (rw (e, occupied_single (ranked ks) lo held))

-- ---- two halves

-- a range of at least two, cut in two, with a keys in its left half
pub record Halved (ks ms : List ℕ) (lo len a : ℕ) : Type 0 where
  pub asked : Lookable ks ms lo len
  pub some_left : 1 ≤ a
  pub some_right : a < len

pub halved : {ks ms : List ℕ} {lo len a : ℕ} → Lookable ks ms lo len → (len ≡ 1 → ⊥) → (2 ≤ len → (1 ≤ a) × (a < len)) → Halved ks ms lo len a
halved asked several cut =
    let both = cut (omega (arith, not_empty asked, several)) in
    record { asked = asked; some_left = both.0; some_right = both.1 }

module _ {ks ms : List ℕ} {lo len a : ℕ} (p : Halved ks ms lo len a) where
  abbrev mid : ℕ
  mid = lo + a

  abbrev rest : ℕ
  rest = len - a

  -- the marks at the left half's ends, and at the right half's
  left_marks : (get_or ms lo 0 ≡ tally lo (ranked ks)) × (get_or ms mid 0 ≡ tally mid (ranked ks))
  left_marks = (p.asked.marked.before lo (omega arith), p.asked.marked.before mid (omega arith))

  right_marks : (get_or ms mid 0 ≡ tally mid (ranked ks)) × (get_or ms (lo + len) 0 ≡ tally (mid + rest) (ranked ks))
  right_marks =
      let end : lo + len ≡ mid + rest = omega arith in
      (left_marks.1, p.asked.marked.before (lo + len) (omega arith) ∙ ap (λ (i : ℕ). tally i (ranked ks)) end)

  half_asked : (from size : ℕ) → from + size ≤ lo + len → within (ranked ks) (from, size) ≡ true → Lookable ks ms from size
  half_asked from size g held = record { inside = omega (arith, p.asked.inside); size = p.asked.size; marked = marks_fewer p.asked.marked g; held = held }

  pub only_right : get_or ms lo 0 ≡ get_or ms mid 0 → Lookable ks ms mid rest
  only_right e =
      let rises : get_or ms lo 0 < get_or ms (lo + len) 0 = marks_rise p.asked in
      half_asked mid rest (omega arith) (rise_within (ranked ks) mid rest (λ u. omega (arith, right_marks)))

  pub first : (get_or ms lo 0 ≡ get_or ms mid 0 → ⊥) → Lookable ks ms lo a
  first d = half_asked lo a (omega arith) (rise_within (ranked ks) lo a (λ u. d (omega (arith, left_marks))))

  pub second : (get_or ms mid 0 ≡ get_or ms (lo + len) 0 → ⊥) → Lookable ks ms mid rest
  second d = half_asked mid rest (omega arith) (rise_within (ranked ks) mid rest (λ u. d (omega (arith, right_marks))))

  halves : {x y : ℕ} → HighestKey ks lo a x → HighestKey ks mid rest y → Beside ks lo len x y
  halves {x} {y} f g = beside ks lo a rest len x y (omega arith) (omega arith) (omega arith) f g

  -- the ranges are counted of the tree, whose left half is the larger one
  module _ (cut : a ≡ left_half len) where
    node_count : occupied (ranked ks) lo len ≡ 1 + (occupied (ranked ks) lo a + occupied (ranked ks) mid rest)
    node_count =
        let right : rest ≡ len / 2 = omega arith in
        rw (right, cut) (occupied_node (ranked ks) lo len (omega arith) p.asked.held)

    pub skipped_left :
        {r : Looked} → get_or ms lo 0 ≡ get_or ms mid 0 → LookedInto ks mid rest r →
        LookedInto ks lo len (record { at = r.at; ranges = r.ranges + 1 })
    skipped_left {r} e found =
        let none : within (ranked ks) (lo, a) ≡ false = level_within (ranked ks) lo a (omega (arith, left_marks)) in
        let zero_there : get_or ks lo 0 ≡ 0 = key_none ks lo a none lo (omega arith) (omega arith) in
        let above : 0 < get_or ks r.at 0 = highest_some ks mid rest (only_right e).held r.at found.highest in
        looked_into ks lo len (record { at = r.at; ranges = r.ranges + 1 }) (omega arith)
        ((halves (highest_none ks lo a none) found.highest).right (omega arith))
        (omega (arith, found.counted, node_count, occupied_none (ranked ks) lo a none))

    pub skipped_right :
        {r : Looked} → get_or ms mid 0 ≡ get_or ms (lo + len) 0 → LookedInto ks lo a r →
        LookedInto ks lo len (record { at = r.at; ranges = r.ranges + 1 })
    skipped_right {r} e found =
        let none : within (ranked ks) (mid, rest) ≡ false = level_within (ranked ks) mid rest (omega (arith, right_marks)) in
        let zero_there : get_or ks mid 0 ≡ 0 = key_none ks mid rest none mid (omega arith) (omega arith) in
        looked_into ks lo len (record { at = r.at; ranges = r.ranges + 1 }) (omega arith)
        ((halves found.highest (highest_none ks mid rest none)).left (omega arith))
        (omega (arith, found.counted, node_count, occupied_none (ranked ks) mid rest none))

    module _ {x y : Looked} (f : LookedInto ks lo a x) (g : LookedInto ks mid rest y) where
      both_counted : x.ranges + y.ranges + 1 ≡ occupied (ranked ks) lo len
      both_counted = omega (arith, f.counted, g.counted, node_count)

      pub both_right :
          get_or ks x.at 0 < get_or ks y.at 0 → LookedInto ks lo len (record { at = y.at; ranges = x.ranges + y.ranges + 1 })
      both_right u = looked_into ks lo len _ (omega arith) ((halves f.highest g.highest).right u) both_counted

      pub both_left :
          get_or ks y.at 0 ≤ get_or ks x.at 0 → LookedInto ks lo len (record { at = x.at; ranges = x.ranges + y.ranges + 1 })
      both_left u = looked_into ks lo len _ (omega arith) ((halves f.highest g.highest).left u) both_counted

-- ---- the whole search

module _ {ks ms : List ℕ} {n : ℕ} (m : MarksOf ks n ms) where
  -- the mark behind the last key counts the candidates of the whole row
  last_mark : get_or ms n 0 ≡ tally (0 + n) (ranked ks)
  last_mark = m.before n (omega arith) ∙ ap (λ (i : ℕ). tally i (ranked ks)) (omega arith)

  pub search_none : get_or ms n 0 ≡ 0 → Searched ks n None
  unfolding tally
  search_none e =
      let none : within (ranked ks) (0, n) ≡ false = level_within (ranked ks) 0 n (omega (arith, last_mark)) in
      record { highest = highest_none ks 0 n none; counted = omega (arith, occupied_none (ranked ks) 0 n none); held = sym none }

  pub row_held : (get_or ms n 0 ≡ 0 → ⊥) → within (ranked ks) (0, n) ≡ true
  unfolding tally
  row_held d = rise_within (ranked ks) 0 n (λ u. d (omega (arith, last_mark)))

  pub search_asked : n ≤ length ks → length ks ≤ max_sources → (get_or ms n 0 ≡ 0 → ⊥) → Lookable ks ms 0 n
  search_asked h g d = record { inside = omega arith; size = g; marked = marks_fewer m (omega arith); held = row_held d }

  pub search_some : {r : Looked} → (get_or ms n 0 ≡ 0 → ⊥) → LookedInto ks 0 n r → Searched ks n (Some r)
  search_some d f = record { highest = f.highest; counted = f.counted; held = sym (row_held d) }

-- ---- keys read off the records

-- a source's rank is above 0 exactly if it is a candidate
ranked_candidate : (r : Source) → ltb 0 (rank r) ≡ candidate r
ranked_candidate r = go (flag (candidate r))
  where
    go : Flag (candidate r) → ltb 0 (rank r) ≡ candidate r
    go (on e) = rw e (lt-ltb 0 (suc r.priority) (omega arith))
    go (off e) = rw e

pub searched_by_keys :
    (l : List Source) (n : ℕ) (ks : List ℕ) → RanksOf l n ks → (r : Option Looked) → Searched ks n r →
    (place_of r ≡ highest l n) × (looks_of r ≡ ranges_with l n)
unfolding ranges_with
searched_by_keys l n ks same r found = (
  highest_by_keys l n ks same (place_of r) found.highest,
  found.counted ∙
      occupied_cong (ranked ks) (candidate_at l) 0 n
      (λ i h g. ap (ltb 0) (same i (omega arith)) ∙ ranked_candidate (get_or l i no_source)),
)
