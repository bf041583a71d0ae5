-- The first of the least cores and of the highest candidates, by numbers that hold key and place. Assumes nothing.
--   least_told                      the least number of the cores tells the least core and its current priority
--   Told, highest_told              the greatest number of the sources tells whether the highest candidate interrupts a core, and which
--                                   it is
use Prim.Native.Nat.{ℕ, ◌+◌, ◌*◌, ◌-◌, ◌%◌, ◌<◌, ◌≤◌}
use mathlib.Core.Path.{◌≡◌, sym, subst, ◌∙◌}
use mathlib.Core.List.{List}
use mathlib.Core.Bool.{true, false}
use native.Mathlib.Omega.{arith}
use borrow.Author.Tests.{lt-ltb, le-ltb}
use lib.ListN.{get_or}
use Rattle.lists.specs.Rows.{FilledBy}
use Rattle.lists.proofs.Bools.{and_in, refuted, Flag, on, off, flag}
use Rattle.lists.proofs.Winner.{FirstIn, first_unique}
use Rattle.model.specs.declared.Source.{Source}
use Rattle.model.specs.declared.Core.{Core}
use Rattle.model.specs.Records.{max_sources, max_cores, no_source, no_core}
use Rattle.model.specs.Requests.{current_priority, candidate}
use Rattle.model.specs.Arbitration.{rank, higher, highest, core_key, lower, least}
use Rattle.model.specs.Settling.{interrupted_by}
use Rattle.model.proofs.Candidates.{rank_candidate, rank_none}
use Rattle.arbitration.specs.Places.{rank_step, key_at, rank_at, core_of, current_of, source_of, priority_of, LowestOf}
use Rattle.arbitration.specs.Places.{GreatestOf}
use Rattle.arbitration.proofs.Tree.{highest_first, highest_below}
use Rattle.arbitration.proofs.LeastCore.{least_first}

-- ---- the least core

key_parts : (c : Core) → (2 * current_priority c ≤ core_key c) × (core_key c ≤ 2 * current_priority c + 1)
key_parts c = go (flag c.message.filled)
  where
    go : Flag c.message.filled → (2 * current_priority c ≤ core_key c) × (core_key c ≤ 2 * current_priority c + 1)
    go (on f) = rw f (omega arith, omega arith)
    go (off f) = rw f (omega arith, omega arith)

module _ (l : List Core) (m : ℕ) (ks : List ℕ) {x : ℕ} (m_le : m ≤ max_cores) (filled : FilledBy key_at no_core l m ks) (o : LowestOf ks m x)
  where
    abbrev key : ℕ → ℕ
    key j = core_key (get_or l j no_core)

    number : x ≡ max_cores * key o.at + o.at
    number = sym o.there ∙ filled o.at o.inside

    at_least : (j : ℕ) → j < m → x ≤ max_cores * key j + j
    at_least j h = omega (arith, o.related j h, filled j h)

    first : FirstIn (lower l) 0 m o.at
    first =
        record {
          from = omega arith;
          inside = omega (arith, o.inside);
          before = λ j h g. lt-ltb (key o.at) (key j) (omega (arith, number, at_least j (omega (arith, o.inside)), o.inside, m_le));
          after = λ j h g. le-ltb (key j) (key o.at) (omega (arith, number, at_least j (omega arith), o.inside, m_le));
        }

    is_least : o.at ≡ least l m
    is_least = first_unique (lower l) 0 m o.at (least l m) first (least_first l m (omega (arith, o.inside)))

    current_there : current_of x ≡ current_priority (get_or l o.at no_core)
    current_there = omega (arith, key_parts (get_or l o.at no_core), number, o.inside, m_le)

    pub least_told : (core_of x ≡ least l m) × (current_of x ≡ current_priority (get_or l (least l m) no_core))
    least_told = (
      omega (arith, is_least, number, o.inside, m_le),
      subst (λ (j : ℕ). current_of x ≡ current_priority (get_or l j no_core)) is_least current_there,
    )

-- ---- the highest candidate

-- What the number x tells of the highest of n sources: that it doesn't interrupt a core, or that it does, and which it is.
pub record Told (l : List Source) (n x : ℕ) : Type 0 where
  pub rests : (c : Core) → priority_of x ≤ current_priority c → interrupted_by c (get_or l (highest l n) no_source) ≡ false
  pub interrupts : (c : Core) → current_priority c < priority_of x → interrupted_by c (get_or l (highest l n) no_source) ≡ true
  pub which : 0 < priority_of x → source_of x ≡ highest l n
  pub fits : x % rank_step ≤ max_sources

module _ (l : List Source) (n : ℕ) (ks : List ℕ) {x : ℕ} (n_le : n ≤ max_sources) (filled : FilledBy rank_at no_source l n ks)
    (o : GreatestOf ks n x) where
  abbrev source : ℕ → Source
  source j = get_or l j no_source

  abbrev top : Source
  top = source (highest l n)

  number_on : (j : ℕ) → j < n → candidate (source j) ≡ true → get_or ks j 0 ≡ rank_step * (source j).priority + (max_sources - j)
  number_on j h e = filled j h ∙ rw e

  number_off : (j : ℕ) → j < n → candidate (source j) ≡ false → get_or ks j 0 ≡ 0
  number_off j h e = filled j h ∙ rw e

  module _ (is : candidate (source o.at) ≡ true) where
    first_candidate : FirstIn (higher l) 0 n o.at
    first_candidate =
        record {
          from = omega arith;
          inside = omega (arith, o.inside);
          before = λ j h g. before j g (flag (candidate (source j)));
          after = λ j h g. after j h (omega arith) (flag (candidate (source j)));
        }
      where
        here : get_or ks o.at 0 ≡ rank_step * (source o.at).priority + (max_sources - o.at)
        here = number_on o.at o.inside is

        -- a source that is no candidate ranks below it
        above_none : (j : ℕ) → candidate (source j) ≡ false → rank (source j) < rank (source o.at)
        above_none j e = omega (arith, rank_none (source j) e, rank_candidate (source o.at) is)

        before : (j : ℕ) → j < o.at → Flag (candidate (source j)) → higher l o.at j ≡ true
        before j h (on e) =
            let below : j < n = omega (arith, o.inside) in
            lt-ltb (rank (source j)) (rank (source o.at))
            (omega (
              arith,
              rank_candidate (source j) e,
              rank_candidate (source o.at) is,
              here,
              number_on j below e,
              o.there,
              o.related j below,
              o.inside,
              n_le,
            ))
        before j h (off e) = lt-ltb (rank (source j)) (rank (source o.at)) (above_none j e)

        after : (j : ℕ) → o.at ≤ j → j < n → Flag (candidate (source j)) → higher l j o.at ≡ false
        after j h g (on e) =
            le-ltb (rank (source o.at)) (rank (source j))
            (omega (
              arith,
              rank_candidate (source j) e,
              rank_candidate (source o.at) is,
              here,
              number_on j g e,
              o.there,
              o.related j g,
              o.inside,
              n_le,
            ))
        after j h g (off e) = le-ltb (rank (source o.at)) (rank (source j)) (omega (arith, above_none j e))

    at_is : o.at ≡ highest l n
    at_is = first_unique (higher l) 0 n o.at (highest l n) first_candidate (highest_first l n (omega (arith, o.inside)))

    top_candidate : candidate top ≡ true
    top_candidate = subst (λ (j : ℕ). candidate (source j) ≡ true) at_is is

    number_is : x ≡ rank_step * top.priority + (max_sources - highest l n)
    number_is =
        subst (λ (j : ℕ). x ≡ rank_step * (source j).priority + (max_sources - j)) at_is
        (sym o.there ∙ number_on o.at o.inside is)

    inside_top : highest l n < n
    inside_top = omega (arith, at_is, o.inside)

    told_on : Told l n x
    told_on =
        record {
          rests = λ c h. rw (top_candidate, le-ltb (current_priority c) top.priority (omega (arith, number_is, inside_top, n_le)));
          interrupts =
              λ c h.
              let above : current_priority c < top.priority = omega (arith, number_is, inside_top, n_le) in
              and_in top_candidate (lt-ltb (current_priority c) top.priority above);
          which = λ h. omega (arith, number_is, inside_top, n_le);
          fits = omega (arith, number_is, inside_top, n_le);
        }

  module _ (none : candidate (source o.at) ≡ false) where
    zero_there : x ≡ 0
    zero_there = sym o.there ∙ number_off o.at o.inside none

    top_in : highest l n < n
    top_in = highest_below l n (omega (arith, o.inside))

    top_none : candidate top ≡ false
    top_none =
        refuted (candidate top)
        (λ e. omega (arith, number_on (highest l n) top_in e, o.related (highest l n) top_in, zero_there, top_in, n_le))

    told_off : Told l n x
    told_off =
        record {
          rests = λ c h. rw top_none;
          interrupts = λ c h. absurd (omega (arith, zero_there));
          which = λ h. absurd (omega (arith, zero_there));
          fits = omega (arith, zero_there);
        }

  pub highest_told : Told l n x
  highest_told = go (flag (candidate (source o.at)))
    where
      go : Flag (candidate (source o.at)) → Told l n x
      go (on e) = told_on e
      go (off e) = told_off e
