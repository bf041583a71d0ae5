-- The passes together, and the verdicts of a survey. Assumes nothing.
--   consistent_passes       with sizes in range, a state is consistent just if both passes succeed
--   survey_refused          the survey of a state that isn't consistent
--   survey_unsound          the same where the pass over the cores fails
--   survey_passes           the survey of a state whose cores are sound, from the two passes
--   greatest_le, greatest_lt, lowest_le, lowest_gt    the greatest and the least of a row
--   verdict                 and whether it is well formed: it is consistent and clean, nothing is above the least current priority, and
--   well_formed_is          every covered priority is below every box's
use Prim.Native.Nat.{ℕ, zero, suc, ◌<◌, ◌≤◌, min, max}
use mathlib.Core.Path.{◌≡◌, refl, sym, ◌∙◌, ap₂}
use mathlib.Core.Bool.{Bool, true, false, not, cond, ◌&&◌, ◌||◌}
use lib.ListN.{length}
use Rattle.std.specs.Prelude.{Option, Some, None}
use Rattle.std.proofs.lemmas.Option.{none-some, same_Some}
use lib.Dec.{leb, ltb}
use native.Mathlib.Omega.{arith}
use native.Mathlib.Decide.{ℕ_discrete}
use borrow.Author.Tests.{le-leb}
use Rattle.model.specs.declared.Controller.{Controller}
use Rattle.model.specs.Records.{max_sources, max_cores, core_at}
use Rattle.model.specs.Priorities.{top_priority}
use Rattle.model.specs.WellFormed.{consistent, Consistent, boxes_clean, candidates_settled, covered_settled, quiet, Frugal, frugal, well_formed}
use Rattle.model.specs.Statements.{InRange}
use Rattle.lists.specs.Walks.{every}
use Rattle.lists.proofs.Bools.{Flag, on, off, flag}
use Rattle.model.proofs.Priorities.{top_lt}
use Rattle.well_formed.specs.declared.Survey.{Survey}
use Rattle.well_formed.specs.Survey.{unboxed, greatest, lowest, covered_priority, boxed_priority, shown, survey_of}
use Rattle.well_formed.specs.Loops.{cores_sound, cores_to, cores_survey, both_sound, sources_survey}
use Rattle.lists.proofs.Exact.{◌and◌, leb_exact, ltb_exact, agree}
use Rattle.well_formed.proofs.Test.{sources_apart, consistent_exact, frugal_exact}
use Rattle.well_formed.proofs.Fits.{SourcesSound, sources_sound_exact}
use Rattle.well_formed.proofs.Cores.{CoresSound, cores_sound_exact}

-- ---- the two passes

module _ (s : Controller) where
  cores_out : Consistent s → CoresSound s
  cores_out c = (
    λ k h.
        record {
          fits = record { configured = c.configured_core k h; empty = c.unfilled_box k h };
          backed = c.backed k h;
          apart = λ j g q. omega (arith, c.distinct j k (omega arith) h q.left q.right q.source);
        },
    λ k h g. c.spare_core k g h,
  )

  sources_out : Consistent s → SourcesSound s.sources s.n (top_priority s.n)
  sources_out c = (
    λ i h. record { configured = c.configured_source i h; request = c.request_range i h; idle = c.idle_source i h },
    λ i h g. c.spare_source i g h,
  )

  module _ (r : InRange s.n s.m) (lengths : (length s.sources ≡ max_sources) × (length s.cores ≡ max_cores)) where
    consistent_in : CoresSound s → SourcesSound s.sources s.n (top_priority s.n) → Consistent s
    consistent_in (cores, spare-cores) (sources, spare-sources) =
        record {
          some_source = r.some_source;
          n_le = r.n_le;
          some_core = r.some_core;
          m_le = r.m_le;
          sources_length = lengths.0;
          cores_length = lengths.1;
          configured_source = λ i h. (sources i h).configured;
          request_range = λ i h. (sources i h).request;
          idle_source = λ i h. (sources i h).idle;
          configured_core = λ k h. (cores k h).fits.configured;
          unfilled_box = λ k h. (cores k h).fits.empty;
          spare_source = λ i h g. spare-sources i g h;
          spare_core = λ k h g. spare-cores k g h;
          backed = λ k h. (cores k h).backed;
          distinct = λ j k g h p q f.
              (sources_apart s).0 (λ k h. (cores k h).apart) j k g h (record { left = p; right = q; source = f });
        }

    pub consistent_passes : consistent s ≡ both_sound s
    consistent_passes =
        agree (consistent_exact s) (cores_sound_exact s and sources_sound_exact s.sources s.n (top_priority s.n))
        (λ c. (cores_out c, sources_out c)) (λ p. consistent_in p.0 p.1)

  -- ---- the surveys

  pub survey_refused : consistent s ≡ false → None ≡ survey_of s
  unfolding survey_of
  survey_refused e = rw e

  module _ (e : consistent s ≡ both_sound s) where
    pub survey_unsound : None ≡ cores_survey s → None ≡ survey_of s
    unfolding cores_survey
    survey_unsound p = go (cores_sound s) refl p
      where
        go : (b : Bool) → cores_sound s ≡ b → None ≡ cond b (Some (cores_to s.cores s.m)) None → None ≡ survey_of s
        go true q r = absurd (none-some _ r)
        go false q r = survey_refused (e ∙ rw q)

    pub survey_passes : {v : Survey} → Some v ≡ cores_survey s → sources_survey v s.sources s.n (top_priority s.n) ≡ survey_of s
    unfolding survey_of cores_survey sources_survey boxes_clean
    survey_passes {v} p = go (cores_sound s) refl p
      where
        go : (b : Bool) → cores_sound s ≡ b → Some v ≡ cond b (Some (cores_to s.cores s.m)) None →
            sources_survey v s.sources s.n (top_priority s.n) ≡ survey_of s
        go true q r = rw (same_Some _ _ r, e, q)
        go false q r = absurd (none-some _ (sym r))

-- ---- a well-formed state's

leb_max : (a b p : ℕ) → leb (max a b) p ≡ leb a p && leb b p
leb_max a b p =
    agree (leb_exact (max a b) p) (leb_exact a p and leb_exact b p) (λ h. (omega arith, omega arith)) (λ (f, g). omega arith)

-- no number is above a bound that the greatest isn't above
every_le : (n : ℕ) (f : ℕ → ℕ) (p : ℕ) → every n (λ i. leb (f i) p) ≡ leb (greatest n f) p
unfolding every greatest
every_le zero f p = sym (le-leb 0 p (omega arith))
every_le (suc k) f p = rw (every_le k f p, leb_max (greatest k f) (f k) p)

if_any : (a : Bool) (x p : ℕ) → not a || leb x p ≡ leb (cond a x 0) p
if_any true x p = refl
if_any false x p = sym (le-leb 0 p (omega arith))

abbrev settled : Survey → Bool
settled v = leb v.waiting v.lowest && leb v.covered v.lowest

-- what the survey says of whether the state is well formed
abbrev pub verdict : Option Survey → Bool
verdict None = false
verdict (Some v) = v.clean && settled v && ltb v.covered v.boxed

-- ---- the greatest and the least of a row

pub greatest_le : (n : ℕ) (f : ℕ → ℕ) (i : ℕ) → i < n → f i ≤ greatest n f
unfolding greatest
greatest_le zero f i h = absurd (omega arith)
greatest_le (suc k) f i h = go (ℕ_discrete i k) (greatest_le k f i)
  where
    go : Dec (i ≡ k) → (i < k → f i ≤ greatest k f) → f i ≤ max (greatest k f) (f k)
    go (yes e) rest = rw e (omega arith)
    go (no d) rest = omega (arith, rest (omega arith))

pub greatest_lt : (n : ℕ) (f : ℕ → ℕ) (x : ℕ) → 0 < x → ((i : ℕ) → i < n → f i < x) → greatest n f < x
unfolding greatest
greatest_lt zero f x p h = p
greatest_lt (suc k) f x p h = omega (arith, greatest_lt k f x p (λ i q. h i (omega arith)), h k (omega arith))

lowest_le : (n : ℕ) (f : ℕ → ℕ) (i : ℕ) → i < n → lowest n f ≤ f i
unfolding lowest
lowest_le zero f i h = absurd (omega arith)
lowest_le (suc k) f i h = go (ℕ_discrete i k) (lowest_le k f i)
  where
    go : Dec (i ≡ k) → (i < k → lowest k f ≤ f i) → min (lowest k f) (f k) ≤ f i
    go (yes e) rest = rw e (omega arith)
    go (no d) rest = omega (arith, rest (omega arith))

lowest_gt : (n : ℕ) (f : ℕ → ℕ) (x : ℕ) → x < unboxed → ((i : ℕ) → i < n → x < f i) → x < lowest n f
unfolding lowest
lowest_gt zero f x p h = p
lowest_gt (suc k) f x p h = omega (arith, lowest_gt k f x p (λ i q. h i (omega arith)), h k (omega arith))

-- ---- the last layer, of a consistent state

module _ (s : Controller) (c : Consistent s) where
  abbrev covered : ℕ → ℕ
  covered k = covered_priority (core_at s k)

  abbrev boxed : ℕ → ℕ
  boxed k = boxed_priority (core_at s k)

  small : (k : ℕ) → k < s.m → (core_at s k).configured < unboxed
  small k h =
      omega (arith, c.configured_core k h, top_lt s.n c.some_source (omega (arith, c.n_le)), c.n_le)

  -- each covered priority is below each box's
  apart : Frugal s → (j k : ℕ) → j < s.m → k < s.m → covered j < boxed k
  apart f j k p q = go (flag (core_at s j).message.filled) (flag (core_at s k).message.filled)
    where
      go : Flag (core_at s j).message.filled → Flag (core_at s k).message.filled → covered j < boxed k
      go (on u) (on v) = rw (u, v) (f j k p q u v)
      go (on u) (off v) = rw (u, v) (small j p)
      go (off u) (on v) = rw (u, v) (omega (arith, f k k q q v v))
      go (off u) (off v) = rw (u, v) (omega arith)

  frugal_in : Frugal s → greatest s.m covered < lowest s.m boxed
  frugal_in f = lowest_gt s.m boxed (greatest s.m covered)
      (greatest_lt s.m covered unboxed (omega arith) (λ j p. under j p))
      (λ k q. greatest_lt s.m covered (boxed k) (positive k q) (λ j p. apart f j k p q))
    where
      under : (j : ℕ) → j < s.m → covered j < unboxed
      under j p = go (flag (core_at s j).message.filled)
        where
          go : Flag (core_at s j).message.filled → covered j < unboxed
          go (on u) = rw u (small j p)
          go (off u) = rw u (omega arith)

      positive : (k : ℕ) → k < s.m → 0 < boxed k
      positive k q = omega (arith, apart f k k q q)

  frugal_out : greatest s.m covered < lowest s.m boxed → Frugal s
  frugal_out h j k p q u v =
      let low : (core_at s j).configured ≤ greatest s.m covered = rw u at (greatest_le s.m covered j p) in
      let high : lowest s.m boxed ≤ (core_at s k).message.priority = rw v at (lowest_le s.m boxed k q) in
      omega arith

  frugal_is : frugal s ≡ ltb (greatest s.m covered) (lowest s.m boxed)
  frugal_is = agree (frugal_exact s) (ltb_exact _ _) frugal_in frugal_out

module _ (s : Controller) where
  quiet_is : quiet s ≡ settled (shown s)
  unfolding quiet candidates_settled covered_settled
  quiet_is = simp (if_any, every_le)

  pub well_formed_is : well_formed s ≡ verdict (survey_of s)
  unfolding survey_of well_formed
  well_formed_is = go (consistent s) refl
    where
      go :
          (b : Bool) → consistent s ≡ b → b && boxes_clean s && quiet s && frugal s ≡ verdict (cond b (Some (shown s)) None)
      go true e = ap₂ (λ (q f : Bool). boxes_clean s && q && f) quiet_is (frugal_is s ((consistent_exact s).0 e))
      go false e = refl
