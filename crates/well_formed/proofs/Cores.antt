-- One core in the pass over the cores: what is asked of it, and the same from the loop's tests. Assumes nothing.
--   CoreNames, core_fits_exact         what `core_in_range` tests
--   Backs, backs_exact                 what `is_backed` tests
--   CoreSound s k, core_sound_exact    what is asked of core k, beside the cores before it
--   cores_sound_exact                  the same of all cores, and the spare ones are reset
--   spares_refused, core_refused       the pass's survey where a spare core isn't reset, and where one in use isn't sound
--   cores_passed                       and where all hold
--   filled_sound, empty_sound          from the tests that a core passed, with a filled box and with an empty one
--   names_out, backed_out              the tests of a sound core succeed
use Prim.Native.Nat.{ℕ, pred, ◌-◌, ◌<◌, ◌≤◌}
use mathlib.Core.Path.{◌≡◌, sym, ◌∙◌, ap}
use mathlib.Core.Logic.Iff
use mathlib.Core.List.{List}
use mathlib.Core.Bool.{Bool, true, false, and-false}
use native.Mathlib.Omega.{arith}
use lib.ListN.{get_or}
use Rattle.std.specs.Prelude.{Some, None}
use Rattle.model.specs.declared.Source.{Source}
use Rattle.model.specs.declared.Core.{Core}
use Rattle.model.specs.declared.Controller.{Controller}
use Rattle.model.specs.Records.{max_cores, no_source, no_core, reset_core, source_at, core_at}
use Rattle.model.specs.Priorities.{top_priority}
use Rattle.model.specs.Requests.{boxed}
use Rattle.model.specs.WellFormed.{Holding}
use Rattle.lists.specs.Walks.{every}
use Rattle.lists.proofs.Bools.{clash}
use Rattle.model.proofs.Boxes.{holds_in, unboxed_out}
use Rattle.well_formed.specs.Loops.{core_fits, backs, core_sound, spare_core, cores_sound, cores_to, cores_survey}
use Rattle.lists.proofs.Exact.{Exact, ◌and◌, flag_exact, eqb_exact, ltb_exact, between_exact, unless_exact, implies_exact, refuted_exact}
use Rattle.lists.proofs.Exact.{from_exact, every_exact, refused}
use Rattle.well_formed.proofs.Clauses.{CoreFits, core_exact, reset_core_exact, backed_exact, SameSource, same_source_exact}

-- the core is in range, and a filled box names one of n sources
abbrev pub CoreNames : ℕ → ℕ → Core → Type 0
CoreNames n top c = CoreFits top c × (c.message.filled ≡ true → (1 ≤ c.message.source.0) × (c.message.source.0 ≤ n))

pub core_fits_exact : (n top : ℕ) (c : Core) → Exact (core_fits n top c) (CoreNames n top c)
unfolding core_fits
core_fits_exact n top c =
    core_exact top c and implies_exact c.message.filled (between_exact 1 n c.message.source.0)

abbrev pub Backs : Core → Source → Type 0
Backs c r =
    (((r.pending ≡ true) × (r.delivered ≡ true)) × (r.priority ≡ c.message.priority)) ×
    (c.message.dirty ≡ false → c.configured < c.message.priority)

pub backs_exact : (c : Core) (r : Source) → Exact (backs c r) (Backs c r)
unfolding backs
backs_exact c r =
    flag_exact r.pending and
    flag_exact r.delivered and
    eqb_exact r.priority c.message.priority and
    unless_exact c.message.dirty (ltb_exact c.configured c.message.priority)

-- ---- what is asked

pub record CoreSound (s : Controller) (k : ℕ) : Type 0 where
  pub fits : CoreFits (top_priority s.n) (core_at s k)
  pub backed : (core_at s k).message.filled ≡ true → Holding s (core_at s k)
  pub apart : (j : ℕ) → j < k → ¬ SameSource (core_at s j) (core_at s k)

core_sound_exact : (s : Controller) (k : ℕ) → Exact (core_sound s k) (CoreSound s k)
core_sound_exact s k =
    Iff.trans
    (core_exact (top_priority s.n) (core_at s k) and
    backed_exact s (core_at s k) and every_exact k (λ j. refuted_exact (same_source_exact (core_at s j) (core_at s k))))
    (λ ((f, b), a). record { fits = f; backed = b; apart = a }, λ o. ((o.fits, o.backed), o.apart))

pub spare_cores_exact : (l : List Core) (m : ℕ) →
    Exact (every max_cores (spare_core l m)) ((k : ℕ) → k < max_cores → m ≤ k → get_or l k no_core ≡ reset_core)
spare_cores_exact l m = every_exact max_cores (λ k. from_exact k m (reset_core_exact (get_or l k no_core)))

-- every core in use is sound, and the spare ones are reset
abbrev pub CoresSound : Controller → Type 0
CoresSound s =
    ((k : ℕ) → k < s.m → CoreSound s k) × ((k : ℕ) → k < max_cores → s.m ≤ k → core_at s k ≡ reset_core)

pub cores_sound_exact : (s : Controller) → Exact (cores_sound s) (CoresSound s)
unfolding cores_sound
cores_sound_exact s = every_exact s.m (core_sound_exact s) and spare_cores_exact s.cores s.m

module _ (s : Controller) where
  pub spares_refused : every max_cores (spare_core s.cores s.m) ≡ false → None ≡ cores_survey s
  unfolding cores_survey cores_sound
  spares_refused e = rw (e, and-false)

  pub core_refused : (k : ℕ) → k < s.m → ¬ CoreSound s k → None ≡ cores_survey s
  unfolding cores_survey
  core_refused k h r = rw (sym (refused (cores_sound_exact s) (λ p. r (p.0 k h))))

  pub cores_passed :
      ((k : ℕ) → k < s.m → CoreSound s k) → every max_cores (spare_core s.cores s.m) ≡ true → Some (cores_to s.cores s.m) ≡ cores_survey s
  unfolding cores_survey cores_sound
  cores_passed p q = rw ((every_exact s.m (core_sound_exact s)).1 p, q)

-- ---- from the loop's tests

module _ (s : Controller) (k : ℕ) where
  abbrev pub id_at : ℕ
  id_at = (core_at s k).message.source.0

  -- what `is_backed` tests of the box of core k, at its source's index
  abbrev pub backed_at : Bool
  backed_at = backs (core_at s k) (get_or s.sources (id_at - 1) no_source)

  same_index : pred id_at ≡ id_at - 1
  same_index = omega arith

  same_source : backed_at ≡ backs (core_at s k) (source_at s (pred id_at))
  same_source = ap (λ (i : ℕ). backs (core_at s k) (get_or s.sources i no_source)) (sym same_index)

  pub backed_out : CoreSound s k → (core_at s k).message.filled ≡ true → backed_at ≡ true
  backed_out o e =
      let b = o.backed e in
      same_source ∙
      (backs_exact (core_at s k) (source_at s (pred id_at))).1 (((b.pending, b.delivered), b.same_priority), b.above)

  pub names_out : CoreSound s k → CoreNames s.n (top_priority s.n) (core_at s k)
  names_out o = (o.fits, λ e. ((o.backed e).some_id, (o.backed e).id_le))

  module _ (f : CoreNames s.n (top_priority s.n) (core_at s k)) where
    pub filled_sound : (core_at s k).message.filled ≡ true → boxed s.cores k id_at ≡ false → backed_at ≡ true → CoreSound s k
    filled_sound e u b =
        let (some_id, id_le) = f.1 e in
        let (((pending, delivered), priority), above) = (backs_exact (core_at s k) (source_at s (pred id_at))).0 (sym same_source ∙ b) in
        record {
          fits = f.0;
          backed = λ g.
              record {
                some_id = some_id;
                id_le = id_le;
                pending = pending;
                delivered = delivered;
                same_priority = priority;
                above = above;
              };
          apart = λ j h g. clash (holds_in id_at (core_at s j) g.left g.source) (unboxed_out s.cores k id_at u j h);
        }

    pub empty_sound : (core_at s k).message.filled ≡ false → CoreSound s k
    empty_sound e =
        record { fits = f.0; backed = λ g. clash g e; apart = λ j h g. clash g.right e }
