-- Of several least cores a delivery takes one whose box is filled, if there is one, so that the last layer of a sound state is kept
-- (`PhasesSpare`). The laws of settling beside this know nothing of that choice. Assumes nothing.
--   FilledFirst s k      core k's box is filled, or every filled box is above its current priority
--   next_filled_first    such a core gets the next delivery
--   deliver_frugal       and the delivery keeps the last layer
--   unfilled_frugal      with every filled box dirty and none dirty no box is filled
use Prim.Native.Nat.{ℕ, zero, suc, ◌<◌}
use mathlib.Core.Path.{◌≡◌, sym, ap, ◌∙◌}
use mathlib.Core.Bool.{true, false}
use native.Mathlib.Omega.{arith}
use native.Mathlib.Decide.{ℕ_discrete}
use Rattle.model.specs.declared.Core.{Core}
use Rattle.model.specs.declared.Controller.{Controller}
use Rattle.model.specs.declared.Cycle.{Cycle}
use Rattle.model.specs.declared.Cycle.TheVariants.{Rest, Retract, Deliver}
use Rattle.model.specs.Records.{source_id, core_id, source_at, core_at}
use Rattle.model.specs.Requests.{current_priority}
use Rattle.model.specs.WellFormed.{Consistent, Clean, Frugal}
use Rattle.model.specs.Settling.{deliver, retract, arbitrate, next, is_delivery, cycle, settle}
use Rattle.lists.proofs.Bools.{clash, Flag, on, off, flag}
use Rattle.arbitration.proofs.LeastCore.{least_filled}
use Rattle.settling.specs.Phases.{AllDirty, Delivering, Phase, retracting, delivering, Spared, PhasesSpare}
use Rattle.settling.proofs.Writes.{BoxFilled, core_deliver_same, core_deliver_other, delivered_to}
use Rattle.settling.proofs.Keeps.{deliver_keeps, kept_m}
use Rattle.settling.proofs.Arbitrated.{Arbitrated, number_in, configured_le_current}
use Rattle.settling.proofs.Deliver.{deliver_consistent, deliver_delivering}
use Rattle.settling.proofs.Retract.{retract_consistent, retract-all_dirty}
use Rattle.settling.proofs.Retractions.{clean_delivering}
use Rattle.settling.proofs.Next.{Contest, Next, resting, retracting, arbitrating, low_core, top_source, interrupts, next_cases}
use Rattle.settling.proofs.Next.{next_clean}
use Rattle.settling.proofs.Run.{cycle_is}

abbrev pub FilledFirst : Controller → ℕ → Type 0
FilledFirst s k =
    (core_at s k).message.filled ≡ false → (j : ℕ) → j < s.m → BoxFilled s j → current_priority (core_at s k) < current_priority (core_at s j)

-- ---- the core that arbitration takes

-- the core that a cycle writes
core_of : Cycle → ℕ
core_of Rest = 0
core_of (Retract k) = k.0
core_of (Deliver id k) = k.0

core_is_low : (s : Controller) (i k : ℕ) → Clean s → next s ≡ Deliver (source_id (suc i)) (core_id k) → low_core s ≡ k
unfolding arbitrate core_of
core_is_low s i k clean e = go (flag (interrupts s))
  where
    found : arbitrate s (top_source s) (low_core s) ≡ Deliver (source_id (suc i)) (core_id k)
    found = sym (next_clean s clean) ∙ e

    go : Flag (interrupts s) → low_core s ≡ k
    go (on p) = ap core_of (rw p at found)
    go (off p) = absurd (omega (arith, ap is_delivery (rw p at found)))

pub next_filled_first :
    (s : Controller) (i k : ℕ) → Clean s → next s ≡ Deliver (source_id (suc i)) (core_id k) → FilledFirst s k
next_filled_first s i k clean e =
    let first : FilledFirst s (low_core s) = λ empty j h f. least_filled s.cores s.m j h empty f in
    rw (core_is_low s i k clean e) at first

-- ---- a delivery to such a core

module _ {s : Controller} {i k : ℕ} (a : Arbitrated s i k) (first : FilledFirst s k) (f : Frugal s) where
  abbrev box : ℕ → ℕ
  box j = (core_at s j).message.priority

  box_current : (j : ℕ) → BoxFilled s j → current_priority (core_at s j) ≡ box j
  box_current j e = rw e

  -- what is under a filled box, and under core k's after the delivery, is below every other box
  covered_here : (j : ℕ) → j < s.m → BoxFilled s j → (core_at s k).configured < box j
  covered_here j h e = go (flag (core_at s k).message.filled)
    where
      go : Flag (core_at s k).message.filled → (core_at s k).configured < box j
      go (on u) = f k j a.won.core_in h u e
      go (off u) = omega (arith, configured_le_current a, first u j h e, box_current j e)

  -- and below the priority delivered
  covered_new : (j : ℕ) → j < s.m → BoxFilled s j → (core_at s j).configured < (source_at s i).priority
  covered_new j h e = omega (arith, a.delivering.covered j k h a.won.core_in e, a.won.above)

  abbrev Under : Core → Core → Type 0
  Under c d = c.message.filled ≡ true → d.message.filled ≡ true → c.configured < d.message.priority

  pub deliver_frugal : Frugal (deliver s i k)
  deliver_frugal j l h h' = go (ℕ_discrete j k) (ℕ_discrete l k)
    where
      same : (deliver s i k).m ≡ s.m
      same = kept_m s (deliver s i k) (deliver_keeps s i k)

      j_in : j < s.m
      j_in = omega (arith, same)

      l_in : l < s.m
      l_in = omega (arith, same)

      here : core_at (deliver s i k) k ≡ delivered_to s i k
      here = core_deliver_same s i k (number_in a)

      go : Dec (j ≡ k) → Dec (l ≡ k) → Under (core_at (deliver s i k) j) (core_at (deliver s i k) l)
      go (yes p) (yes q) = rw (p, q, here) (λ u v. omega (arith, configured_le_current a, a.won.above))
      go (yes p) (no q) = rw (p, here, core_deliver_other s i k l q) (λ u v. covered_here l l_in v)
      go (no p) (yes q) = rw (q, here, core_deliver_other s i k j p) (λ u v. covered_new j j_in u)
      go (no p) (no q) = rw (core_deliver_other s i k j p, core_deliver_other s i k l q) (λ u v. f j l j_in l_in u v)

-- ---- one cycle

pub unfilled_frugal : (s : Controller) → AllDirty s → Spared s
unfilled_frugal s all clean j k h h' u v = clash (all j h u) (clean j h)

-- what a run of cycles keeps
record Sparing (s : Controller) : Type 0 where
  consistent : Consistent s
  phase : Phase s
  spared : Spared s

module _ (s : Controller) (c : Consistent s) where
  delivered : (i k : ℕ) → next s ≡ Deliver (source_id (suc i)) (core_id k) → Delivering s → Spared s → Contest s i k → Sparing (deliver s i k)
  delivered i k e d spared con =
      let a : Arbitrated s i k = record { consistent = c; delivering = d; won = con } in
      record {
        consistent = deliver_consistent a;
        phase = delivering (deliver_delivering a);
        spared = λ clean. deliver_frugal a (next_filled_first s i k d.clean e) (spared d.clean);
      }

  cycle_sparing : Phase s → Spared s → Sparing (cycle s)
  cycle_sparing p spared = go (next_cases s c.some_source c.some_core) p
    where
      go : Next s → Phase s → Sparing (cycle s)
      go (resting e clean st) q = rw (cycle_is s Rest e) (record { consistent = c; phase = q; spared = spared })
      go (retracting k e h dirty) (retracting all) =
          rw (cycle_is s (Retract (core_id k)) e)
          (record {
            consistent = retract_consistent s k c h;
            phase = retracting (retract-all_dirty s k c h all);
            spared = unfilled_frugal (retract s k) (retract-all_dirty s k c h all);
          })
      go (retracting k e h dirty) (delivering d) = clash dirty (d.clean k h)
      go (arbitrating i k e clean con) (retracting all) =
          rw (cycle_is s (Deliver (source_id (suc i)) (core_id k)) e) (delivered i k e (clean_delivering all clean) spared con)
      go (arbitrating i k e clean con) (delivering d) =
          rw (cycle_is s (Deliver (source_id (suc i)) (core_id k)) e) (delivered i k e d spared con)

pub phases_spare : PhasesSpare
unfolding settle
phases_spare s c p spared zero = spared
phases_spare s c p spared (suc f) =
    let after : Sparing (cycle s) = cycle_sparing s c p spared in
    phases_spare (cycle s) after.consistent after.phase after.spared f
