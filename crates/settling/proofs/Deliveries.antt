-- The delivering phase ends. Each delivery caps the candidates at the priority delivered, and one more core reaches the cap.
-- Assumes nothing.
--   Running s p       s is in that phase, and no candidate is above the cap p
--   short s p         how many cores are below the cap: each delivery lowers it, and at 0 nothing is left to deliver
--   deliveries_end    settling ends, with at most m deliveries
use Prim.Native.Nat.{ℕ, zero, suc, ◌-◌, ◌<◌, ◌≤◌}
use mathlib.Core.Path.{◌≡◌}
use mathlib.Core.Bool.{true}
use native.Mathlib.Omega.{arith}
use native.Mathlib.Decide.{ℕ_discrete}
use Rattle.model.specs.declared.Controller.{Controller}
use Rattle.model.specs.declared.Cycle.TheVariants.{Rest, Deliver}
use Rattle.model.specs.Records.{source_id, core_id, source_at, core_at}
use Rattle.model.specs.Priorities.{top_priority}
use Rattle.model.specs.Requests.{current_priority, candidate}
use Rattle.model.specs.WellFormed.{Consistent, NoneAbove}
use Rattle.model.specs.Settling.{deliver, next}
use Rattle.lists.proofs.Bools.{clash}
use Rattle.model.proofs.Candidates.{candidate_pending}
use Rattle.lists.proofs.Counting.{reached, reached_le, reached_more}
use Rattle.settling.specs.Phases.{Delivering, Strict, Ended}
use Rattle.settling.proofs.Writes.{core_deliver_other}
use Rattle.settling.proofs.Keeps.{deliver_keeps, kept_n, kept_m, kept_priority}
use Rattle.settling.proofs.Arbitrated.{Arbitrated, CandidateBefore, stayed, evicted}
use Rattle.settling.proofs.Deliver.{deliver_consistent, deliver_current_same, deliver_delivering, deliver_claimed, deliver_candidate}
use Rattle.settling.proofs.Next.{Contest, Next, resting, retracting, arbitrating, next_cases}
use Rattle.settling.proofs.Run.{ended_here, ended_step, ended_within}

-- ---- at rest the state is sound, but for its last layer

settled_strict : {s : Controller} → Consistent s → Delivering s → NoneAbove s → Strict s
settled_strict c d st =
    record { consistent = c; clean = d.clean; quiet = record { candidates_below = st; covered_below = d.covered } }

-- ---- one delivery

abbrev current : Controller → ℕ → ℕ
current s k = current_priority (core_at s k)

abbrev Capped : Controller → ℕ → Type 0
Capped s p = (i : ℕ) → i < s.n → candidate (source_at s i) ≡ true → (source_at s i).priority ≤ p

record Running (s : Controller) (p : ℕ) : Type 0 where
  consistent : Consistent s
  delivering : Delivering s
  capped : Capped s p

abbrev short : Controller → ℕ → ℕ
short s p = s.m - reached s.m p (current s)

module _ (s : Controller) (p : ℕ) (run : Running s p) (i k : ℕ) (c : Contest s i k) where
  arbitrated : Arbitrated s i k
  arbitrated = record { consistent = run.consistent; delivering = run.delivering; won = c }

  capped_deliver : Capped (deliver s i k) (source_at s i).priority
  capped_deliver j q e = go (deliver_candidate arbitrated j below e)
    where
      below : j < s.n
      below = rw (kept_n s (deliver s i k) (deliver_keeps s i k)) at q

      go : CandidateBefore s k j → (source_at (deliver s i k) j).priority ≤ (source_at s i).priority
      go (stayed u) = omega (arith, kept_priority s (deliver s i k) (deliver_keeps s i k) j, c.highest j below u)
      go (evicted u) = omega (arith, kept_priority s (deliver s i k) (deliver_keeps s i k) j, c.above)

  -- a core at or above the old cap is at or above the priority delivered
  current_deliver : (j : ℕ) → p ≤ current s j → (source_at s i).priority ≤ current (deliver s i k) j
  current_deliver j q = go (ℕ_discrete j k)
    where
      go : Dec (j ≡ k) → (source_at s i).priority ≤ current (deliver s i k) j
      go (yes e) = rw e (omega (arith, deliver_current_same arbitrated))
      go (no e) = rw (core_deliver_other s i k j e) (omega (arith, run.capped i c.source_in c.is_candidate))

  reached_deliver : reached s.m p (current s) < reached s.m (source_at s i).priority (current (deliver s i k))
  reached_deliver =
      reached_more p (source_at s i).priority (current s) (current (deliver s i k)) s.m
      (λ j u. current_deliver j) k c.core_in
      (omega (arith, c.above, run.capped i c.source_in c.is_candidate))
      (omega (arith, deliver_current_same arbitrated))

  running_deliver : Running (deliver s i k) (source_at s i).priority
  running_deliver =
      record {
        consistent = deliver_consistent arbitrated;
        delivering = deliver_delivering arbitrated;
        capped = capped_deliver;
      }

  short_deliver : short (deliver s i k) (source_at s i).priority < short s p
  short_deliver =
      rw (kept_m s (deliver s i k) (deliver_keeps s i k))
      (omega (arith, reached_deliver, reached_le s.m (source_at s i).priority (current (deliver s i k))))

-- ---- all of them

data Move (s : Controller) (p : ℕ) : Type 0 where
  still : next s ≡ Rest → Strict s → Move s p
  moving :
      (i k : ℕ) → next s ≡ Deliver (source_id (suc i)) (core_id k) → Arbitrated s i k →
      Running (deliver s i k) (source_at s i).priority → short (deliver s i k) (source_at s i).priority < short s p → Move s p

move : (s : Controller) (p : ℕ) → Running s p → Move s p
move s p run = go (next_cases s run.consistent.some_source run.consistent.some_core)
  where
    go : Next s → Move s p
    go (resting e clean st) = still e (settled_strict run.consistent run.delivering st)
    go (retracting k e h dirty) = clash dirty (run.delivering.clean k h)
    go (arbitrating i k e clean c) =
        moving i k e (arbitrated s p run i k c) (running_deliver s p run i k c) (short_deliver s p run i k c)

running_end : (f p : ℕ) (s : Controller) → Running s p → short s p ≤ f → Ended s f 0 (short s p)
running_end zero p s run h = go (move s p run)
  where
    go : Move s p → Ended s 0 0 (short s p)
    go (still e w) = ended_within (ended_here s e w 0) 0 (short s p) (omega arith) (omega arith)
    go (moving i k e a after less) = absurd (omega arith)
running_end (suc f) p s run h = go (move s p run) (running_end f)
  where
    go :
        Move s p → ((p' : ℕ) (s' : Controller) → Running s' p' → short s' p' ≤ f → Ended s' f 0 (short s' p')) →
        Ended s (suc f) 0 (short s p)
    go (still e w) rest = ended_within (ended_here s e w (suc f)) 0 (short s p) (omega arith) (omega arith)
    go (moving i k e a after less) rest =
        ended_within
        (ended_step s (Deliver (source_id (suc i)) (core_id k)) e (kept_n s (deliver s i k) (deliver_keeps s i k)) (deliver_claimed a)
        (rest (source_at s i).priority (deliver s i k) after (omega arith)))
        0 (short s p) (omega arith) (omega arith)

-- the first cap is the top priority
pub deliveries_end : (s : Controller) → Consistent s → Delivering s → (f : ℕ) → s.m ≤ f → Ended s f 0 s.m
deliveries_end s c d f h = ended_within (running_end f top s start (omega arith)) 0 s.m (omega arith) (omega arith)
  where
    top : ℕ
    top = top_priority s.n

    start : Running s top
    start =
        record {
          consistent = c;
          delivering = d;
          capped = λ i p e. (c.request_range i p (candidate_pending (source_at s i) e)).1;
        }
