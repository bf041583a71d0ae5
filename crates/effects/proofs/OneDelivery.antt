-- A command on a source settles with one delivery at most, that of its own request (`OneDelivery`): no other candidate is above a core,
-- and what it evicts is at most as high as every core after it. Assumes nothing.
--   Others e i            no candidate but that of source i + 1 is above a core
--   once                  settling such a state
use Prim.Native.Nat.{ℕ, zero, suc, ◌*◌, ◌<◌, ◌≤◌}
use mathlib.Core.Path.{◌≡◌, refl, ◌∙◌}
use mathlib.Core.Logic.{◌≢◌}
use mathlib.Core.Bool.{true, false}
use lib.ListN.{length}
use borrow.Author.Tests.{ltb-true, lt-ltb}
use native.Mathlib.Nat.{le_trans, le_of_lt}
use native.Mathlib.Omega.{arith}
use native.Mathlib.Decide.{ℕ_discrete, dec_lt}
use Rattle.model.specs.declared.Controller.{Controller}
use Rattle.model.specs.declared.Command.TheVariants.{OnSource}
use Rattle.model.specs.declared.Cycle.TheVariants.{Rest, Deliver}
use Rattle.model.specs.Records.{no_source, source_id, core_id, index_of, source_at, core_at, answer}
use Rattle.model.specs.Requests.{current_priority, candidate}
use Rattle.model.specs.WellFormed.{Consistent, NoneAbove}
use Rattle.model.specs.Settling.{deliver, interrupted_by, arbitrate, next, settle, cycles_of, is_retraction, is_delivery}
use Rattle.model.specs.Commands.{effect, answered_id, settled, source_after}
use Rattle.model.specs.Statements.{delivered_once, OneDelivery}
use Rattle.lists.proofs.Bools.{and_in, and_l, and_r, clash, Flag, on, off, flag}
use Rattle.lists.proofs.Writes.{read_set}
use Rattle.arbitration.proofs.Tree.{highest_below, highest_ge}
use Rattle.arbitration.proofs.LeastCore.{least_below, least_le}
use Rattle.settling.specs.Phases.{Delivering}
use Rattle.settling.proofs.Keeps.{deliver_keeps, kept_n, kept_m, kept_priority}
use Rattle.settling.proofs.Writes.{core_deliver_other}
use Rattle.settling.proofs.Arbitrated.{Arbitrated, CandidateBefore, stayed, evicted}
use Rattle.settling.proofs.Deliver.{deliver_consistent, deliver_delivering, deliver_current_same, deliver_candidate, deliver_undelivers}
use Rattle.settling.proofs.Next.{Contest, top_source, low_core, next_clean}
use Rattle.settling.proofs.Run.{settle_rest, cycles_of-rest, settle_step, count_step}
use Rattle.effects.proofs.Accepted.{execute_accepted}
use Rattle.effects.proofs.Checked.{accepted, named_index}
use Rattle.effects.proofs.Effects.{effect_begins}
use Rattle.effects.proofs.AtRest.{still}

abbrev Others : Controller → ℕ → Type 0
Others e i =
    (j k : ℕ) → j < e.n → k < e.m → j ≢ i → candidate (source_at e j) ≡ true → (source_at e j).priority ≤ current_priority (core_at e k)

module _ (e : Controller) (c : Consistent e) (d : Delivering e) (i : ℕ) (i_lt : i < e.n) (others : Others e i) where
  abbrev low : ℕ
  low = low_core e

  abbrev above : Type 0
  above = interrupted_by (core_at e low) (source_at e i) ≡ true

  low_in : low < e.m
  low_in = least_below e.cores e.m c.some_core

  -- ---- the request is above no core

  calm : interrupted_by (core_at e low) (source_at e i) ≡ false → NoneAbove e
  calm none j k h h' cand = go (ℕ_discrete j i)
    where
      own : candidate (source_at e i) ≡ true → (source_at e i).priority ≤ current_priority (core_at e low)
      own q = bound (dec_lt (current_priority (core_at e low)) (source_at e i).priority)
        where
          bound :
              Dec (current_priority (core_at e low) < (source_at e i).priority) → (source_at e i).priority ≤ current_priority (core_at e low)
          bound (yes p) = clash (and_in q (lt-ltb _ _ p)) none
          bound (no p) = omega arith

      go : Dec (j ≡ i) → (source_at e j).priority ≤ current_priority (core_at e k)
      go (yes p) = rw p (le_trans (own (rw p at cand)) (least_le e.cores e.m k h'))
      go (no p) = others j k h h' p cand

  -- ---- it is above the least core

  module _ (wins : above) where
    is_candidate : candidate (source_at e i) ≡ true
    is_candidate = and_l (candidate (source_at e i)) _ wins

    over : current_priority (core_at e low) < (source_at e i).priority
    over = ltb-true _ _ (and_r (candidate (source_at e i)) _ wins)

    highest_is : top_source e ≡ i
    highest_is = go (ℕ_discrete (top_source e) i) (highest_ge e.sources e.n i i_lt is_candidate)
      where
        go :
            Dec (top_source e ≡ i) →
            (candidate (source_at e (top_source e)) ≡ true) × ((source_at e i).priority ≤ (source_at e (top_source e)).priority) →
            top_source e ≡ i
        go (yes p) h = p
        go (no p) (cand, le) =
            absurd (omega (arith, over, others (top_source e) low (highest_below e.sources e.n c.some_source) low_in p cand))

    won : Contest e i low
    won =
        record {
          source_in = i_lt;
          is_candidate = is_candidate;
          highest = highest;
          core_in = low_in;
          least = least_le e.cores e.m;
          above = over;
        }
      where
        highest : (j : ℕ) → j < e.n → candidate (source_at e j) ≡ true → (source_at e j).priority ≤ (source_at e i).priority
        highest j h cand = go (ℕ_discrete j i)
          where
            go : Dec (j ≡ i) → (source_at e j).priority ≤ (source_at e i).priority
            go (yes p) = rw p (omega arith)
            go (no p) = omega (arith, over, others j low h low_in p cand)

    arbitrated : Arbitrated e i low
    arbitrated = record { consistent = c; delivering = d; won = won }

    next_is : next e ≡ Deliver (source_id (suc i)) (core_id low)
    unfolding arbitrate
    next_is = next_clean e d.clean ∙ rw (highest_is, wins)

    abbrev after : Controller
    after = deliver e i low

    -- every core is at least as high as before
    raised : (k : ℕ) → current_priority (core_at e k) ≤ current_priority (core_at after k)
    raised k = go (ℕ_discrete k low)
      where
        go : Dec (k ≡ low) → current_priority (core_at e k) ≤ current_priority (core_at after k)
        go (yes p) = rw (p, deliver_current_same arbitrated) (le_of_lt over)
        go (no p) = rw (core_deliver_other e i low k p) (omega arith)

    rested : NoneAbove after
    rested j k h h' cand = go (deliver_candidate arbitrated j j_in cand) (ℕ_discrete j i)
      where
        j_in : j < e.n
        j_in = omega (arith, kept_n e after (deliver_keeps e i low))

        k_in : k < e.m
        k_in = omega (arith, kept_m e after (deliver_keeps e i low))

        same : (source_at after j).priority ≡ (source_at e j).priority
        same = kept_priority e after (deliver_keeps e i low) j

        go : CandidateBefore e low j → Dec (j ≡ i) → (source_at after j).priority ≤ current_priority (core_at after k)
        go b (yes p) = clash (rw p at cand) (deliver_undelivers arbitrated)
        go (stayed u) (no p) = omega (arith, same, raised k, others j k j_in k_in p u)
        go (evicted u) (no p) = omega (arith, same, raised k, u, least_le e.cores e.m k k_in)

    after_rests : next after ≡ Rest
    after_rests = still after (deliver_consistent arbitrated) (deliver_delivering arbitrated) rested

    one_more : (f : ℕ) → settle (suc f) e ≡ after
    one_more f = settle_step e (Deliver (source_id (suc i)) (core_id low)) next_is f ∙ settle_rest after after_rests f

    one_counted : (f : ℕ) → cycles_of (suc f) e ≡ 1
    unfolding cycles_of
    one_counted f =
        omega (
          arith,
          count_step e (Deliver (source_id (suc i)) (core_id low)) next_is is_retraction f,
          count_step e (Deliver (source_id (suc i)) (core_id low)) next_is is_delivery f,
          cycles_of-rest after after_rests f,
        )

  pub once : settled e 0 ≡ delivered_once e i
  unfolding settled
  once = go (flag (interrupted_by (core_at e low) (source_at e i))) (2 * e.m) refl
    where
      go :
          Flag (interrupted_by (core_at e low) (source_at e i)) → (f : ℕ) → 2 * e.m ≡ f →
          answer (settle f e) 0 0 (cycles_of f e) ≡ delivered_once e i
      go (on p) (suc f) q = rw (p, one_more p f, one_counted p f)
      go (on p) zero q = absurd (omega (arith, c.some_core))
      go (off p) f q = rw (p, settle_rest e (still e c d (calm p)) f, cycles_of-rest e (still e c d (calm p)) f)

pub one_delivery : OneDelivery
unfolding effect answered_id
one_delivery s id a r =
    let (w, (h, g)) = accepted s (OnSource id a) r in
    let i_lt : index_of id < s.n = named_index s id h in
    let begun = effect_begins s w (OnSource id a) (h, g) in
    let fits : index_of id < length s.sources = omega (arith, w.consistent.sources_length, w.consistent.n_le) in
    let others : Others (effect s (OnSource id a)) (index_of id) =
    λ j k j-lt k_lt p. read_set (λ q. candidate q ≡ true → q.priority ≤ current_priority (core_at s k)) s.sources (index_of id) j
    (source_after a (source_at s (index_of id))) no_source fits (λ e. absurd (p e)) (λ q. w.quiet.candidates_below j k j-lt k_lt) in
    execute_accepted s (OnSource id a) r ∙
    once (effect s (OnSource id a)) begun.consistent (record { clean = w.clean; covered = w.quiet.covered_below }) (index_of id) i_lt
    others
