-- Every command keeps the match between ledger and state (`MatchKept`): a refused one changes neither, the effect of an accepted
-- one is what the ledger is written, and settling moves nothing that the ledger has. Assumes nothing.
use Prim.Native.Nat.{ℕ, suc, pred, ◌*◌, ◌<◌}
use mathlib.Core.Path.{◌≡◌, refl, sym, ◌∙◌}
use mathlib.Core.Bool.{true, false}
use native.Mathlib.Omega.{arith}
use borrow.Author.Tests.{ne_eqb}
use Rattle.model.specs.declared.SourceId.{SourceId}
use Rattle.model.specs.declared.Source.{Source}
use Rattle.model.specs.declared.CoreId.{CoreId}
use Rattle.model.specs.declared.Core.{Core}
use Rattle.model.specs.declared.Controller.{Controller}
use Rattle.model.specs.declared.Answer.{Answer}
use Rattle.model.specs.declared.Command.{Command}
use Rattle.model.specs.declared.Command.TheVariants.{OnSource, OnCore}
use Rattle.model.specs.declared.SourceAction.TheVariants.{SetSourcePriority, Mask, Unmask, Trigger, Redeliver, Complete}
use Rattle.model.specs.declared.CoreAction.TheVariants.{SetCorePriority, Claim}
use Rattle.model.specs.Records.{source_id, source_at, core_at, with_core}
use Rattle.model.specs.Requests.{claimed}
use Rattle.model.specs.WellFormed.{WellFormed, Holding}
use Rattle.model.specs.Settling.{settle}
use Rattle.model.specs.Commands.{claimed_core, effect, refusal, answered_id, settled, after_refusal, refused}
use Rattle.model.specs.Ledger.{Ledger, post_accepted, post}
use Rattle.settling.specs.Phases.{Kept}
use Rattle.settling.proofs.Keeps.{kept_n, kept_m, kept_configured, kept_masked, kept_pending, kept_priority, kept_core_configured}
use Rattle.settling.proofs.Keeps.{settling_leaves_bare}
use Rattle.effects.proofs.Accepted.{by_answer}
use Rattle.effects.proofs.Dropped.{beside, drop_read}
use Rattle.effects.proofs.Checked.{Named, Checked, by_index, accepted}
use Rattle.model.proofs.Claims.{claimed_out}
use Rattle.effects.proofs.Kept.{execute_settles}
use Rattle.theorems.specs.Matches.{Matches, request_in, request_of, MatchKept}
use Rattle.theorems.proofs.SourceMatching.{configured_matches, mask_matches, trigger_matches, redeliver_matches, complete_matches}
use Rattle.theorems.proofs.CoreMatching.{core_priority_matches, claim_matches}

module _ (n m : ℕ) (b : Ledger) (s : Controller) (M : Matches n m b s) (W : WellFormed s) where
  -- the ledger follows the effect of a command
  abbrev Follows : Command → Type 0
  Follows c = Matches n m (post_accepted b c (answered_id s c)) (effect s c)

  -- what follows for the source at each index below n follows for the source that a command names
  at_source : (P : ℕ → Type 0) → ((i : ℕ) → i < n → P (suc i)) → (id : SourceId) → Named s id → P id.0
  at_source P each id h = by_index P (λ i q. each i (omega arith)) id.0 h

  -- claim answers the id in the box, which is that of a source
  claim_follows : (k : CoreId) → k.0 < s.m → (core_at s k.0).message.filled ≡ true → Follows (OnCore k Claim)
  unfolding post_accepted answered_id effect
  claim_follows k h filled =
      let d : Core = core_at s k.0 in
      let backed : Holding s d = W.consistent.backed k.0 h filled in
      at_source (λ x. d.message.source.0 ≡ x → Matches n m (post_accepted b (OnCore k Claim) x) (with_core s k.0 (claimed_core d)))
      (λ i q e. claim_matches n m b s M W k.0 (omega arith) i q filled e) d.message.source (backed.some_id, backed.id_le) refl

  effect_matches : (c : Command) → Checked s c → Follows c
  unfolding post_accepted answered_id effect
  effect_matches (OnSource id (SetSourcePriority p)) h =
      at_source (λ x. Follows (OnSource (source_id x) (SetSourcePriority p))) (λ i q. configured_matches n m b s M W i q p) id h.0
  effect_matches (OnSource id Mask) h =
      at_source (λ x. Follows (OnSource (source_id x) Mask)) (λ i q. mask_matches n m b s M W i q true) id h.0
  effect_matches (OnSource id Unmask) h =
      at_source (λ x. Follows (OnSource (source_id x) Unmask)) (λ i q. mask_matches n m b s M W i q false) id h.0
  effect_matches (OnCore k (SetCorePriority p)) h = core_priority_matches n m b s M W k.0 (rw (← M.m_same) h.0) p
  effect_matches (OnSource id Trigger) h = at_source (λ x. Follows (OnSource (source_id x) Trigger)) (trigger_matches n m b s M W) id h.0
  effect_matches (OnCore k Claim) h = claim_follows k h.0 h.1
  effect_matches (OnSource id Redeliver) h =
      at_source (λ x. claimed s (pred x) ≡ true → Follows (OnSource (source_id x) Redeliver))
      (λ i q e. redeliver_matches n m b s M W i q (claimed_out s i e).0) id h.0 h.1
  effect_matches (OnSource id Complete) h =
      at_source (λ x. Follows (OnSource (source_id x) Complete)) (complete_matches n m b s M W) id h.0

-- settling moves nothing that the ledger has
settle_matches :
    (n m : ℕ) (b : Ledger) (s s' : Controller) → Matches n m b s → Kept s s' → ((i : ℕ) → i < s.n → claimed s' i ≡ claimed s i) →
    Matches n m b s'
settle_matches n m b s s' M K same =
    record {
      n_same = kept_n s s' K ∙ M.n_same;
      m_same = kept_m s s' K ∙ M.m_same;
      core = λ k h. M.core k h ∙ sym (kept_core_configured s s' K k);
      configured = λ i h. M.configured i h ∙ sym (kept_configured s s' K i);
      masked = λ i h. M.masked i h ∙ sym (kept_masked s s' K i);
      request = λ i h. M.request i h ∙ request_kept i (same i (omega arith));
    }
  where
    request_kept : (i : ℕ) → claimed s' i ≡ claimed s i → request_of s i ≡ request_of s' i
    request_kept i e = rw (e, kept_pending s s' K i, kept_priority s s' K i)

-- nor does a refusal
refused_matches :
    (n m : ℕ) (b : Ledger) (s : Controller) (c : Command) (number : ℕ) → Matches n m b s → Matches n m b (after_refusal s c number)
refused_matches n m b s c number M =
    record {
      n_same = beside (λ t. t.n) s (λ l. refl) c number ∙ M.n_same;
      m_same = beside (λ t. t.m) s (λ l. refl) c number ∙ M.m_same;
      core = λ k h. M.core k h ∙ sym (beside (λ t. (core_at t k).configured) s (λ l. refl) c number);
      configured = λ i h. M.configured i h ∙ sym (drop_read (λ (r : Source). r.configured) (λ x r. refl) s c number i);
      masked = λ i h. M.masked i h ∙ sym (drop_read (λ (r : Source). r.masked) (λ x r. refl) s c number i);
      request = λ i h.
          let r = source_at (after_refusal s c number) i in
          M.request i h ∙ sym (drop_read (request_in s i) (λ x r. refl) s c number i) ∙
          sym (beside (λ t. request_in t i r) s (λ l. refl) c number);
    }

pub match_kept : MatchKept
unfolding post settled refused
match_kept n m b s c W M = by_answer s c Answered settles (λ h. rw (ne_eqb (refusal s c) 0 h) (refused_matches n m b s c (refusal s c) M))
  where
    -- what is to be shown of the answer
    Answered : Answer → Type 0
    Answered a = Matches n m (post b (record { command = c; number = a.number; id = a.id.0 })) a.state

    settles : refusal s c ≡ 0 → Answered (settled (effect s c) (answered_id s c))
    settles e =
        settle_matches n m (post_accepted b c (answered_id s c)) (effect s c) (settle (2 * (effect s c).m) (effect s c))
        (effect_matches n m b s M W c (accepted s c e).1)
        (settling_leaves_bare (2 * (effect s c).m) (effect s c))
        (execute_settles s c e).claimed_kept
