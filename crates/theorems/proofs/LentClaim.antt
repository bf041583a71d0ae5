-- On a sound state the claim of a core's record is the command claim, with its number and id. Assumes nothing.
-- A sound state's filled boxes can be claimed: with n sources no priority reaches 4n, and 511 is the top priority of 128.
use Prim.Native.Nat.{◌<◌, ◌≤◌}
use mathlib.Core.Path.{◌≡◌, refl, sym, ap, ◌∙◌}
use mathlib.Core.Bool.{true, false, not}
use native.Mathlib.Omega.{arith}
use lib.ListN.{length}
use lib.Seq.{get_or-set_same}
use borrow.Author.Tests.{lt-ltb}
use Rattle.borrowed.proofs.Claims.{clean_only, taken_empty, taken_good}
use Rattle.model.proofs.Priorities.{top_rises}
use Rattle.model.specs.Records.{max_sources, no_core, core_at, with_core, taken}
use Rattle.model.specs.declared.CoreId.{CoreId}
use Rattle.model.specs.declared.Core.{Core}
use Rattle.model.specs.declared.Controller.{Controller}
use Rattle.model.specs.declared.Answer.{Answer}
use Rattle.model.specs.declared.Taken.{Taken}
use Rattle.model.specs.declared.Command.TheVariants.{OnCore}
use Rattle.model.specs.declared.CoreAction.TheVariants.{Claim}
use Rattle.model.specs.Priorities.{top_priority}
use Rattle.model.specs.WellFormed.{WellFormed, Holding}
use Rattle.model.specs.Commands.{claimed_core, nothing_to_claim, refusal_of, refusal, refused, execute}
use Rattle.borrowed.specs.Lent.{claimable, taken_from, LentClaimIsCommand}
use Rattle.lists.proofs.Bools.{not_in, Flag, on, off, flag}
use Rattle.well_formed.proofs.Test.{well_formed-in}
use Rattle.effects.proofs.Accepted.{execute_refused}
use Rattle.effects.proofs.AtRest.{claim_answer}
use Rattle.effects.proofs.CoreEffects.{box_range}

module _ (s : Controller) (k : CoreId) (w : WellFormed s) (k_lt : k.0 < s.m) where
  abbrev c : Core
  c = core_at s k.0

  -- what the command leaves of the core, with its number and id
  abbrev left : Answer → Taken
  left a = taken a.number a.id (core_at a.state k.0)

  -- ---- an empty box

  empty_refused : c.message.filled ≡ false → refusal s (OnCore k Claim) ≡ nothing_to_claim
  unfolding refusal refusal_of
  empty_refused e = rw (well_formed-in s w, lt-ltb k.0 s.m k_lt, e)

  empty : c.message.filled ≡ false → taken_from c ≡ left (execute s (OnCore k Claim))
  unfolding refused
  empty e =
      let number : refusal s (OnCore k Claim) ≡ nothing_to_claim = empty_refused e in
      let as-refused : execute s (OnCore k Claim) ≡ refused s (OnCore k Claim) nothing_to_claim
      = execute_refused s (OnCore k Claim) (λ z. omega arith) ∙ ap (refused s (OnCore k Claim)) number in
      sym (taken_empty c (not_in e) refl) ∙ sym (ap left as-refused)

  -- ---- a filled box

  module _ (filled : c.message.filled ≡ true) where
    can_claim : claimable c ≡ true
    can_claim =
        let b : Holding s c = w.consistent.backed k.0 k_lt filled in
        let (low, high) = box_range s w.consistent k.0 k_lt filled in
        let top : top_priority s.n ≤ top_priority max_sources
        = top_rises s.n max_sources w.consistent.some_source w.consistent.n_le (omega arith) in
        sym (clean_only c b.some_id (omega arith) low (omega arith) (b.above (w.clean k.0 k_lt))) ∙
        not_in (w.clean k.0 k_lt)

    full : taken_from c ≡ left (execute s (OnCore k Claim))
    full =
        let fits : k.0 < length s.cores = omega (arith, w.consistent.cores_length, w.consistent.m_le) in
        let there : core_at (with_core s k.0 (claimed_core c)) k.0 ≡ claimed_core c
        = get_or-set_same s.cores k.0 (claimed_core c) no_core fits in
        sym (taken_good c (ap not filled) (sym can_claim) refl refl refl) ∙
        ap (taken 0 c.message.source) (sym there) ∙ sym (ap left (claim_answer s w k k_lt filled))

  by_box : Flag c.message.filled → taken_from c ≡ left (execute s (OnCore k Claim))
  by_box (on e) = full e
  by_box (off e) = empty e

pub lent_claim_is_command : LentClaimIsCommand
lent_claim_is_command s k w h = by_box s k w h (flag (core_at s k.0).message.filled)
