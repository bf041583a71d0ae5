-- A command on a source, on the bytes of a sound state, from what the code reads and stores. Assumes nothing.
--   bad_source, in_array         a source that there isn't; the place of one that there is
--   Judged, judged               what the checks find of the record named
--   dropped                      a trigger refused by 6: the record with one more dropped is stored
--   refused_later                a command refused by another number leaves bytes and numbers as they were
--   offered, accepted            the record stored, and its request offered: the answer is the definition's
use Prim.Native.Nat.{ℕ, ◌-◌, ◌<◌, ◌≤◌}
use mathlib.Core.Path.{◌≡◌, refl, sym, ap, ap₂, subst, ◌∙◌}
use mathlib.Core.Logic.{◌≢◌}
use mathlib.Core.List.{List}
use mathlib.Core.Bool.{Bool, true, false, not, ◌&&◌}
use lib.ListN.{set}
use lib.Seq.{sets, get_or-set_same}
use native.Mathlib.Omega.{arith}
use Rattle.std.proofs.Common.{Err}
use native.Mathlib.Numerals.{sub-one}
use Rattle.lists.specs.Numbers.{between}
use Rattle.lists.proofs.Exact.{between_exact}
use Rattle.model.specs.declared.Refusal.{Refusal}
use Rattle.model.specs.declared.Refusal.TheVariants.{BadSource, AlreadyPending}
use Rattle.model.specs.declared.SourceId.{SourceId}
use Rattle.model.specs.declared.Source.{Source}
use Rattle.model.specs.declared.Controller.{Controller}
use Rattle.model.specs.declared.Answer.{Answer}
use Rattle.model.specs.declared.Command.TheVariants.{OnSource}
use Rattle.model.specs.declared.SourceAction.{SourceAction}
use Rattle.model.specs.Records.{max_sources, no_source, index_of, dropped_one, source_at, with_source, answer}
use Rattle.model.specs.Requests.{boxed, claimed}
use Rattle.model.specs.WellFormed.{Consistent, well_formed}
use Rattle.model.specs.Commands.{names_source, source_after, source_refusal, effect, already_pending, number_for, refusal_of, refusal, drop_counted}
use Rattle.model.specs.Commands.{after_refusal, execute}
use Rattle.model.specs.Statements.{delivered_once}
use Rattle.checks.specs.Refusals.{source_refusal_by}
use Rattle.checks.proofs.Decided.{claimed_at, number_is}
use Rattle.arbitration.specs.Places.{rank_at}
use Rattle.well_formed.proofs.Test.{well_formed-in}
use Rattle.effects.proofs.Effects.{effect_consistent}
use Rattle.effects.proofs.Answers.{at_name, at_later, free}
use Rattle.effects.proofs.Dropped.{kept, counted}
use Rattle.effects.proofs.OneDelivery.{one_delivery}
use Rattle.layout.specs.Bytes.{source_bytes, source_from, state_from}
use Rattle.layout.proofs.InPlace.{source_read}
use Rattle.in_place.specs.declared.Ranking.{Ranking}
use Rattle.in_place.specs.Held.{source_place, with_ranks, Held}
use Rattle.in_place.specs.Steps.{Outcome, Ready, Leaves, Executed}
use Rattle.in_place.proofs.Refused.{refused, number_not_zero, number_of_pending}
use Rattle.in_place.proofs.Stored.{held_back, held_source}
use Rattle.source_steps.specs.Offers.{Offered}

-- The id is a source's, m the number of cores, r the record, and k the number of the checks after that of the id.
pub record Judged (s : Controller) (id : SourceId) (a : SourceAction) (m : ℕ) (r : Source) (k : ℕ) : Type 0 where
  pub named : names_source s id ≡ true
  pub cores_are : m ≡ s.m
  pub record_is : r ≡ source_at s (id.0 - 1)
  pub number_found : k ≡ source_refusal s (index_of id) a

module _ {b : List ℕ} {g : Ranking} (p : Ready b g) where
  abbrev s : Controller
  s = state_from b

  tested : well_formed s ≡ true
  tested = well_formed-in s p.sound

  -- t is the code's test of the id, over the n sources that it reads
  module _ (id : SourceId) (a : SourceAction) {n : ℕ} {t : Bool} (read-n : n ≡ s.n) (asked : t ≡ between 1 n id.0) where
    pub bad_source : t ≡ false → Executed b (OnSource id a) (Err BadSource) b g
    bad_source is = refused p.held (OnSource id a) BadSource (at_name s (OnSource id a) tested (rw read-n at (sym asked ∙ is)))

    module _ (is : t ≡ true) where
      names : names_source s id ≡ true
      names = rw read-n at (sym asked ∙ is)

      range : (1 ≤ id.0) × (id.0 ≤ s.n)
      range = (between_exact 1 s.n id.0).0 names

      pub in_array : id.0 - 1 < max_sources
      in_array = omega (arith, range, p.sound.consistent.n_le)

      pub judged :
          {m k : ℕ} {r : Source} {x : Bool} → m ≡ s.m →
          r ≡ source_from b (source_place (id.0 - 1)) → x ≡ r.pending && r.delivered && not (boxed s.cores m id.0) →
          k ≡ source_refusal_by n r x a → Judged s id a m r k
      judged {m} {k} {r} {x} cores read-r asked found =
          let there : r ≡ source_at s (id.0 - 1) = read-r ∙ sym (source_read b (id.0 - 1) in_array) in
          let taken : x ≡ claimed s (index_of id) = asked ∙ rw (there, cores) (claimed_at s id.0 range.0) in
          record {
            named = names;
            cores_are = cores;
            record_is = there;
            number_found = number_is s id a taken (found ∙ rw (read-n, there));
          }

  module _ {id : SourceId} {a : SourceAction} {m k : ℕ} {r : Source} (l : Judged s id a m r k) where
    refused_by : k ≢ 0 → answer (after_refusal s (OnSource id a) k) k 0 0 ≡ execute s (OnSource id a)
    refused_by = at_later s (OnSource id a) tested l.named k l.number_found

    pub refused_later : (e : Refusal) → k ≡ number_for e → e ≢ AlreadyPending → Executed b (OnSource id a) (Err e) b g
    refused_later e is other =
        let later : k ≢ already_pending = λ h. other (number_of_pending e (sym is ∙ h)) in
        refused p.held (OnSource id a) e
        (rw (← is) (ap (λ t. answer t k 0 0) (sym (kept s (OnSource id a) k later)) ∙ refused_by (λ z. number_not_zero e (sym is ∙ z))))

    -- the record q is stored
    module _ (q : Source) {b₁ : List ℕ} {g₁ : Ranking}
        (stored : (b₁ ≡ sets b (source_place (id.0 - 1)) (source_bytes q)) ×
        (g₁ ≡ with_ranks g (set g.ranks (id.0 - 1) (rank_at (id.0 - 1) q)))) where
      abbrev i : ℕ
      i = id.0 - 1

      range_of : (1 ≤ id.0) × (id.0 ≤ s.n)
      range_of = (between_exact 1 s.n id.0).0 l.named

      inside : i < max_sources
      inside = omega (arith, range_of, p.sound.consistent.n_le)

      held : Held (with_source s i q) b₁ g₁
      held = held_source p.held i inside q stored

      back : state_from b₁ ≡ with_source s i q
      back = held_back held

      -- with one more dropped trigger
      pub dropped : (e : Refusal) → k ≡ number_for e → e ≡ AlreadyPending → q ≡ dropped_one r → Executed b (OnSource id a) (Err e) b₁ g₁
      dropped e is pending new =
          let number : k ≡ already_pending = is ∙ ap number_for pending in
          let same : with_source s i q ≡ drop_counted s (OnSource id a) = rw (new, l.record_is, sub-one id.0) in
          subst (λ (y : Answer). Leaves y (Err e) b₁ g₁)
          (ap (λ t. answer t k 0 0) (same ∙ sym (counted s (OnSource id a) k number)) ∙
          refused_by (λ z. absurd (omega (arith, sym number ∙ z))))
          (record { says = (sym is, refl, refl); held = held })

      -- after the command's action
      module _ (passes : k ≡ 0) (new : q ≡ source_after a r) where
        free_of : refusal_of s (OnSource id a) ≡ 0
        free_of = free s (OnSource id a) tested l.named (sym l.number_found ∙ passes)

        same : with_source s i q ≡ effect s (OnSource id a)
        unfolding effect
        same = rw (new, l.record_is, sub-one id.0)

        pub offered : Offered (state_from b₁) b₁ g₁ m i q
        offered =
            subst (λ (e : Controller). Offered e b₁ g₁ m i q) (sym back)
            (record {
              held = held;
              consistent = subst Consistent (sym same) (effect_consistent s (OnSource id a) p.sound free_of);
              cores_are = l.cores_are;
              source_in = omega (arith, range_of);
              record_is = sym (get_or-set_same s.sources i q no_source (omega (arith, inside, p.held.sized.sources)));
            })

        unrefused : refusal s (OnSource id a) ≡ 0
        unfolding refusal
        unrefused = rw tested free_of

        pub accepted :
            {o : Outcome} {b' : List ℕ} {g' : Ranking} → Leaves (delivered_once (state_from b₁) i) o b' g' →
            Executed b (OnSource id a) o b' g'
        accepted {o} {b'} {g'} done =
            subst (λ (y : Answer). Leaves y o b' g')
            (ap₂ delivered_once (back ∙ same) (sub-one id.0) ∙ sym (one_delivery s id a unrefused)) done
