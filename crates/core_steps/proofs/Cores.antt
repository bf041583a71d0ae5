-- A command on a core, on the bytes of a sound state, from what the code reads and stores. Assumes nothing.
--   bad_core, core_in            a core that there isn't; the place of one that there is
--   Judged, judged               what the checks find of the record named
--   refused_later                a refused command leaves bytes and numbers as they were
--   soiled, set_leaves           set core priority: what settling finds, and the answer
--   claim_leaves                 claim: nothing is left to settle
use Prim.Native.Nat.{ℕ, zero, suc, ◌<◌, ◌≤◌}
use mathlib.Core.Path.{◌≡◌, refl, sym, ap, subst, ◌∙◌}
use mathlib.Core.List.{List, [], ◌∷◌}
use mathlib.Core.Bool.{Bool, true, false}
use lib.ListN.{length, get_or, set}
use lib.Seq.{sets, get_or-set_same, get_or-set_other}
use lib.Dec.{ltb}
use borrow.Author.Tests.{ltb-true}
use native.Mathlib.Omega.{arith}
use native.Mathlib.Decide.{ℕ_discrete, dec_lt}
use Rattle.std.proofs.Common.{Err}
use Rattle.model.specs.declared.Refusal.{Refusal}
use Rattle.model.specs.declared.Refusal.TheVariants.{BadCore}
use Rattle.model.specs.declared.CoreId.{CoreId}
use Rattle.model.specs.declared.Core.{Core}
use Rattle.model.specs.declared.Controller.{Controller}
use Rattle.model.specs.declared.Answer.{Answer}
use Rattle.model.specs.declared.Command.{Command}
use Rattle.model.specs.declared.Command.TheVariants.{OnCore}
use Rattle.model.specs.declared.CoreAction.{CoreAction}
use Rattle.model.specs.declared.CoreAction.TheVariants.{SetCorePriority, Claim}
use Rattle.model.specs.Records.{max_cores, no_core, core_with, core_at, with_core, answer}
use Rattle.model.specs.WellFormed.{well_formed, Consistent}
use Rattle.model.specs.Commands.{names_core, claimed_core, core_refusal, number_for, effect, refusal_of, answered_id, settled, execute}
use Rattle.checks.specs.Refusals.{core_refusal_by}
use Rattle.arbitration.specs.Places.{key_at}
use Rattle.well_formed.proofs.Test.{well_formed-in}
use Rattle.effects.proofs.Checked.{Checked, checked}
use Rattle.effects.proofs.Effects.{effect_consistent}
use Rattle.effects.proofs.AtRest.{claim_answer}
use Rattle.effects.proofs.Answers.{at_name, at_later, free, answers}
use Rattle.effects.proofs.Dropped.{core_kept}
use Rattle.layout.specs.Bytes.{core_bytes, core_from, state_from}
use Rattle.in_place.specs.declared.Ranking.{Ranking}
use Rattle.in_place.specs.Held.{core_place, with_keys, Held}
use Rattle.in_place.specs.Steps.{Outcome, Says, Ready, Leaves, Executed}
use Rattle.in_place.proofs.Refused.{refused, number_not_zero}
use Rattle.in_place.proofs.Stored.{held_back, held_here, held_core, read_core}
use Rattle.core_steps.specs.Phases.{soiled_all, AllClean, Soiled, Settled}

-- The core is one of the state's, c its record, and x the number of the checks after that of the core.
pub record Judged (s : Controller) (core : CoreId) (a : CoreAction) (c : Core) (x : ℕ) : Type 0 where
  pub named : names_core s core ≡ true
  pub record_is : c ≡ core_at s core.0
  pub number_found : x ≡ core_refusal s core.0 a

-- past its end a list reads as its default
past : {A : Type 0} (l : List A) (k : ℕ) (d : A) → length l ≤ k → get_or l k d ≡ d
past [] k d h = refl
past (x ∷ l) zero d h = absurd (omega arith)
past (x ∷ l) (suc k) d h = past l k d (omega arith)

number_is : (s : Controller) (k : ℕ) (a : CoreAction) → core_refusal_by s.n (core_at s k) a ≡ core_refusal s k a
number_is s k (SetCorePriority p) = refl
number_is s k Claim = refl

module _ {b : List ℕ} {g : Ranking} (p : Ready b g) where
  abbrev s : Controller
  s = state_from b

  tested : well_formed s ≡ true
  tested = well_formed-in s p.sound

  -- t is the code's test of the core's number, over the m cores that it reads
  module _ (core : CoreId) (a : CoreAction) {m : ℕ} {t : Bool} (read-m : m ≡ s.m) (asked : t ≡ ltb core.0 m) where
    pub bad_core : t ≡ false → Executed b (OnCore core a) (Err BadCore) b g
    bad_core is = refused p.held (OnCore core a) BadCore (at_name s (OnCore core a) tested (rw read-m at (sym asked ∙ is)))

    module _ (is : t ≡ true) where
      names : names_core s core ≡ true
      names = rw read-m at (sym asked ∙ is)

      in_use : core.0 < s.m
      in_use = ltb-true core.0 s.m names

      inside : core.0 < max_cores
      inside = omega (arith, in_use, p.sound.consistent.m_le)

      pub judged :
          {n x : ℕ} {c : Core} → n ≡ s.n → c ≡ core_from b (core_place core.0) → x ≡ core_refusal_by n c a → Judged s core a c x
      judged {n} {x} {c} read-n read found =
          let there : c ≡ core_at s core.0 = read ∙ read_core p.held core.0 inside in
          record {
            named = names;
            record_is = there;
            number_found = found ∙ rw (read-n, there) (number_is s core.0 a);
          }

  module _ {core : CoreId} {a : CoreAction} {x : ℕ} {c : Core} (l : Judged s core a c x) where
    core_in : core.0 < max_cores
    core_in = omega (arith, ltb-true core.0 s.m l.named, p.sound.consistent.m_le)

    -- o is the refusal that is passed on
    pub refused_later : {o : Outcome} (e : Refusal) → x ≡ number_for e → o ≡ Err e → Executed b (OnCore core a) o b g
    refused_later e is passed =
        rw passed
        (refused p.held (OnCore core a) e
        (rw (← is)
        (ap (λ t. answer t x 0 0) (sym (core_kept s core a x)) ∙
        at_later s (OnCore core a) tested l.named x l.number_found (λ z. number_not_zero e (sym is ∙ z)))))

    module _ (passes : x ≡ 0) where
      unrefused : refusal_of s (OnCore core a) ≡ 0
      unrefused = free s (OnCore core a) tested l.named (sym l.number_found ∙ passes)

      -- the record d is stored
      module _ (d : Core) {b₁ : List ℕ} {g₁ : Ranking}
          (stored : (b₁ ≡ sets b (core_place core.0) (core_bytes d)) × (g₁ ≡ with_keys g (set g.keys core.0 (key_at core.0 d)))) where
        after : Held (with_core s core.0 d) b₁ g₁
        after = held_core p.held core.0 core_in d stored

        -- set core priority
        module _ {priority : ℕ} (is : a ≡ SetCorePriority priority) (new : d ≡ core_with priority c.message) where
          abbrev command : Command
          command = OnCore core (SetCorePriority priority)

          free_to_set : refusal_of s command ≡ 0
          free_to_set = rw is at unrefused

          back : state_from b₁ ≡ with_core s core.0 (core_with priority (core_at s core.0).message)
          back = held_back after ∙ ap (with_core s core.0) (new ∙ ap (λ (e : Core). core_with priority e.message) l.record_is)

          same : soiled_all (state_from b₁) ≡ effect s command
          unfolding effect
          same = ap soiled_all back

          was_clean : (k : ℕ) → (core_at s k).message.dirty ≡ false
          was_clean k = go (dec_lt k s.m) (dec_lt k max_cores)
            where
              go : Dec (k < s.m) → Dec (k < max_cores) → (core_at s k).message.dirty ≡ false
              go (yes h) g = p.sound.clean k h
              go (no h) (yes g) = ap (λ (e : Core). e.message.dirty) (p.sound.consistent.spare_core k (omega arith) g)
              go (no h) (no g) = ap (λ (e : Core). e.message.dirty) (past s.cores k no_core (omega (arith, p.held.sized.cores)))

          clean : AllClean (with_core s core.0 (core_with priority (core_at s core.0).message))
          clean k = go (ℕ_discrete k core.0)
            where
              e : Core
              e = core_with priority (core_at s core.0).message

              go : Dec (k ≡ core.0) → (get_or (set s.cores core.0 e) k no_core).message.dirty ≡ false
              go (yes h) =
                  rw (h, get_or-set_same s.cores core.0 e no_core (omega (arith, core_in, p.held.sized.cores)))
                  (was_clean core.0)
              go (no h) = rw (get_or-set_other s.cores core.0 k e no_core h) (was_clean k)

          pub soiled_by : Soiled b₁ g₁
          soiled_by =
              record {
                held = held_here after;
                clean = subst AllClean (sym back) clean;
                consistent = subst Consistent (sym same) (effect_consistent s command p.sound free_to_set);
              }

          pub set_leaves :
              {o : Outcome} {y : ℕ} {b' : List ℕ} {g' : Ranking} → Settled (soiled_all (state_from b₁)) y b' g' → Says o 0 0 y →
              Executed b (OnCore core a) o b' g'
          unfolding settled answered_id
          set_leaves {o} {y} {b'} {g'} done (number, id, cycles) =
              let whole : settled (effect s command) (answered_id s command) ≡ execute s command = answers s command tested free_to_set in
              let kept : Leaves (settled (soiled_all (state_from b₁)) 0) o b' g'
              = record { says = (number, id, cycles ∙ done.cycles_are); held = done.held } in
              subst (λ (e : CoreAction). Executed b (OnCore core e) o b' g') (sym is)
              (subst (λ (e : Answer). Leaves e o b' g') (ap (λ (u : Controller). settled u 0) same ∙ whole) kept)

        -- claim
        pub claim_leaves :
            {o : Outcome} → a ≡ Claim → d ≡ claimed_core c → Says o 0 c.message.source.0 0 →
            Executed b (OnCore core a) o b₁ g₁
        claim_leaves {o} is new (number, id, cycles) =
            let (below, filled) : Checked s (OnCore core Claim) = checked s (OnCore core Claim) (rw is at unrefused) in
            let whole : execute s (OnCore core Claim) ≡
            answer (with_core s core.0 (claimed_core (core_at s core.0))) 0 (core_at s core.0).message.source.0 0 =
            claim_answer s p.sound core below filled in
            let made : d ≡ claimed_core (core_at s core.0) = new ∙ ap claimed_core l.record_is in
            subst (λ (e : CoreAction). Executed b (OnCore core e) o b₁ g₁) (sym is)
            (subst (λ (e : Answer). Leaves e o b₁ g₁) (sym whole)
            (record {
              says = (number, id ∙ ap (λ (e : Core). e.message.source.0) l.record_is, cycles);
              held = subst (λ (e : Core). Held (with_core s core.0 e) b₁ g₁) made after;
            }))
