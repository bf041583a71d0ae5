-- What a command answers, by the check at which it ends. Assumes nothing.
--   named, name_number, later       the check of a command's id or core number, the number of that check, and those after it
--   at_state, at_name, at_later    the state's test fails, the first check, a later one: the refusal's answer is the command's
--   answers                        none fails: the settled effect is
use Prim.Native.Nat.{ℕ}
use mathlib.Core.Path.{◌≡◌, refl, sym, ap, ◌∙◌}
use mathlib.Core.Logic.{◌≢◌}
use mathlib.Core.Bool.{Bool, true, false}
use native.Mathlib.Omega.{arith}
use Rattle.model.specs.declared.Controller.{Controller}
use Rattle.model.specs.declared.Command.{Command}
use Rattle.model.specs.declared.Command.TheVariants.{OnSource, OnCore}
use Rattle.model.specs.Records.{index_of, answer}
use Rattle.model.specs.WellFormed.{well_formed}
use Rattle.model.specs.Commands.{bad_core, bad_source, unless, names_source, names_core, source_refusal, core_refusal, effect, refusal_of, refusal}
use Rattle.model.specs.Commands.{already_pending, answered_id, settled, after_refusal, refused, execute}
use Rattle.effects.proofs.Accepted.{execute_accepted, execute_refused}
use Rattle.effects.proofs.Dropped.{kept}

abbrev pub named : Controller → Command → Bool
named s (OnSource id a) = names_source s id
named s (OnCore k a) = names_core s k

abbrev pub name_number : Command → ℕ
name_number (OnSource id a) = bad_source
name_number (OnCore k a) = bad_core

abbrev pub later : Controller → Command → ℕ
later s (OnSource id a) = source_refusal s (index_of id) a
later s (OnCore k a) = core_refusal s k.0 a

in_turn : (s : Controller) (c : Command) → refusal_of s c ≡ unless (named s c) (name_number c) (later s c)
unfolding refusal_of
in_turn s (OnSource id a) = refl
in_turn s (OnCore k a) = refl

some_number : (c : Command) → (name_number c ≢ 0) × (name_number c ≢ already_pending)
some_number (OnSource id a) = (λ e. absurd (omega arith), λ e. absurd (omega arith))
some_number (OnCore k a) = (λ e. absurd (omega arith), λ e. absurd (omega arith))

module _ (s : Controller) (c : Command) where
  refused_by : (k : ℕ) → refusal s c ≡ k → k ≢ 0 → answer (after_refusal s c k) k 0 0 ≡ execute s c
  unfolding refused
  refused_by k e h = ap (refused s c) (sym e) ∙ sym (execute_refused s c (λ z. h (sym e ∙ z)))

  pub at_state : well_formed s ≡ false → answer s 1 0 0 ≡ execute s c
  unfolding refusal
  at_state e = refused_by 1 (rw e) (λ z. absurd (omega arith))

  module _ (sound : well_formed s ≡ true) where
    pub at_name : named s c ≡ false → answer s (name_number c) 0 0 ≡ execute s c
    unfolding refusal
    at_name e =
        ap (λ t. answer t (name_number c) 0 0) (sym (kept s c (name_number c) (some_number c).1)) ∙
        refused_by (name_number c) (rw (sound, in_turn s c, e)) (some_number c).0

    pub at_later : named s c ≡ true → (k : ℕ) → k ≡ later s c → k ≢ 0 → answer (after_refusal s c k) k 0 0 ≡ execute s c
    unfolding refusal
    at_later e k is h = refused_by k (rw (sound, in_turn s c, e) (sym is)) h

    pub free : named s c ≡ true → later s c ≡ 0 → refusal_of s c ≡ 0
    free e g = rw (in_turn s c, e) g

    pub answers : refusal_of s c ≡ 0 → settled (effect s c) (answered_id s c) ≡ execute s c
    unfolding refusal
    answers e = sym (execute_accepted s c (rw sound e))
