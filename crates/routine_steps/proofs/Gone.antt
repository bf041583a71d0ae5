-- A list's simulation before the first call, and after one more. Assumes nothing.
--   begun_sound, begun_unsound    before the first
--   go_refused                    on an unsound simulation every call is 1
--   stands, gone_on               on a sound one a call does what the definition says, and the simulation stays sound
use Prim.Native.Nat.{ℕ}
use mathlib.Core.Path.{◌≡◌, refl, sym, ap, subst, ◌∙◌}
use mathlib.Core.Logic.{◌≢◌}
use mathlib.Core.List.{List}
use mathlib.Core.Bool.{true, false}
use lib.ListN.{length}
use native.Mathlib.Omega.{arith}
use Rattle.std.proofs.Common.{Option, Err, Some, None, IfSome, is_some}
use Rattle.model.specs.declared.Refusal.TheVariants.{Malformed}
use Rattle.model.specs.Records.{max_sources, max_cores}
use Rattle.layout.specs.Bytes.{state_bytes, is_state, state_from}
use Rattle.layout.specs.Statements.{AreBytes}
use Rattle.layout.proofs.RoundTrip.{state_size_lem, bytes_written_back}
use Rattle.in_place.specs.declared.Ranking.{Ranking}
use Rattle.in_place.specs.Held.{Numbered, Held}
use Rattle.in_place.proofs.Stored.{held_first, held_back, held_here}
use Rattle.routines.specs.declared.Routines.{Routines}
use Rattle.routines.specs.declared.RoutineCall.{RoutineCall}
use Rattle.routines.specs.Routines.{sound_routines, SoundRoutines, call_refusal, call_routine, refused_call}
use Rattle.routines.specs.Calls.{routines_in}
use Rattle.routine_laws.proofs.Test.{routines_test_exact}
use Rattle.routine_laws.proofs.Answered.{call_refused, handed_back}
use Rattle.routine_laws.proofs.Kept.{routines_kept}
use Rattle.routine_steps.specs.Simulated.{Stepped, Standing, Did, Running, Went}
use Rattle.routine_steps.proofs.Done.{none_taken}

-- ---- before the first call

module _ {b active holder : List ℕ} (encodes : is_state b ≡ true) (al : length active ≡ max_cores)
    (hl : length holder ≡ max_sources) (are : AreBytes b) where
  begun : {g : Option Ranking} → is_some g ≡ sound_routines (routines_in b active holder) → IfSome g (Held (state_from b) b) →
      Running g b active holder
  begun tested held =
      record {
        size = state_size_lem b encodes;
        active_length = al;
        holder_length = hl;
        whole = sym (bytes_written_back b are encodes);
        tested = tested;
        held = held;
      }

  pub begun_unsound : sound_routines (routines_in b active holder) ≡ false → Running None b active holder
  begun_unsound e = begun (sym e) tt

  pub begun_sound : {g : Ranking} → sound_routines (routines_in b active holder) ≡ true → Numbered (state_from b) g →
      Running (Some g) b active holder
  begun_sound e numbered = begun (sym e) (held_first encodes are numbered)

-- ---- one call more

unsound : (s : Routines) (c : RoutineCall) → sound_routines s ≡ false → call_refusal s c ≡ 1
unfolding call_refusal
unsound s c e = rw e

module _ (b active holder : List ℕ) (c : RoutineCall) where
  abbrev s : Routines
  s = routines_in b active holder

  pub go_refused : {r : Option Ranking} → Running r b active holder → r ≡ None → Went s c (Err Malformed) b active holder r
  go_refused {r} going is =
      let number : call_refusal s c ≡ 1 = unsound s c (sym going.tested ∙ ap is_some is) in
      let some : call_refusal s c ≢ 0 = λ z. absurd (omega (arith, z, number)) in
      let is_refused : call_routine s c ≡ refused_call s c 1 = call_refused s c some ∙ ap (refused_call s c) number in
      record {
        says = rw (is_refused, none_taken s c some) ((refl, refl, refl), refl);
        state_is = rw (is_refused, handed_back s c 1 (λ z. omega arith)) refl;
        running = going;
      }

  module _ {r : Option Ranking} {g : Ranking} (going : Running r b active holder) (is : r ≡ Some g) where
    pub stands : Standing b active holder g
    stands = record { held = rw is at going.held; sound = (routines_test_exact s).0 (sym going.tested ∙ ap is_some is) }

    -- d is the call by its parts
    pub gone_on :
        {d : RoutineCall} {o : Stepped} {b' active' holder' : List ℕ} {g' : Ranking} → c ≡ d →
        Did s d o b' active' holder' g' → Went s c o b' active' holder' (Some g')
    gone_on {d} {o} {b'} {active'} {holder'} {g'} call by_parts =
        let done : Did s c o b' active' holder' g'
        = subst (λ (x : RoutineCall). Did s x o b' active' holder' g') (sym call) by_parts in
        let kept : SoundRoutines (call_routine s c).state = routines_kept s c stands.sound in
        let back : routines_in b' active' holder' ≡ (call_routine s c).state
        = rw (held_back done.held, done.active_is, done.holder_is) refl in
        let sound' : SoundRoutines (routines_in b' active' holder') = subst SoundRoutines (sym back) kept in
        record {
          says = done.says;
          state_is = back;
          running =
              record {
                size = done.held.size;
                active_length = sound'.active_length;
                holder_length = sound'.holder_length;
                whole = done.held.bytes_are ∙ ap state_bytes (sym (held_back done.held));
                tested = sym ((routines_test_exact (routines_in b' active' holder')).1 sound');
                held = held_here done.held;
              };
        }
