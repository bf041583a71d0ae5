-- What a list's state is before the first command, and after one more. Assumes nothing.
--   begun_sound, begun_unsound    before the first
--   go_refused                    on an unsound state every command is 1
--   ready, gone_on                on a sound one a command does what the definition says, and the state stays sound
use Prim.Native.Nat.{ℕ}
use mathlib.Core.Path.{◌≡◌, refl, sym, ap, subst, ◌∙◌}
use mathlib.Core.List.{List}
use mathlib.Core.Bool.{true, false}
use Rattle.std.specs.Option.{is_some}
use Rattle.std.proofs.Common.{Option, Err, Some, None}
use Rattle.model.specs.declared.Controller.{Controller}
use Rattle.model.specs.declared.Answer.{Answer}
use Rattle.model.specs.declared.Command.{Command}
use Rattle.model.specs.declared.Refusal.TheVariants.{Malformed}
use Rattle.model.specs.WellFormed.{well_formed, WellFormed}
use Rattle.model.specs.Commands.{execute}
use Rattle.well_formed.proofs.Test.{well_formed-in, well_formed-out}
use Rattle.effects.proofs.Answers.{at_state}
use Rattle.effects.proofs.Kept.{well_formed-kept}
use Rattle.layout.specs.Bytes.{state_bytes, is_state, state_from}
use Rattle.layout.specs.Statements.{AreBytes}
use Rattle.layout.proofs.RoundTrip.{state_size_lem, bytes_written_back}
use Rattle.in_place.specs.declared.Ranking.{Ranking}
use Rattle.in_place.specs.Held.{Numbered}
use Rattle.in_place.specs.Steps.{Outcome, Ready, Executed}
use Rattle.in_place.proofs.Stored.{held_first, held_back, held_here}
use Rattle.steps.specs.Going.{Going, Went}

-- ---- before the first command

module _ {b : List ℕ} (encodes : is_state b ≡ true) (are : AreBytes b) where
  whole : b ≡ state_bytes (state_from b)
  whole = sym (bytes_written_back b are encodes)

  pub begun_unsound : well_formed (state_from b) ≡ false → Going None b
  begun_unsound e = record { size = state_size_lem b encodes; whole = whole; tested = sym e; held = tt }

  pub begun_sound : {g : Ranking} → well_formed (state_from b) ≡ true → Numbered (state_from b) g → Going (Some g) b
  begun_sound e numbered =
      record { size = state_size_lem b encodes; whole = whole; tested = sym e; held = held_first encodes are numbered }

-- ---- one command more

module _ (b : List ℕ) (c : Command) where
  abbrev s : Controller
  s = state_from b

  pub go_refused : {r : Option Ranking} → Going r b → r ≡ None → Went (execute s c) r (Err Malformed) b r
  go_refused {r} going is =
      subst (λ (a : Answer). Went a r (Err Malformed) b r) (at_state s c (sym going.tested ∙ ap is_some is))
      (record { says = (refl, refl, refl); state_is = refl; going = going; kept = refl })

  module _ {r : Option Ranking} {g : Ranking} (going : Going r b) (is : r ≡ Some g) where
    pub ready : Ready b g
    ready = record { held = rw is at going.held; sound = well_formed-out s (sym going.tested ∙ ap is_some is) }

    -- d is the command by its parts
    pub gone_on :
        {d : Command} {o : Outcome} {b' : List ℕ} {g' : Ranking} → c ≡ d → Executed b d o b' g' → Went (execute s c) r o b' (Some g')
    gone_on {d} {o} {b'} {g'} command did =
        let done : Executed b c o b' g' = subst (λ (e : Command). Executed b e o b' g') (sym command) did in
        let kept : WellFormed (execute s c).state = well_formed-kept s c ready.sound in
        let back : state_from b' ≡ (execute s c).state = held_back done.held in
        record {
          says = done.says;
          state_is = back;
          kept = rw is;
          going =
              record {
                size = done.held.size;
                whole = done.held.bytes_are ∙ ap state_bytes (sym back);
                tested = sym (well_formed-in (state_from b') (subst WellFormed (sym back) kept));
                held = held_here done.held;
              };
        }
