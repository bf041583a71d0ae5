-- What each call answers and writes, from what the functions that it calls hand back. Assumes nothing.
--   make_unfit, make_refused, make_answered       `make_call`
--   bad_bytes, bad_number, execute_went           `execute_call`
--   run_fit, run_unfit, run_by                    `run_call`: a run, none, either
--   run_ran, run_unread, run_no_room              the same from what the loop has left, and from the tests before it
use Prim.Native.Nat.{ℕ}
use mathlib.Core.Path.{◌≡◌, refl, sym, ◌∙◌, ap, subst}
use mathlib.Core.List.{List}
use mathlib.Core.Bool.{true, false, and-false}
use lib.ListN.{length}
use lib.Seq.{sets}
use borrow.Author.Tests.{eq-eqb, ne_eqb}
use Rattle.lists.proofs.Bools.{Flag, on, off, flag}
use Rattle.model.specs.declared.Controller.{Controller}
use Rattle.model.specs.declared.Command.{Command}
use Rattle.std.specs.Prelude.{Option, Some, None}
use Rattle.model.specs.declared.Answer.{Answer}
use Rattle.model.specs.Commands.{execute, make, run}
use Rattle.layout.specs.Commands.{command_of}
use Rattle.layout.specs.Bytes.{state_size, state_bytes, state_from, is_state, commands_in, unreadable, packed_as, packed, Call, call_of, Does, make_call}
use Rattle.layout.specs.Bytes.{executed_on, execute_call, DoesRun, no_count, room_for, fits_run, RunCall, run_call_of, run_call}
use Rattle.layout.proofs.Answers.{read_command, answers_from, controller}
use Rattle.layout.proofs.Lists.{Ran}
use Rattle.std.proofs.Common.{Option}
use Rattle.in_place.specs.declared.Ranking.{Ranking}
use Rattle.in_place.specs.Steps.{Outcome, Says}
use Rattle.in_place.proofs.Refused.{says_same}
use Rattle.steps.specs.Going.{Went}

done : (r : ℕ) (b : List ℕ) (call : Call) → call ≡ call_of r b → Does r b call
done r b call e = (sym (ap (λ (x : Call). x.result) e), sym (ap (λ (x : Call). x.bytes) e))

-- the call of an answer a, from the answer's parts
answered :
    (r : ℕ) (b : List ℕ) (a : Answer) (call : Call) → call ≡ call_of (packed a) (state_bytes a.state) →
    r ≡ packed a → b ≡ state_bytes a.state → Does r b call
answered r b a call e er eb = rw (er, eb) (done (packed a) (state_bytes a.state) call e)

-- ---- making a controller

module _ (n m : ℕ) (b : List ℕ) where
  pub make_unfit : (length b ≡ state_size → ⊥) → Does unreadable b (make_call n m b)
  unfolding make_call
  make_unfit h = done unreadable b (make_call n m b) (rw (ne_eqb _ _ h))

  module _ (r : ℕ) (a : Answer) (h : length b ≡ state_size) (e : a ≡ make n m) (er : r ≡ packed a) where
    pub make_refused : (a.number ≡ 0 → ⊥) → Does r b (make_call n m b)
    unfolding make_call
    make_refused k = done r b (make_call n m b) (rw (eq-eqb _ _ h, ← e, ne_eqb _ _ k, ← er))

    pub make_answered : (b' : List ℕ) → a.number ≡ 0 → b' ≡ state_bytes a.state → Does r b' (make_call n m b)
    unfolding make_call
    make_answered b' k eb = answered r b' a (make_call n m b) (rw (eq-eqb _ _ h, ← e, eq-eqb _ _ k)) er eb

-- ---- one command

module _ (number at p : ℕ) (b : List ℕ) where
  pub bad_bytes : is_state b ≡ false → Does unreadable b (execute_call number at p b)
  unfolding execute_call
  bad_bytes e = done unreadable b (execute_call number at p b) (rw e)

  module _ (d : Option Command) (e : is_state b ≡ true) (ed : d ≡ command_of number at p) where
    executed : execute_call number at p b ≡ executed_on b d
    unfolding execute_call
    executed = rw (e, ed)

    pub bad_number : d ≡ None → Does unreadable b (execute_call number at p b)
    bad_number f = done unreadable b (execute_call number at p b) (executed ∙ rw f)

    pub execute_went :
        {r n i y : ℕ} {c : Command} {o : Outcome} {b' : List ℕ} {g g' : Option Ranking} → d ≡ Some c →
        Went (execute (state_from b) c) g o b' g' → Says o n i y → r ≡ packed_as n i y →
        Does r b' (execute_call number at p b)
    execute_went {r} {c = c} {o} {b'} f w told er =
        let (number_is, id_is, cycles_are) = says_same o told w.says in
        answered r b' (execute (state_from b) c) (execute_call number at p b) (executed ∙ rw f) (er ∙ rw (number_is, id_is, cycles_are))
        (w.going.whole ∙ ap state_bytes w.state_is)

-- ---- a list of commands

-- the run of the commands cs from the state s, over the answers given
abbrev pub ran_over : List ℕ → Controller → List Command → RunCall
ran_over answers s cs = run_call_of (length cs) (state_bytes (run s cs)) (sets answers 0 (answers_from s cs))

module _ (b list answers : List ℕ) where
  pub run_fit : fits_run b list answers ≡ true → run_call b list answers ≡ ran_over answers (state_from b) (commands_in list)
  unfolding run_call
  run_fit e = rw e

  pub run_unfit : fits_run b list answers ≡ false → run_call b list answers ≡ run_call_of no_count b answers
  unfolding run_call
  run_unfit e = rw e

  -- what holds of a run and of none
  pub run_by :
      (P : RunCall → Type 0) → (fits_run b list answers ≡ true → P (ran_over answers (state_from b) (commands_in list))) →
      P (run_call_of no_count b answers) → P (run_call b list answers)
  run_by P fit unfit = go (flag (fits_run b list answers))
    where
      go : Flag (fits_run b list answers) → P (run_call b list answers)
      go (on e) = subst P (sym (run_fit e)) (fit e)
      go (off e) = subst P (sym (run_unfit e)) unfit

  pub run_ran :
      {r count : ℕ} {b' answers' : List ℕ} {s : Controller} → is_state b ≡ true →
      Ran read_command controller list answers (state_from b) count answers' s → r ≡ count → b' ≡ state_bytes s →
      DoesRun r b' answers' (run_call b list answers)
  unfolding run_call
  run_ran e ran er eb = rw (e, ran.fits) (er ∙ ran.count, eb ∙ ap state_bytes ran.state, ran.written)

  refused : fits_run b list answers ≡ false → DoesRun no_count b answers (run_call b list answers)
  refused e = rw (run_unfit e) (refl, refl, refl)

  pub run_unread : is_state b ≡ false → DoesRun no_count b answers (run_call b list answers)
  run_unread e = refused (rw e)

  pub run_no_room : room_for list answers ≡ false → DoesRun no_count b answers (run_call b list answers)
  run_no_room e = refused (simp (e, and-false))
