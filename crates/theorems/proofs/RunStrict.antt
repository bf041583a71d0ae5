-- Demand 3, and the counts of dropped triggers, of a list run from a fresh controller's bytes (`RunStrict`): the bytes that making writes
-- are those of the reset controller, the entries read from the answers' bytes are those of the commands, and the state read from the bytes
-- handed back is that after them, of which the theorems over every list of commands speak. Assumes nothing.
use Prim.Native.Nat.{ℕ, ◌*◌, ◌/◌, ◌%◌, ◌≤◌}
use mathlib.Core.Path.{◌≡◌, refl, sym, ap, ◌∙◌, subst}
use mathlib.Core.List.{List, [], ◌∷◌}
use native.Mathlib.Omega.{arith}
use lib.ListN.{length, drop}
use borrow.Author.Tests.{eq-eqb, le-leb}
use Rattle.model.specs.Behaviours.{run_by}
use Rattle.lists.proofs.Bools.{and_in}
use Rattle.model.specs.declared.Controller.{Controller}
use Rattle.model.specs.declared.Command.{Command}
use Rattle.model.specs.Records.{reset}
use Rattle.model.specs.WellFormed.{WellFormed}
use Rattle.model.specs.Commands.{execute, run}
use Rattle.layout.specs.Bytes.{state_size, state_bytes, command_size, command_bytes, commands_in, answer_size, make_call, run_call}
use Rattle.lists.specs.Rows.{joined}
use Rattle.model.specs.Statements.{InRange}
use Rattle.well_formed.proofs.Reset.{reset-well_formed, makes_exactly}
use Rattle.effects.proofs.Kept.{well_formed-kept}
use Rattle.theorems.proofs.DemandThree.{reset_strict}
use Rattle.effects.proofs.Counts.{dropped_is_history}
use Rattle.layout.specs.Statements.{Sized}
use Rattle.layout.proofs.RoundTrip.{state_read_back, state_encoded}
use Rattle.layout.proofs.Commands.{commands_read_back}
use Rattle.layout.specs.CallStatements.{Strict, ran_fresh, RunStrict, ListStrict}
use Rattle.layout.proofs.Answers.{read_command, controller}
use Rattle.layout.proofs.Machines.{answers_in_front}
use Rattle.layout.proofs.Lists.{answers_fit}
use Rattle.exports.proofs.Calls.{ran_over, run_fit}
use Rattle.theorems.proofs.AnswerBytes.{entries_read, cycles_told}

-- a sound state has the arrays' lengths, and stays sound through a list
pub sized : (s : Controller) → WellFormed s → Sized s
sized s w = record { sources = w.consistent.sources_length; cores = w.consistent.cores_length }

pub run-well_formed : (s : Controller) (cs : List Command) → WellFormed s → WellFormed (run s cs)
unfolding run_by
run-well_formed s [] w = w
run-well_formed s (c ∷ cs) w = run-well_formed (execute s c).state cs (well_formed-kept s c w)

module _ (n m : ℕ) (R : InRange n m) where
  -- what making writes
  pub fresh : (b : List ℕ) → length b ≡ state_size → (make_call n m b).bytes ≡ state_bytes (reset n m)
  unfolding make_call
  fresh b h = rw (eq-eqb _ _ h, (makes_exactly n m).0 R)

  pub ran_strict :
      (answers : List ℕ) (cs : List Command) → answer_size * length cs ≤ length answers → Strict n m cs (ran_over answers (reset n m) cs)
  ran_strict answers cs h =
      let s = reset n m in
      let w = run-well_formed s cs (reset-well_formed n m R) in
      let rest = drop (answer_size * length cs) answers in
      let there = answers_in_front controller answers s cs h in
      record {
        taken = refl;
        strict = rw (there, entries_read s cs rest, state_read_back (run s cs) (sized (run s cs) w)) (reset_strict n m cs R);
        counted = rw (there, entries_read s cs rest, state_read_back (run s cs) (sized (run s cs) w)) (dropped_is_history n m cs);
        cycles = rw there (cycles_told m s cs rest refl);
      }

pub run_strict : RunStrict
run_strict n m b list answers R h e =
    let w = sized (reset n m) (reset-well_formed n m R) in
    let fits = and_in (state_encoded (reset n m) w).0 e in
    let ran : run_call (make_call n m b).bytes list answers ≡ ran_over answers (reset n m) (commands_in list)
    = ap (λ (x : List ℕ). run_call x list answers) (fresh n m R b h) ∙ run_fit (state_bytes (reset n m)) list answers fits
    ∙ ap (λ (s : Controller). ran_over answers s (commands_in list)) (state_read_back (reset n m) w) in
    subst (Strict n m (commands_in list)) (sym ran) (ran_strict n m R answers (commands_in list) (answers_fit list answers read_command e))

pub list_strict : ListStrict
list_strict n m b answers cs R h room =
    let (same, size, fit) = commands_read_back cs in
    let list = joined command_bytes cs in
    let whole : length list % command_size ≡ 0 = omega (arith, size) in
    let enough : length list / command_size * answer_size ≤ length answers = omega (arith, size) in
    subst (λ (ds : List Command). Strict n m ds (ran_fresh n m b list answers)) same
    (run_strict n m b list answers R h (and_in (eq-eqb _ _ whole) (le-leb _ _ enough)))
