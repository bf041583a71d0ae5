-- Demand 3 over every list of commands (`DemandThree`): the ledger matches the state from the reset on, each command keeps the
-- match and soundness, and a sound state that the ledger matches is priority-strict. Assumes nothing.
use Prim.Native.Nat.{ℕ, ◌<◌}
use mathlib.Core.Path.{◌≡◌, refl, sym, subst}
use mathlib.Core.List.{List, [], ◌∷◌}
use native.Mathlib.Omega.{arith}
use Rattle.model.specs.Ledger.{paired, Ledger, opening, ledger, entry_of, entries, post}
use Rattle.model.specs.Behaviours.{answers_by, run_by}
use Rattle.model.specs.declared.Controller.{Controller}
use Rattle.model.specs.declared.Answer.{Answer}
use Rattle.model.specs.declared.Command.{Command}
use Rattle.model.specs.Records.{reset_source, source_at, reset}
use Rattle.model.specs.WellFormed.{WellFormed}
use Rattle.model.specs.Commands.{execute, run}
use Rattle.model.specs.Statements.{InRange, PriorityStrict, EveryListStrict, DemandThree}
use Rattle.well_formed.proofs.Reset.{core_reset, source_reset, reset-well_formed, makes_exactly}
use Rattle.effects.proofs.Kept.{well_formed-kept, nothing_cut_short, cycles_bounded}
use Rattle.theorems.specs.Matches.{Matches}
use Rattle.theorems.proofs.Matching.{match_kept}
use Rattle.theorems.proofs.MatchedStrict.{matched_strict}

-- the ledger opens as a reset controller stands
pub opening_matches : (n m : ℕ) → InRange n m → Matches n m opening (reset n m)
opening_matches n m R =
    let source : (i : ℕ) → i < n → source_at (reset n m) i ≡ reset_source = λ i h. source_reset n m i (omega arith) in
    record {
      n_same = refl;
      m_same = refl;
      core = λ k h. rw (core_reset n m k);
      configured = λ i h. rw (source i h);
      masked = λ i h. rw (source i h);
      request = λ i h. rw (source i h);
    }

-- from a sound state that the ledger matches
pub run_matches :
    (n m : ℕ) (b : Ledger) (s : Controller) (cs : List Command) → WellFormed s → Matches n m b s →
    WellFormed (run s cs) × Matches n m (ledger b (entries s cs)) (run s cs)
unfolding ledger answers_by paired run_by
run_matches n m b s [] W M = (W, M)
run_matches n m b s (c ∷ cs) W M =
    run_matches n m (post b (entry_of s c)) (execute s c).state cs (well_formed-kept s c W) (match_kept n m b s c W M)

-- what is claimed of a list of commands from the state s
abbrev StrictFrom : ℕ → ℕ → List Command → Controller → Type 0
StrictFrom n m cs s = PriorityStrict n m (ledger opening (entries s cs)) (run s cs)

pub reset_strict : (n m : ℕ) (cs : List Command) → InRange n m → StrictFrom n m cs (reset n m)
reset_strict n m cs R =
    let (W, M) = run_matches n m opening (reset n m) cs (reset-well_formed n m R) (opening_matches n m R) in
    matched_strict n m (ledger opening (entries (reset n m) cs)) (run (reset n m) cs) W M

made_strict : EveryListStrict execute
made_strict n m cs R = subst (λ (a : Answer). StrictFrom n m cs a.state) (sym ((makes_exactly n m).0 R)) (reset_strict n m cs R)

pub demand_three : DemandThree
demand_three =
    record { every_list_strict = made_strict; cycles_bounded = cycles_bounded; nothing_cut_short = nothing_cut_short }
