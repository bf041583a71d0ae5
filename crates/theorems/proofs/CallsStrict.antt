-- What a command's call tells (`ExecuteTells`), and demand 3 of commands called one by one (`CallsStrict`). Assumes nothing.
use Prim.Native.Nat.{◌^◌, ◌<◌, ◌≤◌}
use mathlib.Core.Path.{◌≡◌, refl, ap}
use mathlib.Core.List.{List, [], ◌∷◌}
use native.Mathlib.Omega.{arith}
use Rattle.model.specs.Behaviours.{answers_by, run_by}
use Rattle.theorems.proofs.DemandThree.{reset_strict}
use Rattle.effects.proofs.Counts.{dropped_is_history}
use Rattle.model.specs.declared.Controller.{Controller}
use Rattle.model.specs.declared.Command.{Command}
use Rattle.model.specs.declared.Command.TheVariants.{OnSource, OnCore}
use Rattle.model.specs.declared.CoreAction.TheVariants.{SetCorePriority, Claim}
use Rattle.model.specs.Records.{max_sources, reset}
use Rattle.model.specs.WellFormed.{WellFormed}
use Rattle.model.specs.Commands.{refusal, answered_id, settled, refused, execute, run}
use Rattle.model.specs.Ledger.{Entry, entry_with, paired, entries}
use Rattle.layout.specs.Bytes.{state_bytes, state_from, packed, number_in, id_in, cycles_in, call_of, execute_call}
use Rattle.well_formed.proofs.Reset.{reset-well_formed}
use Rattle.effects.proofs.Accepted.{by_answer}
use Rattle.effects.proofs.Checked.{accepted}
use Rattle.effects.proofs.Kept.{well_formed-kept}
use Rattle.theorems.proofs.Refusals.{at_most_nine}
use Rattle.layout.specs.Statements.{Sized}
use Rattle.layout.proofs.RoundTrip.{state_read_back, state_encoded}
use Rattle.layout.proofs.Commands.{command_of-numbers, packed_read}
use Rattle.layout.specs.CallStatements.{ExecuteTells, calling, after_calls, told_by_calls, CallsStrict}
use Rattle.theorems.proofs.RunStrict.{sized, run-well_formed, fresh}

-- ---- what a call tells

-- only a claim answers an id, that of the source which its box names
answered_id_lem : (s : Controller) (c : Command) → refusal s c ≡ 0 → answered_id s c ≤ max_sources
unfolding answered_id
answered_id_lem s (OnSource id a) e = omega arith
answered_id_lem s (OnCore k (SetCorePriority p)) e = omega arith
answered_id_lem s (OnCore k Claim) e =
    let (w, claim) = accepted s (OnCore k Claim) e in
    omega (arith, (w.consistent.backed k.0 claim.0 claim.1).id_le, w.consistent.n_le)

id_fits : (s : Controller) (c : Command) → (execute s c).id.0 < 2 ^ 16
unfolding settled refused
id_fits s c = by_answer s c (λ a. a.id.0 < 2 ^ 16) (λ e. omega (arith, answered_id_lem s c e)) (λ h. omega arith)

tells :
    (s : Controller) (c : Command) →
    let told = packed (execute s c) in
    (number_in told ≡ (execute s c).number) × (id_in told ≡ (execute s c).id.0) × (cycles_in told ≡ (execute s c).cycles)
tells s c =
    packed_read (execute s c) (omega (arith, at_most_nine s c)) (id_fits s c)

pub execute_tells : ExecuteTells
unfolding execute_call
execute_tells number at p b c e ec = rw (e, ec) (tells (state_from b) c)

-- ---- one call after another

called :
    (s : Controller) (c : Command) → Sized s →
    calling (state_bytes s) c ≡ call_of (packed (execute s c)) (state_bytes (execute s c).state)
unfolding execute_call
called s c z = rw ((state_encoded s z).0, command_of-numbers c, state_read_back s z)

calls_run :
    (s : Controller) (cs : List Command) → WellFormed s →
    (after_calls (state_bytes s) cs ≡ state_bytes (run s cs)) × (told_by_calls (state_bytes s) cs ≡ entries s cs)
unfolding after_calls told_by_calls run_by answers_by paired
calls_run s [] w = (refl, refl)
calls_run s (c ∷ cs) w =
    let (bytes, told) = calls_run (execute s c).state cs (well_formed-kept s c w) in
    let (number, id, cycles) = tells s c in
    rw (called s c (sized s w), number, id)
    (bytes, ap (λ (es : List Entry). entry_with c (execute s c).number (execute s c).id.0 ∷ es) told)

pub calls_strict : CallsStrict
calls_strict n m b cs R h =
    let w = reset-well_formed n m R in
    let (bytes, told) = calls_run (reset n m) cs w in
    let last = run (reset n m) cs in
    rw (fresh n m R b h, told, bytes, state_read_back last (sized last (run-well_formed (reset n m) cs w)))
    (reset_strict n m cs R, dropped_is_history n m cs)
