-- `routine_test::core_stands` meets its contract: each test decides one of the facts that the core asks for. Assumes nothing.
use Prim.Native.Nat.{ℕ, suc, pred, ◌+◌, ◌-◌, ◌<◌, ◌≤◌}
use mathlib.Core.Path.{◌≡◌, sym, ◌∙◌, ap}
use mathlib.Core.List.{List}
use mathlib.Core.Logic.{◌≢◌, ◌↔◌}
use mathlib.Core.Bool.{Bool, not, ◌&&◌}
use native.Mathlib.Numerals.{add-one}
use Rattle.std.proofs.Common.{arith}
use Rattle.lists.proofs.Bools.{clash}
use Rattle.lists.proofs.Exact.{flag_exact, eqb_exact, refused, agree}
use Rattle.model.specs.declared.Source.{Source}
use Rattle.model.specs.declared.Core.{Core}
use Rattle.model.specs.Records.{max_sources, max_cores}
use Rattle.model.specs.Requests.{boxed, claimed}
use Rattle.layout.specs.Bytes.{source_of, core_of, state_from}
use Rattle.layout.proofs.InPlace.{core_read, source_read}
use Rattle.routines.specs.declared.Routines.{Routines}
use Rattle.routines.specs.Routines.{active_at, holder_at, active_index}
use Rattle.routines.specs.Calls.{routines_in}
use Rattle.routine_test.specs.Standing.{Sizes}
use Rattle.routine_test.proofs.Exact.{Carries, idle_exact, running_exact}
use Rattle.routine_test.proofs.Read.{less_one, claimed_read}
use Rattle.routine_test.proofs.core_stands.Goals as goal
use Rattle.routine_test.proofs.core_stands.Goals.{then-c-r, else-c-r}

-- the id that is active on core k, and what is read at its place
module _ {b active holder : List ℕ} {n m : ℕ} (z : Sizes b active holder n m) {k : ℕ} (under : k < max_cores) where
  abbrev sim : Routines
  sim = routines_in b active holder

  abbrev index : ℕ
  index = active_index sim k

  module _ (some : active_at sim k ≢ 0) (id_le : active_at sim k ≤ n) {id : ℕ} (from : id ≡ active_at sim k) where
    place : id - 1 ≡ index
    place = less_one id ∙ ap pred from

    id_is : active_at sim k ≡ suc index
    id_is = omega (arith, place)

    inside : index < max_sources
    inside = omega (arith, place, z.n_le)

    module _ {c : Core} (ec : c ≡ core_of b k) {r : Source} (er : r ≡ source_of b (id - 1)) where
      source_is : r ≡ source_of b index
      source_is = er ∙ ap (source_of b) place

      claimed_is : {x : Bool} → x ≡ r.pending && r.delivered && not (boxed (state_from b).cores m (active_at sim k)) → x ≡ claimed sim.controller index
      claimed_is = claimed_read z index (active_at sim k) inside id_is source_is

      -- it is at its priority, and its source's last holder
      carries : {h : ℕ} → h ≡ holder_at sim (id - 1) → ((c.configured ≡ r.priority) × (h ≡ k + 1)) ↔ Carries sim index k
      carries {h} eh =
          let conf = ap (λ (x : Core). x.configured) (ec ∙ sym (core_read b k under)) in
          let prio = ap (λ (x : Source). x.priority) (source_is ∙ sym (source_read b index inside)) in
          let held = eh ∙ ap (holder_at sim) place in (
            λ (p, q). (sym conf ∙ p ∙ prio, sym held ∙ q ∙ add-one k),
            λ (p, q). (conf ∙ p ∙ sym prio, held ∙ q ∙ sym (add-one k)),
          )

-- ---- the answers

pub returns-then-id-eq0 : goal.returns-then-id-eq0
returns-then-id-eq0 c =
    let sim : Routines = routines_in c.args.state.now c.args.active.now c.args.holder.now in
    let e = ap (λ (x : Core). x.configured) (c.core_at-c.ensures ∙ sym (core_read c.args.state.now c.args.k c.requires.1)) in
    agree (eqb_exact _ _) (idle_exact sim c.args.k c.if-id-eq0.true) (λ h. sym e ∙ h) (λ h. e ∙ h)

pub returns-then-m-k : goal.returns-then-m-k
returns-then-m-k c =
    let sim : Routines = routines_in c.args.state.now c.args.active.now c.args.holder.now in
    let either = c.then-m-k.either in
    refused (running_exact sim c.args.k c.if-id-eq0.false) (λ p. omega (arith, either, p.0.core_in, p.0.source_in))

pub returns-then-last-k : goal.returns-then-last-k
returns-then-last-k c =
    let z = c.requires.0 in
    let k = c.args.k in
    let some = c.if-id-eq0.false in
    let active = id_is z c.requires.1 some c.if-n-id.false c.from-i.ensures in
    let e = claimed_is z c.requires.1 some c.if-n-id.false c.from-i.ensures c.core_at-c.ensures c.source_at-r.ensures c.is_claimed.ensures in
    let carried = carries z c.requires.1 some c.if-n-id.false c.from-i.ensures c.core_at-c.ensures c.source_at-r.ensures c.from-last.ensures in
    let both : (c.core_at-c.result.configured ≡ c.source_at-r.result.priority) × (c.from-last.result ≡ k + 1) =
    elim c.if-c-r.branch [
      | then-c-r w ↦ (w.if-c-r.true, (eqb_exact _ _).0 (sym w.value-is ∙ c.if-last-k.true))
      | else-c-r w ↦ absurd (w.if-c-r.false ((eqb_exact _ _).0 (sym w.value-is ∙ c.if-last-k.true)))
    ] in
    agree (flag_exact c.is_claimed.result) (running_exact _ k some)
    (λ h. (record { core_in = omega arith; source_in = omega arith; is_claimed = sym e ∙ h; active = active }, carried.0 both))
    (λ p. e ∙ p.0.is_claimed)

pub returns-else-last-k : goal.returns-else-last-k
returns-else-last-k c =
    let some = c.if-id-eq0.false in
    let carried = carries c.requires.0 c.requires.1 some c.if-n-id.false c.from-i.ensures c.core_at-c.ensures c.source_at-r.ensures c.from-last.ensures in
    c.if-last-k.false ∙
    refused (running_exact _ c.args.k some)
    (λ p. let (at_priority, last) = carried.1 p.1 in
    elim c.if-c-r.branch [
      | then-c-r w ↦ clash (w.value-is ∙ (eqb_exact _ _).1 last) c.if-last-k.false
      | else-c-r w ↦ w.if-c-r.false at_priority
    ])
