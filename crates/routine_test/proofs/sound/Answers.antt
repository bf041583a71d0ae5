-- `routine_test::sound` meets its contract: each loop keeps that the cores, or the sources, passed stand as the test asks.
-- Assumes nothing.
use Prim.Native.Nat.{ℕ}
use mathlib.Core.Path.{◌≡◌, sym, ◌∙◌}
use mathlib.Core.List.{List}
use mathlib.Core.Bool.{true}
use lib.ListN.{length}
use Rattle.std.proofs.Common.{arith}
use Rattle.lists.proofs.Bools.{clash}
use Rattle.lists.proofs.Exact.{passes, refused}
use Rattle.model.specs.Records.{max_sources, max_cores}
use Rattle.model.specs.WellFormed.{well_formed}
use Rattle.well_formed.proofs.Test.{test_exact}
use Rattle.layout.specs.Bytes.{state_size, state_from, word_at}
use Rattle.routines.specs.declared.Routines.{Routines}
use Rattle.routines.specs.Calls.{routines_in}
use Rattle.routine_test.specs.Standing.{Sizes}
use Rattle.routine_test.proofs.Exact.{stands_exact}
use Rattle.routine_test.proofs.sound.Goals as goal

-- the sizes are read
sizes :
    {b active holder : List ℕ} → (length b ≡ state_size) × (length active ≡ max_cores) × (length holder ≡ max_sources) →
    well_formed (state_from b) ≡ true → {n m : ℕ} → n ≡ word_at b 0 → m ≡ word_at b 2 → Sizes b active holder n m
unfolding state_from
sizes {b} p tested {n} {m} en em =
    let well = (test_exact (state_from b)).0 tested in
    record {
      bytes = p.0;
      active_length = p.1;
      holder_length = p.2;
      n_is = en;
      m_is = em;
      n_le = omega (arith, well.consistent.n_le);
      m_le = omega (arith, well.consistent.m_le);
    }

pub returns-then-not-well_formed : goal.returns-then-not-well_formed
returns-then-not-well_formed c =
    let sim : Routines = routines_in c.args.state.now c.args.active.now c.args.holder.now in
    refused (stands_exact sim c.requires.1 c.requires.2)
    (λ p. clash (c.well_formed-2.ensures ∙ p.controller) c.if-not-well_formed.true)

pub core_stands-requires : goal.core_stands-requires
core_stands-requires c =
    let tested = sym c.well_formed-2.ensures ∙ c.if-not-well_formed.false in
    (sizes c.requires tested c.word_at-n.ensures (c.from-m.ensures ∙ c.word_at.ensures), c.loop-k-test.true)

pub returns-then-not-core_stands : goal.returns-then-not-core_stands
returns-then-not-core_stands c =
    let sim : Routines = routines_in c.args.state.now c.args.active.now c.args.holder.now in
    refused (stands_exact sim c.requires.1 c.requires.2)
    (λ p. clash (c.core_stands.ensures ∙ p.cores c.loop-k.k c.loop-k-test.true) c.if-not-core_stands.true)

pub source_stands-requires : goal.source_stands-requires
source_stands-requires c =
    let tested = sym c.well_formed-2.ensures ∙ c.if-not-well_formed.false in
    (sizes c.requires tested c.word_at-n.ensures (c.from-m.ensures ∙ c.word_at.ensures), c.loop-i-test.true)

pub returns-then-not-source_stands : goal.returns-then-not-source_stands
returns-then-not-source_stands c =
    let sim : Routines = routines_in c.args.state.now c.args.active.now c.args.holder.now in
    refused (stands_exact sim c.requires.1 c.requires.2)
    (λ p. clash (c.source_stands.ensures ∙ p.sources c.loop-i.i c.loop-i-test.true) c.if-not-source_stands.true)

pub returns : goal.returns
returns c =
    let sim : Routines = routines_in c.args.state.now c.args.active.now c.args.holder.now in
    passes (stands_exact sim c.requires.1 c.requires.2)
    (record {
      controller = sym c.well_formed-2.ensures ∙ c.if-not-well_formed.false;
      cores = λ k h. c.loop-k.invariant k (omega arith);
      sources = λ i h. c.loop-i.invariant i (omega arith);
    })
