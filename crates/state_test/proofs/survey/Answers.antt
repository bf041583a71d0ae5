-- `state_test::survey` meets its contract: with sizes in range, a state is consistent just if both passes succeed.
-- Assumes nothing.
use Prim.Native.Nat.{ℕ}
use mathlib.Core.Path.{◌≡◌, sym, ◌∙◌}
use mathlib.Core.Bool.{Bool, true}
use Rattle.std.proofs.Common.{arith}
use Rattle.model.specs.WellFormed.{sizes_in_range}
use Rattle.model.specs.Statements.{InRange}
use Rattle.model.proofs.Priorities.{top_lt}
use Rattle.lists.proofs.Exact.{refused, accepted, rejected}
use Rattle.layout.specs.Bytes.{state_from}
use Rattle.well_formed.proofs.Clauses.{sizes_exact}
use Rattle.well_formed.proofs.Test.{consistent_exact}
use Rattle.well_formed.proofs.Verdict.{survey_refused, survey_unsound}
use Rattle.state_test.proofs.Read.{sizes_read, holds_read, passes_read, survey_read}
use Rattle.state_test.proofs.survey.Goals as goal

-- what the test of the sizes says
in_range : {n m : ℕ} {r : Bool} → r ≡ sizes_in_range n m → r ≡ true → InRange n m
in_range = accepted (sizes_exact _ _)

pub returns-then-not-sizes_in_range : goal.returns-then-not-sizes_in_range
returns-then-not-sizes_in_range c =
    survey_refused _
    (sym (refused (consistent_exact (state_from c.args.state.now))
    (λ d.
    rejected (sizes_exact _ _) c.sizes_in_range.ensures c.if-not-sizes_in_range.true
    (sizes_read c.args.state.now c.word_at-n.ensures c.word_at-m.ensures d))))

pub overflow_cast-top : goal.overflow_cast-top
overflow_cast-top c =
    let r = in_range c.sizes_in_range.ensures c.if-not-sizes_in_range.false in
    let below = top_lt c.word_at-n.result r.some_source (omega (arith, r.n_le)) in
    omega (arith, c.top_priority-top.ensures, r.n_le, below)

pub survey_cores-requires : goal.survey_cores-requires
survey_cores-requires c =
    rw c.from.ensures
    (holds_read c.args.state.now c.word_at-n.ensures c.word_at-m.ensures c.requires
    (in_range c.sizes_in_range.ensures c.if-not-sizes_in_range.false) c.top_priority-top.ensures)

pub returns-in_err-v : goal.returns-in_err-v
returns-in_err-v c =
    let r = in_range c.sizes_in_range.ensures c.if-not-sizes_in_range.false in
    c.from_residual.ensures ∙
    survey_unsound _ (passes_read c.args.state.now c.word_at-n.ensures c.word_at-m.ensures r) (sym c.in_err-v.was ∙ c.survey_cores.ensures)

pub survey_sources-requires : goal.survey_sources-requires
survey_sources-requires c = (c.requires, rw c.from-2.ensures (in_range c.sizes_in_range.ensures c.if-not-sizes_in_range.false).n_le)

pub returns : goal.returns
returns c =
    c.survey_sources.ensures ∙
    rw c.from-2.ensures
    (survey_read c.args.state.now c.word_at-n.ensures c.word_at-m.ensures
    (in_range c.sizes_in_range.ensures c.if-not-sizes_in_range.false) c.top_priority-top.ensures (sym c.in_ok-v.was ∙ c.survey_cores.ensures))
