-- The ledger as a picture of the state. Helpers of proofs; nothing here needs to be believed.
use Rattle.std.specs.Prelude.{ℕ, suc, ◌<◌, ◌≡◌, not, ◌&&◌, cond}
use Rattle.model.specs.declared.Source.{Source}
use Rattle.model.specs.declared.Controller.{Controller}
use Rattle.model.specs.declared.Command.{Command}
use Rattle.model.specs.Records.{source_at, core_at}
use Rattle.model.specs.Requests.{boxed}
use Rattle.model.specs.Commands.{execute}
use Rattle.model.specs.WellFormed.{WellFormed}
use Rattle.model.specs.Ledger.{Ledger, Request, no_request, open_request, claimed_request, post, entry_of}
use Rattle.model.specs.Statements.{PriorityStrict}

-- The request that the record r of source i + 1 stands for, as the ledger would have it, the cores being those of s.
abbrev pub request_in : Controller → ℕ → Source → Request
request_in s i r =
    cond r.pending
    (cond (r.pending && r.delivered && not (boxed s.cores s.m (suc i))) (claimed_request r.priority) (open_request r.priority))
    no_request

-- Of the state's own record; the test is whether the request is claimed.
abbrev pub request_of : Controller → ℕ → Request
request_of s i = request_in s i (source_at s i)

pub record Matches (n m : ℕ) (b : Ledger) (s : Controller) : Type 0 where
  pub n_same : s.n ≡ n
  pub m_same : s.m ≡ m
  pub core : (k : ℕ) → k < m → b.core k ≡ (core_at s k).configured
  pub configured : (i : ℕ) → i < n → b.configured (suc i) ≡ (source_at s i).configured
  pub masked : (i : ℕ) → i < n → b.masked (suc i) ≡ (source_at s i).masked
  pub request : (i : ℕ) → i < n → b.request (suc i) ≡ request_of s i

-- ---- statements

-- A sound state that the ledger matches is priority-strict.
abbrev pub MatchedStrict : Type 0
MatchedStrict = (n m : ℕ) (b : Ledger) (s : Controller) → WellFormed s → Matches n m b s → PriorityStrict n m b s

-- One command keeps the match.
abbrev pub MatchKept : Type 0
MatchKept =
    (n m : ℕ) (b : Ledger) (s : Controller) (c : Command) → WellFormed s → Matches n m b s →
    Matches n m (post b (entry_of s c)) (execute s c).state
