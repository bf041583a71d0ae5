-- The request that the ledger has of a source, by the source's flags. Assumes nothing.
--   pending_priority    the ledger has the priority of a pending request, claimed or not
--   unboxed_waits       an open request in no box waits
use Prim.Native.Nat.{ℕ, suc, ◌<◌}
use mathlib.Core.Path.{◌≡◌, refl}
use mathlib.Core.Bool.{Bool, true, false, not, ◌&&◌, cond}
use Rattle.model.specs.declared.Controller.{Controller}
use Rattle.model.specs.Records.{source_at}
use Rattle.model.specs.Requests.{waiting, boxed, claimed}
use Rattle.model.specs.Ledger.{Ledger, no_request, open_request, claimed_request, priority_of, is_open}
use Rattle.theorems.specs.Matches.{Matches, request_of}

own_priority :
    {pending : Bool} (c : Bool) (p : ℕ) → pending ≡ true →
    priority_of (cond pending (cond c (claimed_request p) (open_request p)) no_request) ≡ p
own_priority true p e = rw e
own_priority false p e = rw e

open_waits :
    (pending delivered : Bool) (p : ℕ) →
    is_open (cond pending (cond (pending && delivered && true) (claimed_request p) (open_request p)) no_request) ≡ true →
    pending && not delivered ≡ true
open_waits true true p e = e
open_waits true false p e = refl
open_waits false d p e = e

module _ (n m : ℕ) (b : Ledger) (s : Controller) (M : Matches n m b s) (i : ℕ) (named : i < n) where
  pub pending_priority : (source_at s i).pending ≡ true → priority_of (b.request (suc i)) ≡ (source_at s i).priority
  pending_priority e = rw (M.request i named) (own_priority (claimed s i) (source_at s i).priority e)

  pub unboxed_waits : is_open (b.request (suc i)) ≡ true → boxed s.cores s.m (suc i) ≡ false → waiting (source_at s i) ≡ true
  unboxed_waits o e =
      let r : is_open (request_of s i) ≡ true = rw (M.request i named) at o in
      open_waits (source_at s i).pending (source_at s i).delivered (source_at s i).priority (rw e at r)
