-- What demand 3 over lists lets pass, so that demand 2 and the refusals must shut it out: a controller that refuses everything stays
-- fresh, and so does its ledger. Assumes nothing.
use Prim.Native.Nat.{ℕ}
use mathlib.Core.Path.{◌≡◌, refl, ap, ◌∙◌}
use mathlib.Core.Logic.{◌≢◌}
use mathlib.Core.List.{List, [], ◌∷◌}
use borrow.Author.Tests.{ne_eqb}
use Rattle.model.specs.Ledger.{entry_with, paired, Ledger, Entry, post, ledger, entries_by}
use Rattle.model.specs.Behaviours.{answers_by, run_by}
use Rattle.model.specs.declared.Controller.{Controller}
use Rattle.model.specs.declared.Command.{Command}
use Rattle.model.specs.Statements.{EveryListStrict}
use Rattle.theorems.proofs.DemandThree.{demand_three}
use Rattle.theorems.specs.Dummies.{refuse_everything}

module _ (number : ℕ) (other : number ≢ 0) where
  stays : (s : Controller) (cs : List Command) → run_by (refuse_everything number) s cs ≡ s
  unfolding run_by
  stays s [] = refl
  stays s (c ∷ cs) = stays s cs

  -- a refused command changes nothing in the ledger
  unentered : (b : Ledger) (e : Entry) → e.number ≡ number → post b e ≡ b
  unfolding post
  unentered b e same = rw (same, ne_eqb number 0 other)

  unposted : (b : Ledger) (s : Controller) (cs : List Command) → ledger b (entries_by (refuse_everything number) s cs) ≡ b
  unfolding ledger answers_by paired
  unposted b s [] = refl
  unposted b s (c ∷ cs) =
      ap (λ (a : Ledger). ledger a (entries_by (refuse_everything number) s cs)) (unentered b (entry_with c number 0) refl) ∙
      unposted b s cs

  pub refuse_everything-meets_three : EveryListStrict (refuse_everything number)
  unfolding ledger run_by answers_by paired
  refuse_everything-meets_three n m cs R = rw (stays, unposted) (demand_three.every_list_strict n m [] R)
