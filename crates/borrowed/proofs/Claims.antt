-- Whether a core record can be claimed, and what the claim gives, from what the tests mean. Assumes nothing.
use Rattle.std.proofs.Common.{rules}
use Prim.Native.Nat.{◌<◌, ◌≤◌}
use mathlib.Core.Path.{◌≡◌, sym, ap, ◌∙◌}
use mathlib.Core.Bool.{Bool, true, false, not}
use borrow.Author.Tests.{not-true, not-false, lt-ltb}
use Rattle.lists.proofs.Exact.{between_exact}
use Rattle.model.specs.declared.Core.{Core}
use Rattle.model.specs.declared.Taken.{Taken}
use Rattle.model.specs.Records.{max_sources, source_id, taken}
use Rattle.model.specs.Priorities.{top_priority}
use Rattle.model.specs.Commands.{claimed_core, nothing_to_claim}
use Rattle.borrowed.specs.Lent.{claimable, taken_from}

module _ (c : Core) where
  -- a box that names a source, its priority in range and above the configured one: only a dirty one can't be claimed
  pub clean_only :
      1 ≤ c.message.source.0 → c.message.source.0 ≤ max_sources →
      1 ≤ c.message.priority → c.message.priority ≤ top_priority max_sources →
      c.configured < c.message.priority → not c.message.dirty ≡ claimable c
  unfolding claimable
  clean_only some_id id-in some-priority priority-in above =
      let named = (between_exact 1 max_sources c.message.source.0).1 (some_id, id-in) in
      let in_range = (between_exact 1 (top_priority max_sources) c.message.priority).1 (some-priority, priority-in) in
      rw (named, in_range, lt-ltb c.configured c.message.priority above)

  pub taken_empty : {r : Taken} → not c.message.filled ≡ true → r ≡ taken nothing_to_claim (source_id 0) c → r ≡ taken_from c
  unfolding taken_from
  taken_empty e q = let f : c.message.filled ≡ false = not-true c.message.filled e in search rules

  pub taken_good :
      {r : Taken} {b : Bool} {d : Core} → not c.message.filled ≡ false → b ≡ claimable c → not b ≡ false → d ≡ claimed_core c →
      r ≡ taken 0 c.message.source d → r ≡ taken_from c
  unfolding taken_from
  taken_good {r = r} {b = b} filled e f g q =
      let box : c.message.filled ≡ true = not-false c.message.filled filled in
      let can : claimable c ≡ true = sym e ∙ not-false b f in
      let after : r ≡ taken 0 c.message.source (claimed_core c) = q ∙ ap (taken 0 c.message.source) g in
      search rules
