-- The numbers of a state's bytes, one record after another. Assumes nothing.
--   Numbering b k i g         those of the first k cores and the first i sources are made
--   key_more, rank_more       one number more
--   numbered_all              all of them
use Prim.Native.Nat.{ℕ, ◌+◌, ◌<◌, ◌≤◌}
use mathlib.Core.Path.{◌≡◌, sym, ap, ◌∙◌}
use mathlib.Core.List.{List}
use lib.ListN.{set}
use native.Mathlib.Omega.{arith}
use Rattle.lists.proofs.Filling.{Filling, filling_more}
use Rattle.model.specs.declared.Source.{Source}
use Rattle.model.specs.declared.Core.{Core}
use Rattle.model.specs.Records.{max_sources, max_cores, no_source, no_core}
use Rattle.arbitration.specs.Places.{key_at, rank_at}
use Rattle.layout.specs.Bytes.{source_from, core_from, state_from}
use Rattle.layout.proofs.InPlace.{source_read, core_read}
use Rattle.in_place.specs.declared.Ranking.{Ranking}
use Rattle.in_place.specs.Held.{source_place, core_place, with_keys, with_ranks, Numbered}

-- The cores below k and the sources below i have their numbers.
pub record Numbering (b : List ℕ) (k i : ℕ) (g : Ranking) : Type 0 where
  pub keyed : Filling key_at no_core (state_from b).cores max_cores k g.keys
  pub ranked : Filling rank_at no_source (state_from b).sources max_sources i g.ranks

module _ {b : List ℕ} {k i : ℕ} {g : Ranking} (before : Numbering b k i g) where
  pub key_more :
      {v : ℕ} {c : Core} → k < max_cores → c ≡ core_from b (core_place k) → v ≡ key_at k c →
      Numbering b (k + 1) i (with_keys g (set g.keys k v))
  key_more {v} k_lt read is =
      record {
        keyed = filling_more key_at no_core (state_from b).cores before.keyed k_lt v (is ∙ ap (key_at k) (read ∙ sym (core_read b k k_lt)));
        ranked = before.ranked;
      }

  pub rank_more :
      {v : ℕ} {r : Source} → i < max_sources → r ≡ source_from b (source_place i) → v ≡ rank_at i r →
      Numbering b k (i + 1) (with_ranks g (set g.ranks i v))
  rank_more {v} i_lt read is =
      record {
        keyed = before.keyed;
        ranked =
            filling_more rank_at no_source (state_from b).sources before.ranked i_lt v
            (is ∙ ap (rank_at i) (read ∙ sym (source_read b i i_lt)));
      }

  pub numbered_all : (state_from b).m ≤ k → (state_from b).n ≤ i → Numbered (state_from b) g
  numbered_all all-cores all-sources =
      record {
        keyed = λ j h. before.keyed.filled j (omega arith);
        keys_length = before.keyed.whole;
        ranked = λ j h. before.ranked.filled j (omega arith);
        ranks_length = before.ranked.whole;
      }
