-- What is held after each store: bytes and numbers stay those of a state. Assumes nothing.
--   held_first                        a host's bytes hold the state that they encode
--   held_back, held_here              the state that is held is the one that is read
--   held_source, held_core            one record stored, with its number
--   read_source, read_core            one record read
--   back_empty, back_filled           a request put back
--   held_retracted, held_delivered    a retraction and a delivery
use Prim.Native.Nat.{ℕ, suc, ◌+◌, ◌-◌, ◌<◌}
use mathlib.Core.Path.{◌≡◌, refl, sym, ap, subst, ◌∙◌}
use mathlib.Core.List.{List}
use mathlib.Core.Bool.{true, false}
use lib.ListN.{length, set, length-set}
use lib.Seq.{sets}
use native.Mathlib.Omega.{arith}
use native.Mathlib.Numerals.{add-one, sub-one}
use Rattle.model.specs.declared.Source.{Source}
use Rattle.model.specs.declared.MessageBox.{MessageBox}
use Rattle.model.specs.declared.Core.{Core}
use Rattle.model.specs.declared.Controller.{Controller}
use Rattle.model.specs.Records.{max_sources, max_cores, no_source, no_core, source_id, empty_box, with_delivered, holding, core_with, source_at}
use Rattle.model.specs.Records.{core_at, with_source, with_sources, with_core}
use Rattle.model.specs.Settling.{put_back, retract, deliver}
use Rattle.lists.proofs.Filling.{filled_written}
use Rattle.arbitration.specs.Places.{key_at, rank_at}
use Rattle.layout.specs.Bytes.{source_bytes, core_bytes, state_bytes, is_state, source_from, core_from, state_from}
use Rattle.layout.specs.Statements.{AreBytes, Sized}
use Rattle.layout.proofs.InPlace.{source_in_place, core_in_place, source_stored, core_stored}
use Rattle.layout.proofs.Octets.{bytes_fit}
use Rattle.layout.proofs.RoundTrip.{state_length, state_read_back, bytes_written_back}
use Rattle.in_place.specs.declared.Ranking.{Ranking}
use Rattle.in_place.specs.Held.{source_place, core_place, with_keys, with_ranks, Numbered, Held, NamesSource, PutsBack}

module _ (s : Controller) {b : List ℕ} {g : Ranking} (e : b ≡ state_bytes s) (sized : Sized s) where
  -- the bytes have the length of a state's
  holding_bytes : Numbered s g → Held s b g
  holding_bytes numbered = record { bytes_are = e; size = ap length e ∙ state_length s sized; sized = sized; numbered = numbered }

pub held_first : {b : List ℕ} {g : Ranking} → is_state b ≡ true → AreBytes b → Numbered (state_from b) g → Held (state_from b) b g
held_first {b} encodes are numbered = holding_bytes (state_from b) (sym (bytes_written_back b are encodes)) (bytes_fit b are).0 numbered

module _ {s : Controller} {b : List ℕ} {g : Ranking} (h : Held s b g) where
  -- the state that is held is the one that is read
  pub held_back : state_from b ≡ s
  held_back = ap state_from h.bytes_are ∙ state_read_back s h.sized

  pub held_here : Held (state_from b) b g
  held_here = subst (λ (u : Controller). Held u b g) (sym held_back) h

  -- one record, and its number
  pub held_source :
      (i : ℕ) → i < max_sources → (r : Source) {b' : List ℕ} {g' : Ranking} →
      (b' ≡ sets b (source_place i) (source_bytes r)) × (g' ≡ with_ranks g (set g.ranks i (rank_at i r))) → Held (with_source s i r) b' g'
  held_source i i_lt r {b'} {g'} (eb, eg) =
      rw eg
      (holding_bytes (with_source s i r)
      (eb ∙ ap (λ (l : List ℕ). sets l (source_place i) (source_bytes r)) h.bytes_are ∙ source_stored s h.sized i r i_lt)
      (record { sources = length-set s.sources i r ∙ h.sized.sources; cores = h.sized.cores })
      (record {
        keyed = h.numbered.keyed;
        keys_length = h.numbered.keys_length;
        ranked =
            filled_written rank_at no_source s.sources s.n g.ranks h.numbered.ranked i r (rank_at i r)
            (omega (arith, i_lt, h.sized.sources)) (omega (arith, i_lt, h.numbered.ranks_length)) refl;
        ranks_length = length-set g.ranks i (rank_at i r) ∙ h.numbered.ranks_length;
      }))

  pub held_core :
      (k : ℕ) → k < max_cores → (c : Core) {b' : List ℕ} {g' : Ranking} →
      (b' ≡ sets b (core_place k) (core_bytes c)) × (g' ≡ with_keys g (set g.keys k (key_at k c))) → Held (with_core s k c) b' g'
  held_core k k_lt c {b'} {g'} (eb, eg) =
      rw eg
      (holding_bytes (with_core s k c)
      (eb ∙ ap (λ (l : List ℕ). sets l (core_place k) (core_bytes c)) h.bytes_are ∙ core_stored s h.sized k c k_lt)
      (record { sources = h.sized.sources; cores = length-set s.cores k c ∙ h.sized.cores })
      (record {
        keyed =
            filled_written key_at no_core s.cores s.m g.keys h.numbered.keyed k c (key_at k c)
            (omega (arith, k_lt, h.sized.cores)) (omega (arith, k_lt, h.numbered.keys_length)) refl;
        keys_length = length-set g.keys k (key_at k c) ∙ h.numbered.keys_length;
        ranked = h.numbered.ranked;
        ranks_length = h.numbered.ranks_length;
      }))

  pub read_source : (i : ℕ) → i < max_sources → source_from b (source_place i) ≡ source_at s i
  read_source i i_lt = ap (λ (l : List ℕ). source_from l (source_place i)) h.bytes_are ∙ source_in_place s h.sized i i_lt

  pub read_core : (k : ℕ) → k < max_cores → core_from b (core_place k) ≡ core_at s k
  read_core k k_lt = ap (λ (l : List ℕ). core_from l (core_place k)) h.bytes_are ∙ core_in_place s h.sized k k_lt

  -- a request put back
  pub back_empty : (box : MessageBox) → box.filled ≡ false → Held (with_sources s (put_back box s.sources)) b g
  back_empty box f = rw f h

  pub back_filled :
      (box : MessageBox) → NamesSource box → box.filled ≡ true → {r q : Source} {b' : List ℕ} {g' : Ranking} →
      r ≡ source_from b (source_place (box.source.0 - 1)) → q ≡ with_delivered false r →
      (b' ≡ sets b (source_place (box.source.0 - 1)) (source_bytes q)) ×
      (g' ≡ with_ranks g (set g.ranks (box.source.0 - 1) (rank_at (box.source.0 - 1) q))) →
      Held (with_sources s (put_back box s.sources)) b' g'
  back_filled box names f {r} {q} {b'} {g'} er eq stored =
      let in_array : box.source.0 - 1 < max_sources = omega (arith, names f) in
      let new : q ≡ with_delivered false (source_at s (box.source.0 - 1)) = eq ∙ ap (with_delivered false) (er ∙ read_source _ in_array) in
      let held : Held (with_source s (box.source.0 - 1) q) b' g' = held_source (box.source.0 - 1) in_array q stored in
      rw (f, ← sub-one box.source.0) (rw new at held)

-- ---- a retraction and a delivery, from what each store leaves

module _ {s : Controller} {b b₁ : List ℕ} {g g₁ : Ranking} {k : ℕ} {c : Core} (h : Held s b g) (k_lt : k < max_cores)
    (is : c ≡ core_at s k) (back : PutsBack c.message b g b₁ g₁) where
  waits : Held (with_sources s (put_back (core_at s k).message s.sources)) b₁ g₁
  waits = rw is at (back.1 s h)

  pub held_retracted :
      {d : Core} {b₂ : List ℕ} {g₂ : Ranking} → d ≡ core_with c.configured empty_box →
      (b₂ ≡ sets b₁ (core_place k) (core_bytes d)) × (g₂ ≡ with_keys g₁ (set g₁.keys k (key_at k d))) → Held (retract s k) b₂ g₂
  unfolding retract
  held_retracted {d} {b₂} {g₂} new stored =
      let made : d ≡ core_with (core_at s k).configured empty_box = new ∙ ap (λ (e : Core). core_with e.configured empty_box) is in
      held_core waits k k_lt (core_with (core_at s k).configured empty_box) (rw made at stored)

  pub held_delivered :
      {i : ℕ} → i < max_sources → {r q : Source} {d : Core} {b₂ b₃ : List ℕ} {g₂ g₃ : Ranking} → r ≡ source_at s i →
      q ≡ with_delivered true r →
      (b₂ ≡ sets b₁ (source_place i) (source_bytes q)) × (g₂ ≡ with_ranks g₁ (set g₁.ranks i (rank_at i q))) →
      d ≡ core_with c.configured (holding (source_id (i + 1)) r.priority) →
      (b₃ ≡ sets b₂ (core_place k) (core_bytes d)) × (g₃ ≡ with_keys g₂ (set g₂.keys k (key_at k d))) → Held (deliver s i k) b₃ g₃
  unfolding deliver
  held_delivered {i} i_lt {r} {q} {d} at_i new delivered taken stored =
      let made : q ≡ with_delivered true (source_at s i) = new ∙ ap (with_delivered true) at_i in
      let filled : d ≡ core_with (core_at s k).configured (holding (source_id (suc i)) (source_at s i).priority)
      = rw (taken, is, at_i, add-one i) in
      let marked : Held (with_sources s (set (put_back (core_at s k).message s.sources) i (with_delivered true (source_at s i)))) _ _
      = held_source waits i i_lt (with_delivered true (source_at s i)) (rw made at delivered) in
      held_core marked k k_lt _ (rw filled at stored)
