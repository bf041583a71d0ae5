-- The tests of single records: what each says of a source, a box, a core. Assumes nothing.
use Prim.Native.Nat.{ℕ, ◌≤◌}
use mathlib.Core.Path.{◌≡◌, ap}
use mathlib.Core.Logic.Iff
use mathlib.Core.Bool.{true, false}
use Rattle.model.specs.declared.Source.{Source}
use Rattle.model.specs.declared.MessageBox.{MessageBox}
use Rattle.model.specs.declared.Core.{Core}
use Rattle.model.specs.declared.Controller.{Controller}
use Rattle.model.specs.Records.{max_sources, max_cores, reset_source, reset_core, empty_box, index_of, source_at, source_id, core_with}
use Rattle.model.specs.WellFormed.{sizes_in_range, source_in_range, is_empty_box, core_in_range, is_reset_source, is_reset_core, backed_by, is_backed}
use Rattle.model.specs.WellFormed.{same_source, Holding}
use Rattle.model.specs.Statements.{InRange}
use Rattle.lists.proofs.Exact.{Exact, ◌and◌, flag_exact, not_exact, leb_exact, ltb_exact, eqb_exact, between_exact, unless_exact}
use Rattle.lists.proofs.Exact.{implies_exact}

pub sizes_exact : (n m : ℕ) → Exact (sizes_in_range n m) (InRange n m)
unfolding sizes_in_range
sizes_exact n m =
    Iff.trans (between_exact 1 max_sources n and between_exact 1 max_cores m) (
      λ ((a, b), (c, d)). record { some_source = a; n_le = b; some_core = c; m_le = d },
      λ r. ((r.some_source, r.n_le), (r.some_core, r.m_le)),
    )

-- ---- a source

pub record SourceFits (top : ℕ) (r : Source) : Type 0 where
  pub configured : (1 ≤ r.configured) × (r.configured ≤ top)
  pub request : r.pending ≡ true → (1 ≤ r.priority) × (r.priority ≤ top)
  pub idle : r.pending ≡ false → (r.delivered ≡ false) × (r.priority ≡ 0)

pub source_exact : (top : ℕ) (r : Source) → Exact (source_in_range top r) (SourceFits top r)
unfolding source_in_range
source_exact top r =
    Iff.trans
    (between_exact 1 top r.configured and
    implies_exact r.pending (between_exact 1 top r.priority) and
    unless_exact r.pending (not_exact r.delivered and eqb_exact r.priority 0))
    (λ ((c, q), i). record { configured = c; request = q; idle = i }, λ f. ((f.configured, f.request), f.idle))

pub reset_source_exact : (r : Source) → Exact (is_reset_source r) (r ≡ reset_source)
unfolding is_reset_source
reset_source_exact r =
    let x =
    eqb_exact r.configured 1 and
    flag_exact r.masked and
    not_exact r.pending and not_exact r.delivered and eqb_exact r.priority 0 and eqb_exact r.dropped 0
    in (
      λ e. let (((((a, b), c), d), p), l) = x.0 e in
          λ t. record { configured = a t; masked = b t; pending = c t; delivered = d t; priority = p t; dropped = l t },
      λ p. ap is_reset_source p,
    )

-- ---- a box and its core

pub empty_box_exact : (b : MessageBox) → Exact (is_empty_box b) (b ≡ empty_box)
unfolding is_empty_box
empty_box_exact b =
    let x =
    not_exact b.filled and not_exact b.dirty and eqb_exact b.source.0 0 and eqb_exact b.priority 0
    in (
      λ e. let (((f, d), i), p) = x.0 e in
          λ t. record { filled = f t; dirty = d t; source = source_id (i t); priority = p t },
      λ p. ap is_empty_box p,
    )

pub record CoreFits (top : ℕ) (c : Core) : Type 0 where
  pub configured : c.configured ≤ top
  pub empty : c.message.filled ≡ false → c.message ≡ empty_box

pub core_exact : (top : ℕ) (c : Core) → Exact (core_in_range top c) (CoreFits top c)
unfolding core_in_range
core_exact top c =
    Iff.trans (leb_exact c.configured top and unless_exact c.message.filled (empty_box_exact c.message))
    (λ (p, e). record { configured = p; empty = e }, λ f. (f.configured, f.empty))

pub reset_core_exact : (c : Core) → Exact (is_reset_core c) (c ≡ reset_core)
unfolding is_reset_core
reset_core_exact c =
    Iff.trans (eqb_exact c.configured 0 and empty_box_exact c.message)
    (λ f t. core_with (f.0 t) (f.1 t), λ p. (ap (λ (d : Core). d.configured) p, ap (λ (d : Core). d.message) p))

pub backed_exact : (s : Controller) (c : Core) →
    Exact (is_backed s.n s.sources c) (c.message.filled ≡ true → Holding s c)
unfolding backed_by
backed_exact s c =
    let r : Source = source_at s (index_of c.message.source) in
    implies_exact c.message.filled
    (Iff.trans
    (between_exact 1 s.n c.message.source.0 and
    flag_exact r.pending and flag_exact r.delivered and eqb_exact r.priority c.message.priority and
    unless_exact c.message.dirty (ltb_exact c.configured c.message.priority)) (
      λ (((((low, high), p), d), q), a). record { some_id = low; id_le = high; pending = p; delivered = d; same_priority = q; above = a },
      λ b. (((((b.some_id, b.id_le), b.pending), b.delivered), b.same_priority), b.above),
    ))

pub record SameSource (c d : Core) : Type 0 where
  pub left : c.message.filled ≡ true
  pub right : d.message.filled ≡ true
  pub source : c.message.source.0 ≡ d.message.source.0

pub same_source_exact : (c d : Core) → Exact (same_source c d) (SameSource c d)
same_source_exact c d =
    Iff.trans
    (flag_exact c.message.filled and
    flag_exact d.message.filled and eqb_exact c.message.source.0 d.message.source.0)
    (λ ((p, q), e). record { left = p; right = q; source = e }, λ f. ((f.left, f.right), f.source))
