-- What a refused command hands back: the state given, but for a trigger that is counted as dropped. Assumes nothing.
--   kept, counted, core_kept    by a number other than 6; by 6; a command on a core, by any
--   by_refusal                  what holds of the two holds of what is handed back
--   drops_checked, drops_named  what is refused by 6 on a source names one, in a sound state, and the last of its checks gives the number
--   one_read, drop_read         a reading of sources in which the count doesn't show stays, where one is dropped, and after every refusal
--   beside                      a reading in which the sources don't show stays: sizes, cores
--   refused-well_formed          and a sound state stays sound
use Prim.Native.Nat.{ℕ, ◌<◌}
use mathlib.Core.Path.{◌≡◌, refl, sym, ap, ◌∙◌}
use mathlib.Core.Logic.{◌≢◌}
use mathlib.Core.List.{List}
use native.Mathlib.Omega.{arith}
use lib.Dec.{eqb}
use borrow.Author.Tests.{eq-eqb, ne_eqb, eqb-true, eqb-false}
use Rattle.model.specs.declared.SourceId.{SourceId}
use Rattle.model.specs.declared.CoreId.{CoreId}
use Rattle.model.specs.declared.Source.{Source}
use Rattle.model.specs.declared.Controller.{Controller}
use Rattle.model.specs.declared.Command.{Command}
use Rattle.model.specs.declared.Command.TheVariants.{OnSource, OnCore}
use Rattle.model.specs.declared.SourceAction.{SourceAction}
use Rattle.model.specs.declared.CoreAction.{CoreAction}
use Rattle.model.specs.Records.{no_source, index_of, with_dropped, dropped_one, source_at, with_sources, with_source}
use Rattle.model.specs.Requests.{candidate}
use Rattle.model.specs.WellFormed.{well_formed, WellFormed}
use Rattle.model.specs.Commands.{malformed, bad_source, already_pending, names_source, source_refusal, refusal_of, refusal, drop_counted}
use Rattle.model.specs.Commands.{after_refusal}
use Rattle.lists.proofs.Bools.{Flag, flag, on, off}
use Rattle.lists.proofs.Writes.{read_kept}
use Rattle.well_formed.proofs.Test.{well_formed-out}
use Rattle.effects.proofs.Checked.{Named, named, named_index, passed_to}
use Rattle.effects.proofs.SourceEffects.{with_source-consistent}

module _ (s : Controller) (c : Command) (k : ℕ) where
  pub kept : k ≢ already_pending → after_refusal s c k ≡ s
  kept h = rw (ne_eqb k already_pending h)

  pub counted : k ≡ already_pending → after_refusal s c k ≡ drop_counted s c
  counted e = rw (eq-eqb k already_pending e)

  -- what holds of the state given and of that with the trigger counted
  pub by_refusal :
      (P : Controller → Type 0) → (k ≢ already_pending → P s) → (k ≡ already_pending → P (drop_counted s c)) → P (after_refusal s c k)
  by_refusal P stays drops = go (flag (eqb k already_pending))
    where
      go : Flag (eqb k already_pending) → P (after_refusal s c k)
      go (on e) = rw e (drops (eqb-true k already_pending e))
      go (off e) = rw e (stays (eqb-false k already_pending e))

pub core_kept : (s : Controller) (core : CoreId) (a : CoreAction) (k : ℕ) → after_refusal s (OnCore core a) k ≡ s
core_kept s core a k = by_refusal s (OnCore core a) k (λ t. t ≡ s) (λ h. refl) (λ e. refl)

-- ---- what is read beside the sources

module _ {A : Type 0} (read : Controller → A) (s : Controller) (blind : (l : List Source) → read (with_sources s l) ≡ read s) where
  pub beside : (c : Command) (k : ℕ) → read (after_refusal s c k) ≡ read s
  beside (OnSource id a) k = by_refusal s (OnSource id a) k (λ t. read t ≡ read s) (λ h. refl) (λ e. blind _)
  beside (OnCore core a) k = ap read (core_kept s core a k)

-- ---- what is refused by 6

-- The checks before the last were passed, and that one gives the number.
pub drops_checked : (s : Controller) (id : SourceId) (a : SourceAction) → refusal s (OnSource id a) ≡ already_pending →
    WellFormed s × Named s id × (source_refusal s (index_of id) a ≡ already_pending)
unfolding refusal refusal_of
drops_checked s id a e =
    let (sound, checks) = passed_to already_pending (well_formed s) malformed (refusal_of s (OnSource id a)) (λ z. omega arith) e in
    let (here, last) = passed_to already_pending (names_source s id) bad_source (source_refusal s (index_of id) a) (λ z. omega arith) checks in
    (well_formed-out s sound, named s id here, last)

pub drops_named : (s : Controller) (id : SourceId) (a : SourceAction) →
    refusal s (OnSource id a) ≡ already_pending → WellFormed s × (index_of id < s.n)
drops_named s id a e = let (w, h, last) = drops_checked s id a e in (w, named_index s id h)

-- ---- what is read of the sources

module _ {A : Type 0} (read : Source → A) (blind : (x : ℕ) (r : Source) → read (with_dropped x r) ≡ read r) where
  pub one_read : (s : Controller) (i j : ℕ) → read (source_at (with_source s i (dropped_one (source_at s i))) j) ≡ read (source_at s j)
  one_read s i j =
      read_kept (λ (at : ℕ). read) s.sources i j (dropped_one (source_at s i)) no_source (blind _ (source_at s i))

  pub drop_read : (s : Controller) (c : Command) (k j : ℕ) → read (source_at (after_refusal s c k) j) ≡ read (source_at s j)
  drop_read s (OnSource id a) k j =
      by_refusal s (OnSource id a) k (λ t. read (source_at t j) ≡ read (source_at s j)) (λ h. refl) (λ e. one_read s (index_of id) j)
  drop_read s (OnCore core a) k j = ap (λ t. read (source_at t j)) (core_kept s core a k)

-- ---- a sound state

module _ (s : Controller) (w : WellFormed s) (i : ℕ) (i_lt : i < s.n) where
  pub dropped_well_formed : WellFormed (with_source s i (dropped_one (source_at s i)))
  dropped_well_formed =
      record {
        consistent =
            with_source-consistent s w.consistent i i_lt (dropped_one (source_at s i))
            (record {
              configured = w.consistent.configured_source i i_lt;
              request = w.consistent.request_range i i_lt;
              idle = w.consistent.idle_source i i_lt;
              in_box = λ k h e. (refl, refl, refl);
            });
        clean = w.clean;
        quiet =
            record {
              candidates_below =
                  λ j k j-lt k_lt is.
                  rw (one_read (λ (r : Source). r.priority) (λ x r. refl) s i j)
                  (w.quiet.candidates_below j k j-lt k_lt (sym (one_read candidate (λ x r. refl) s i j) ∙ is));
              covered_below = w.quiet.covered_below;
            };
        frugal = w.frugal;
      }

pub refused-well_formed : (s : Controller) (c : Command) → WellFormed s → WellFormed (after_refusal s c (refusal s c))
refused-well_formed s (OnSource id a) w =
    by_refusal s (OnSource id a) (refusal s (OnSource id a)) WellFormed (λ h. w)
    (λ e. dropped_well_formed s w (index_of id) (drops_named s id a e).1)
refused-well_formed s (OnCore core a) w = rw (core_kept s core a (refusal s (OnCore core a))) w
