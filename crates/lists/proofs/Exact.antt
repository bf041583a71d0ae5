-- A test and the fact that it computes, and how a compound test's fact comes from its parts'. Assumes nothing.
--   Exact b P                 the test b succeeds exactly when P holds
--   x and y                   both tests
--   unless_exact, implies_exact, from_exact    a test under a condition: `a || b`, `not a || b`, `ltb i n || b`
--   every_exact               a test at each number below a bound
--   passes, refused           the test's value from the fact, and from its refutation
--   agree                     two tests of equivalent facts have the same value
--   given                     an answer r of the test says the same
--   accepted, rejected        what it says where the code branches on it
use Prim.Native.Nat.{ℕ, ◌<◌, ◌≤◌}
use mathlib.Core.Path.{◌≡◌, refl, sym, ◌∙◌}
use mathlib.Core.Logic.{◌↔◌}
use mathlib.Core.Bool.{Bool, true, false, not, ◌&&◌, ◌||◌}
use lib.Dec.{ltb, leb, eqb}
use borrow.Author.Tests.{ltb-true, ltb-false, leb-true, eqb-true, lt-ltb, le-ltb, le-leb, eq-eqb, not-true}
use Rattle.lists.specs.Walks.{every}
use Rattle.lists.specs.Numbers.{between}
use Rattle.lists.proofs.Bools.{and_in, and_l, and_r, not_in, clash, Flag, on, off, flag}
use Rattle.lists.proofs.Walks.{every_out, every_in}

infixl 35 ◌and◌
abbrev pub Exact : Bool → Type 0 → Type 0
Exact b P = (b ≡ true) ↔ P

-- ---- single tests

pub flag_exact : (a : Bool) → Exact a (a ≡ true)
flag_exact a = (λ e. e, λ e. e)

pub not_exact : (a : Bool) → Exact (not a) (a ≡ false)
not_exact a = (not-true a, not_in)

pub leb_exact : (a b : ℕ) → Exact (leb a b) (a ≤ b)
leb_exact a b = (leb-true a b, le-leb a b)

pub ltb_exact : (a b : ℕ) → Exact (ltb a b) (a < b)
ltb_exact a b = (ltb-true a b, lt-ltb a b)

pub eqb_exact : (a b : ℕ) → Exact (eqb a b) (a ≡ b)
eqb_exact a b = (eqb-true a b, eq-eqb a b)

-- ---- compound tests

pub ◌and◌ : {a b : Bool} {A B : Type 0} → Exact a A → Exact b B → Exact (a && b) (A × B)
◌and◌ {a} {b} x y = (λ e. (x.0 (and_l a b e), y.0 (and_r a b e)), λ p. and_in (x.1 p.0) (y.1 p.1))

pub between_exact : (low high x : ℕ) → Exact (between low high x) ((low ≤ x) × (x ≤ high))
between_exact low high x = leb_exact low x and leb_exact x high

pub refuted_exact : {b : Bool} {B : Type 0} → Exact b B → Exact (not b) (¬ B)
refuted_exact {b} {B} y = (λ e p. clash (y.1 p) (not-true b e), λ r. go (flag b) r)
  where
    go : Flag b → ¬ B → not b ≡ true
    go (on p) r = absurd (r (y.0 p))
    go (off p) r = not_in p

pub unless_exact : (a : Bool) {b : Bool} {B : Type 0} → Exact b B → Exact (a || b) (a ≡ false → B)
unless_exact true y = (λ e p. clash refl p, λ h. refl)
unless_exact false y = (λ e p. y.0 e, λ h. y.1 (h refl))

pub implies_exact : (a : Bool) {b : Bool} {B : Type 0} → Exact b B → Exact (not a || b) (a ≡ true → B)
implies_exact true y = (λ e p. y.0 e, λ h. y.1 (h refl))
implies_exact false y = (λ e p. clash p refl, λ h. refl)

-- at the numbers from n on
pub from_exact : (i n : ℕ) {b : Bool} {B : Type 0} → Exact b B → Exact (ltb i n || b) (n ≤ i → B)
from_exact i n y =
    let x = unless_exact (ltb i n) y in (λ e h. x.0 e (le-ltb i n h), λ h. x.1 (λ e. h (ltb-false i n e)))

pub every_exact : (n : ℕ) {f : ℕ → Bool} {P : ℕ → Type 0} → ((i : ℕ) → Exact (f i) (P i)) → Exact (every n f) ((i : ℕ) → i < n → P i)
every_exact n {f} x = (λ e i h. (x i).0 (every_out n f e i h), λ p. every_in n f (λ i h. (x i).1 (p i h)))

-- ---- a test's value

pub passes : {b : Bool} {B : Type 0} → Exact b B → B → true ≡ b
passes y p = sym (y.1 p)

pub refused : {b : Bool} {B : Type 0} → Exact b B → ¬ B → false ≡ b
refused {b} y r = sym (not-true b ((refuted_exact y).1 r))

-- an answer r of the test
pub given : {r b : Bool} {B : Type 0} → Exact b B → r ≡ b → Exact r B
given y e = (λ q. y.0 (sym e ∙ q), λ p. e ∙ y.1 p)

pub accepted : {r b : Bool} {B : Type 0} → Exact b B → r ≡ b → r ≡ true → B
accepted y e q = (given y e).0 q

pub rejected : {r b : Bool} {B : Type 0} → Exact b B → r ≡ b → r ≡ false → ¬ B
rejected y e q p = clash ((given y e).1 p) q

pub agree : {a b : Bool} {A B : Type 0} → Exact a A → Exact b B → (A → B) → (B → A) → a ≡ b
agree {a} {b} x y to back = go (flag a)
  where
    go : Flag a → a ≡ b
    go (on p) = p ∙ passes y (to (x.0 p))
    go (off p) = p ∙ refused y (λ q. clash (x.1 (back q)) p)
