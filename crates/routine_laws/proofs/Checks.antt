-- Checks in a row, as many as there are: the number is that of the first one that fails. Assumes nothing.
--   Next P n R j      the lines of a row: n where P fails, and those of the checks after it
--   Chain t number R  a row whose turns come after t, with the number that its checks give
--   done, check       the empty row, and one check in front of a row
--   by_chain          the row's lines are those of a call, so its number is the call's
use Prim.Native.Nat.{ℕ, ◌<◌, ◌≤◌}
use mathlib.Core.Path.{◌≡◌, refl}
use mathlib.Core.Bool.{Bool}
use native.Mathlib.Omega.{arith}
use Rattle.lists.proofs.Bools.{Flag, on, off, flag, clash}
use Rattle.lists.proofs.Exact.{Exact}
use Rattle.model.specs.Commands.{unless}
use Rattle.model.specs.Statements.{turn}
use Rattle.routines.specs.declared.Routines.{Routines}
use Rattle.routines.specs.declared.RoutineCall.{RoutineCall}
use Rattle.routines.specs.Statements.{CallRow, CallRefusals}

pub data Next (P : Type 0) (n : ℕ) (R : ℕ → Type 0) : ℕ → Type 0 where
  fails : ¬ P → Next P n R n
  later : {j : ℕ} → R j → Next P n R j

abbrev pub NoLine : ℕ → Type 0
NoLine j = ⊥

-- What the number of a row says: 0, and no line is met; or the first line that is.
pub data Met (R : ℕ → Type 0) : ℕ → Type 0 where
  none : ((j : ℕ) → ¬ R j) → Met R 0
  first : (k : ℕ) → R k → ((j : ℕ) → R j → turn k ≤ turn j) → Met R k

pub record Chain (t number : ℕ) (R : ℕ → Type 0) : Type 0 where
  pub after : (j : ℕ) → R j → t < turn j
  pub some : (j : ℕ) → R j → 1 ≤ j
  -- the lines of a turn have one number
  pub sole : (j k : ℕ) → R j → R k → turn j ≡ turn k → j ≡ k
  pub met : Met R number

pub done : (t : ℕ) → Chain t 0 NoLine
done t = record { after = λ j e. absurd e; some = λ j e. absurd e; sole = λ j k e. absurd e; met = none (λ j e. e) }

module _ {t number : ℕ} {R : ℕ → Type 0} {b : Bool} {P : Type 0} (n : ℕ) (is : 1 ≤ n) (turns : t < turn n) (x : Exact b P)
    (rest : Chain (turn n) number R) where
  after_all : (j : ℕ) → Next P n R j → t < turn j
  after_all _ (fails h) = turns
  after_all j (later r) = omega (arith, rest.after j r)

  some_all : (j : ℕ) → Next P n R j → 1 ≤ j
  some_all _ (fails h) = is
  some_all j (later r) = rest.some j r

  sole_all : (j k : ℕ) → Next P n R j → Next P n R k → turn j ≡ turn k → j ≡ k
  sole_all _ _ (fails h) (fails g) e = refl
  sole_all _ k (fails h) (later r) e = absurd (omega (arith, rest.after k r))
  sole_all j _ (later r) (fails h) e = absurd (omega (arith, rest.after j r))
  sole_all j k (later r) (later q) e = rest.sole j k r q e

  least_here : (j : ℕ) → Next P n R j → turn n ≤ turn j
  least_here _ (fails h) = omega arith
  least_here j (later r) = omega (arith, rest.after j r)

  module _ (p : P) where
    passed_none : ((j : ℕ) → ¬ R j) → (j : ℕ) → ¬ Next P n R j
    passed_none h _ (fails f) = f p
    passed_none h j (later r) = h j r

    passed_least : (k : ℕ) → ((j : ℕ) → R j → turn k ≤ turn j) → (j : ℕ) → Next P n R j → turn k ≤ turn j
    passed_least k h _ (fails f) = absurd (f p)
    passed_least k h j (later r) = h j r

    passed_met : {m : ℕ} → Met R m → Met (Next P n R) m
    passed_met (none h) = none (passed_none h)
    passed_met (first k r h) = first k (later r) (passed_least k h)

  met_all : Flag b → Met (Next P n R) (unless b n number)
  met_all (off e) = rw e (first n (fails (λ p. clash (x.1 p) e)) least_here)
  met_all (on e) = rw e (passed_met (x.0 e) rest.met)

  pub check : Chain t (unless b n number) (Next P n R)
  check = record { after = after_all; some = some_all; sole = sole_all; met = met_all (flag b) }

-- ---- the lines of a call

module _ {s : Routines} {call : RoutineCall} {t number : ℕ} {R : ℕ → Type 0} (there : (j : ℕ) → CallRow s call j → R j)
    (back : (j : ℕ) → R j → CallRow s call j) (row : Chain t number R) where
  of_met : {m : ℕ} → Met R m → CallRefusals m s call
  of_met (none h) =
      record {
        given = λ k is. (λ e. absurd (omega arith), λ f. absurd (h k (there k f.0)));
        accepted = (λ e k r. h k (there k r), λ g. refl);
      }
  of_met (first k r f) =
      record {
        given = λ j is. (
          λ e. rw (← e) (back k r, λ i q. f i (there i q)),
          λ (q, g). row.sole k j r (there j q) (omega (arith, f j (there j q), g k (back k r))),
        );
        accepted = (λ e. absurd (omega (arith, row.some k r)), λ g. absurd (g k (back k r)));
      }

  pub by_chain : CallRefusals number s call
  by_chain = of_met row.met
