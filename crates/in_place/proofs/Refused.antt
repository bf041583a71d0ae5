-- What is answered besides the state. A refused command leaves bytes and numbers as they were. Assumes nothing.
--   says_same                              what an outcome says is one number, one id and one count of cycles
--   refused                                a refusal answers its number
--   none_here                              an Option without a value is None
--   number_not_zero, number_of_pending     a refusal's number isn't 0, and 6 is that of one alone
use Prim.Native.Nat.{ℕ}
use mathlib.Core.Path.{◌≡◌, refl, sym, subst, ◌∙◌}
use mathlib.Core.Logic.{◌≢◌}
use mathlib.Core.List.{List}
use native.Mathlib.Omega.{arith}
use mathlib.Core.Bool.{false}
use Rattle.std.specs.Option.{is_some}
use Rattle.std.proofs.Common.{Option, Some, None, Err}
use Rattle.lists.proofs.Bools.{clash}
use Rattle.model.specs.declared.Refusal.{Refusal}
use Rattle.model.specs.declared.Refusal.TheVariants.{Malformed, BadSize, BadCore, BadSource, BadPriority, AlreadyPending, NothingToClaim}
use Rattle.model.specs.declared.Refusal.TheVariants.{NotClaimed, PriorityInUse}
use Rattle.model.specs.declared.Answer.{Answer}
use Rattle.model.specs.declared.Command.{Command}
use Rattle.model.specs.Records.{answer}
use Rattle.model.specs.Commands.{already_pending, number_for, execute}
use Rattle.layout.specs.Bytes.{state_from}
use Rattle.in_place.specs.declared.Ranking.{Ranking}
use Rattle.in_place.specs.Held.{Held}
use Rattle.in_place.specs.Steps.{Outcome, Says, Leaves, Executed}

pub says_same :
    (o : Outcome) {number id cycles number' id' cycles' : ℕ} → Says o number id cycles → Says o number' id' cycles' →
    (number ≡ number') × (id ≡ id') × (cycles ≡ cycles')
says_same o (p, q, r) (p', q', r') = (sym p ∙ p', sym q ∙ q', sym r ∙ r')

pub refused :
    {b : List ℕ} {g : Ranking} → Held (state_from b) b g → (d : Command) (r : Refusal) →
    answer (state_from b) (number_for r) 0 0 ≡ execute (state_from b) d → Executed b d (Err r) b g
refused {b} {g} held d r e = subst (λ (y : Answer). Leaves y (Err r) b g) e (record { says = (refl, refl, refl); held = held })

pub none_here : {A : Type 0} (r : Option A) → is_some r ≡ false → r ≡ None
none_here None e = refl
none_here (Some x) e = clash refl e

pub number_not_zero : (r : Refusal) → number_for r ≢ 0
number_not_zero Malformed = λ e. absurd (omega arith)
number_not_zero BadSize = λ e. absurd (omega arith)
number_not_zero BadCore = λ e. absurd (omega arith)
number_not_zero BadSource = λ e. absurd (omega arith)
number_not_zero BadPriority = λ e. absurd (omega arith)
number_not_zero AlreadyPending = λ e. absurd (omega arith)
number_not_zero NothingToClaim = λ e. absurd (omega arith)
number_not_zero NotClaimed = λ e. absurd (omega arith)
number_not_zero PriorityInUse = λ e. absurd (omega arith)

pub number_of_pending : (r : Refusal) → number_for r ≡ already_pending → r ≡ AlreadyPending
number_of_pending Malformed e = absurd (omega arith)
number_of_pending BadSize e = absurd (omega arith)
number_of_pending BadCore e = absurd (omega arith)
number_of_pending BadSource e = absurd (omega arith)
number_of_pending BadPriority e = absurd (omega arith)
number_of_pending AlreadyPending e = refl
number_of_pending NothingToClaim e = absurd (omega arith)
number_of_pending NotClaimed e = absurd (omega arith)
number_of_pending PriorityInUse e = absurd (omega arith)
