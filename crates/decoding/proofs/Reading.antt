-- Arrays made by reading: an element for each index. Assumes nothing.
--   made_from     the elements from index i on, made by calls that answer the values of a function
--   made          all of them, as `tabulated`
use Prim.Native.Nat.{ℕ, zero, suc, ◌+◌, ◌<◌, ◌≤◌}
use mathlib.Core.Path.{◌≡◌, refl, sym, ◌∙◌, subst}
use mathlib.Core.List.{List}
use native.Mathlib.Omega.{arith}
use native.Mathlib.Decide.{ℕ_discrete}
use denote.Param.Members.{Mut}
use lib.ListN.{get_or}
use Rattle.std.specs.Fn.{Called}
use Rattle.std.specs.Array.{IsFromFnResult, IsFromFnResultFrom}
use Rattle.lists.specs.Rows.{tabulated}
use Rattle.lists.proofs.Rows.{tabulated_all}

module _ {F B : Type 0} (g : Mut F (ℕ × Unit {0}) B) (f : F) (value : ℕ → B) where
  -- a call at i leaves the closure as it was, and answers the value at i
  abbrev pub Answers : Type 0
  Answers = (i : ℕ) (y : B) (q : F) → Called g f (i, tt) y q → (q ≡ f) × (y ≡ value i)

  made_from :
      Answers → (p : F) → p ≡ f → (ys : List B) (d : B) (i n : ℕ) → IsFromFnResultFrom g p ys i n → (k : ℕ) → i ≤ k → k < i + n →
      get_or ys k d ≡ value k
  made_from answers p same ys d i zero made k low high = absurd (omega arith)
  made_from answers p same ys d i (suc n) (q, y, there, called, rest) k low high =
      go (ℕ_discrete k i) (λ l h. made_from answers q here.0 ys d (i + 1) n rest k l h)
    where
      here : (q ≡ f) × (y ≡ value i)
      here = answers i y q (subst (λ (x : F). Called g x (i, tt) y q) same called)

      go : Dec (k ≡ i) → (i + 1 ≤ k → k < i + 1 + n → get_or ys k d ≡ value k) → get_or ys k d ≡ value k
      go (yes e) later = rw e (there.1 d ∙ here.1)
      go (no e) later = later (omega arith) (omega arith)

  pub made : Answers → (ys : List B) (d : B) (n : ℕ) → IsFromFnResult g f ys n → ys ≡ tabulated n value
  made answers ys d n h =
      sym (tabulated_all n value ys d h.long (λ k p. sym (made_from answers f refl ys d 0 n h.each k (omega arith) (omega arith))))
