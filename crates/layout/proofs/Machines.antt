-- Lists of items under any machine that answers each item by five bytes, taken one at a time. Assumes nothing.
--   Machine S C              states S, items C: a step, what it says, and lists of items under it, which are taken `OneByOne`
--   answers_length, answers_in_front    a list's answers are five bytes each; written in front of a buffer, they leave what is behind them
--   Taken                    a part of a list is taken: the rest, run from the state reached, ends as the whole does from the start, and
--                            the rest's answers, put behind those so far, give the answers of the whole
--   taken_none, taken_more   nothing is taken; one more item is taken
--   taken_all                nothing is left: the state and the answers are those of the whole
use Prim.Native.Nat.{ℕ, ◌+◌, ◌*◌, ◌≤◌}
use mathlib.Core.Path.{◌≡◌, refl, sym, ap, ◌∙◌}
use mathlib.Core.List.{List, [], ◌∷◌, ◌++◌}
use lib.ListN.{length, drop, length-append}
use lib.Seq.{sets, sets-eq, length-sets}
use native.Mathlib.Omega.{arith}
use Rattle.layout.specs.Bytes.{answer_size}
use Rattle.lists.proofs.Writes.{sets_append}

-- a list's last state and its answers are those of its items, one behind the other
pub record OneByOne
    {S C : Type 0} (next : S → C → S) (says : S → C → List ℕ) (run : S → List C → S) (answers : S → List C → List ℕ) : Type 0 where
  pub five : (s : S) (c : C) → length (says s c) ≡ answer_size
  pub run_none : (s : S) → run s [] ≡ s
  pub run_more : (s : S) (c : C) (cs : List C) → run s (c ∷ cs) ≡ run (next s c) cs
  pub answers_none : (s : S) → answers s [] ≡ []
  pub answers_more : (s : S) (c : C) (cs : List C) → answers s (c ∷ cs) ≡ says s c ++ answers (next s c) cs

pub record Machine (S C : Type 0) : Type 0 where
  pub next : S → C → S
  pub says : S → C → List ℕ
  pub run : S → List C → S
  pub answers : S → List C → List ℕ
  pub one_by_one : OneByOne next says run answers

-- ---- a list's answers, five bytes each

module _ {S C : Type 0} (M : Machine S C) where
  pub answers_length : (s : S) (cs : List C) → length (M.answers s cs) ≡ answer_size * length cs
  answers_length s [] = ap length (M.one_by_one.answers_none s)
  answers_length s (c ∷ cs) =
      ap length (M.one_by_one.answers_more s c cs) ∙ length-append (M.says s c) (M.answers (M.next s c) cs)
      ∙ omega (arith, M.one_by_one.five s c, answers_length (M.next s c) cs)

  pub answers_in_front :
      (buffer : List ℕ) (s : S) (cs : List C) → answer_size * length cs ≤ length buffer →
      sets buffer 0 (M.answers s cs) ≡ M.answers s cs ++ drop (answer_size * length cs) buffer
  answers_in_front buffer s cs h =
      let size : 0 + length (M.answers s cs) ≡ answer_size * length cs = omega (arith, answers_length s cs) in
      sets-eq (M.answers s cs) buffer 0 (omega (arith, size)) ∙ ap (λ (k : ℕ). M.answers s cs ++ drop k buffer) size

-- ---- an item at a time

module _ {S C : Type 0} (M : Machine S C) (answers₀ : List ℕ) (s₀ : S) (all : List C) where
  -- up to the place i of the answers, in the state s
  pub record Taken (answers : List ℕ) (s : S) (i : ℕ) (rest : List C) : Type 0 where
    pub size : length answers ≡ length answers₀
    pub runs : M.run s rest ≡ M.run s₀ all
    pub written : sets answers i (M.answers s rest) ≡ sets answers₀ 0 (M.answers s₀ all)

  pub taken_none : Taken answers₀ s₀ 0 all
  taken_none = record { size = refl; runs = refl; written = refl }

module _
    {S C : Type 0} {M : Machine S C} {answers₀ : List ℕ} {s₀ : S} {all : List C} {answers : List ℕ} {s : S} {i : ℕ} {items : List C}
    (t : Taken M answers₀ s₀ all answers s i items) where
  -- the item leads to s' and is answered by xs, which is written at i
  pub taken_more :
      {answers' xs : List ℕ} {s' : S} {i' : ℕ} {c : C} {rest : List C} → i' ≡ i + answer_size → items ≡ c ∷ rest → s' ≡ M.next s c →
      answers' ≡ sets answers i xs → xs ≡ M.says s c → Taken M answers₀ s₀ all answers' s' i' rest
  taken_more {answers'} {xs} {s'} {i'} {c} {rest} ei e es ea ex =
      record {
        size = ap length ea ∙ length-sets answers i xs ∙ t.size;
        runs = ap (λ (x : S). M.run x rest) es ∙ sym (ap (M.run s) e ∙ M.one_by_one.run_more s c rest) ∙ t.runs;
        written =
            rw (es, ea, ex)
            (sets_append answers i i' (M.says s c) (M.answers (M.next s c) rest) (omega (arith, M.one_by_one.five s c))
            ∙ ap (sets answers i) (sym (ap (M.answers s) e ∙ M.one_by_one.answers_more s c rest)) ∙ t.written);
      }

  pub taken_all : items ≡ [] → (s ≡ M.run s₀ all) × (answers ≡ sets answers₀ 0 (M.answers s₀ all))
  taken_all e = (
    sym (ap (M.run s) e ∙ M.one_by_one.run_none s) ∙ t.runs,
    sym (ap (λ (cs : List C). sets answers i (M.answers s cs)) e ∙ ap (sets answers i) (M.one_by_one.answers_none s)) ∙ t.written,
  )
