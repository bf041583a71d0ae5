-- What the passes over a state's bytes are given. Helpers of contracts; nothing here needs to be believed.
use Rattle.std.specs.Prelude.{ℕ, ◌+◌, ◌≡◌, List, Bool, ◌||◌, length, get_or, ltb, eqb}
use Rattle.model.specs.Priorities.{top_priority}
use Rattle.model.specs.Statements.{InRange}
use Rattle.layout.specs.Bytes.{state_size, state_from}

-- Bytes of a state with n sources and m cores, in range, and the top priority.
pub record Holds (b : List ℕ) (n m top : ℕ) : Type 0 where
  pub size : length b ≡ state_size
  pub in_range : InRange n m
  pub n_is : n ≡ (state_from b).n
  pub m_is : m ≡ (state_from b).m
  pub top_is : top ≡ top_priority n

-- From a place on, a byte is the same as the one a step further on.
abbrev pub repeating : List ℕ → ℕ → ℕ → ℕ → Bool
repeating b step from at = ltb at from || eqb (get_or b at 0) (get_or b (at + step) 0)
