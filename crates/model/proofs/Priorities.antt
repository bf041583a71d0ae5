-- The priority field's width: the floor of the logarithm is exact, and document 01's four top priorities. Assumes nothing.
--   top_lt                   the top priority of n sources is below 4n
--   top_rises                more sources have no lower top priority
--   top_none, top_shifted    the top priority as the code shifts it out of the leading zeros
use Prim.Native.Nat.{ℕ, suc, ◌+◌, ◌-◌, ◌*◌, ◌^◌, ◌%◌, ◌<◌, ◌≤◌}
use mathlib.Core.Path.{◌≡◌, refl, ap, subst, ◌∙◌}
use native.Mathlib.Omega.{arith}
use native.Mathlib.Decide.{dec_le}
use native.Mathlib.Numerals.{add-one}
use native.Mathlib.Nat.{mod-eq_of_lt, pow-suc, pow-le-pow_right, one-mul}
use lib.Count.{count_leading_zeros, leading_top, leading_le}
use Rattle.model.specs.Priorities.{floor_log2, priority_width, top_priority}
use Rattle.model.specs.Statements.{FloorLog2Exact, TopPriorityValues}

pub floor_log2_exact : FloorLog2Exact
unfolding floor_log2
floor_log2_exact n h g =
    let top = leading_top 16 n h g in
    let e : top.0 ≡ 15 - count_leading_zeros 16 n = omega (arith, top.1) in
    subst (λ (k : ℕ). (2 ^ k ≤ n) × (n < 2 ^ (k + 1))) e (top.2, rw add-one top.3)

pub top_priority_values : TopPriorityValues
unfolding count_leading_zeros floor_log2 priority_width top_priority
top_priority_values = (refl, refl, refl, refl)

-- ---- how large the top priority is

four_times : (k : ℕ) → 2 ^ (k + 2) ≡ 4 * 2 ^ k
four_times k =
    let e : k + 2 ≡ suc (suc k) = omega arith in
    ap (λ (i : ℕ). 2 ^ i) e ∙ omega (arith, pow-suc 2 k, pow-suc 2 (suc k))

pub top_lt : (n : ℕ) → 1 ≤ n → n < 2 ^ 16 → top_priority n < 4 * n
unfolding top_priority priority_width
top_lt n h g = omega (arith, (floor_log2_exact n h g).0, four_times (floor_log2 n))

-- what lies between two powers tells their exponents apart
power_below : (a b x : ℕ) → 2 ^ a ≤ x → x < 2 ^ (b + 1) → a ≤ b
power_below a b x low high = go (dec_le a b)
  where
    go : Dec (a ≤ b) → a ≤ b
    go (yes h) = h
    go (no h) =
        let p : 2 ^ (b + 1) ≤ 2 ^ a = pow-le-pow_right {n = 2} (omega arith) {i = b + 1} {j = a} (omega arith) in
        absurd (omega arith)

pub top_rises : (n n' : ℕ) → 1 ≤ n → n ≤ n' → n' < 2 ^ 16 → top_priority n ≤ top_priority n'
unfolding top_priority priority_width
top_rises n n' h le g =
    let low : 2 ^ floor_log2 n ≤ n' = omega (arith, (floor_log2_exact n h (omega arith)).0) in
    let widths : floor_log2 n ≤ floor_log2 n' = power_below (floor_log2 n) (floor_log2 n') n' low (floor_log2_exact n' (omega arith) g).1 in
    let p : 2 ^ (floor_log2 n + 2) ≤ 2 ^ (floor_log2 n' + 2)
    = pow-le-pow_right {n = 2} (omega arith) {i = floor_log2 n + 2} {j = floor_log2 n' + 2} (omega arith) in
    omega arith

-- ---- the top priority by a shift of 32 binary digits, from the leading zeros z of n

shifted : ℕ → ℕ
shifted z = 1 * 2 ^ (17 - z) % 2 ^ 32

shifted_is : (z : ℕ) → shifted z ≡ 2 ^ (17 - z)
unfolding shifted
shifted_is z =
    let k : ℕ = 17 - z in
    let h : 2 ^ k ≤ 2 ^ 17 = pow-le-pow_right {n = 2} (omega arith) {i = k} {j = 17} (omega arith) in
    let g : 2 ^ k < 2 ^ 32 = omega arith in
    ap (λ (x : ℕ). x % 2 ^ 32) (one-mul (2 ^ k)) ∙ mod-eq_of_lt g

pub shift_positive : (z : ℕ) → 1 ≤ 1 * 2 ^ (17 - z) % 2 ^ 32
unfolding shifted
shift_positive z =
    let h : 2 ^ 0 ≤ 2 ^ (17 - z) = pow-le-pow_right {n = 2} (omega arith) {i = 0} {j = 17 - z} (omega arith) in
    omega (arith, shifted_is z)

pub zeros_le : (n : ℕ) → count_leading_zeros 16 n ≤ 17
zeros_le n = omega (arith, leading_le 16 n)

pub top_none : (n : ℕ) → n ≡ 0 → 3 ≡ top_priority n
unfolding count_leading_zeros floor_log2 priority_width top_priority
top_none n e = rw e

pub top_shifted : (n : ℕ) → 1 ≤ n → n < 2 ^ 16 → 1 * 2 ^ (17 - count_leading_zeros 16 n) % 2 ^ 32 - 1 ≡ top_priority n
unfolding floor_log2 priority_width top_priority shifted
top_shifted n h g =
    let top = leading_top 16 n h g in
    let e : 17 - count_leading_zeros 16 n ≡ 15 - count_leading_zeros 16 n + 2 = omega (arith, top.1) in
    ap (λ (x : ℕ). x - 1) (shifted_is (count_leading_zeros 16 n)) ∙ ap (λ (k : ℕ). 2 ^ k - 1) e
