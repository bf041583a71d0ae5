-- How deep the comparator tree is: the least d with 2^d at least the length of the row. Assumes nothing.
--   Depth len c         c comparisons are enough for a row of len, and no fewer are
--   longest_path_lem        the longest path's comparisons are that number, wherever the row begins, for every bound that is enough
use Prim.Native.Nat.{ℕ, zero, suc, ◌+◌, ◌/◌, ◌^◌, ◌<◌, ◌≤◌, max}
use native.Mathlib.Omega.{arith}
use native.Mathlib.Nat.{two-pow-succ}
use lib.Pow.{pow_mono}
use Rattle.lists.specs.Walks.{left_half, halved, longest_path, comparisons}

pub record Depth (len c : ℕ) : Type 0 where
  pub enough : len ≤ 2 ^ c
  pub no_fewer : (e : ℕ) → len ≤ 2 ^ e → c ≤ e

depth_one : Depth 1 0
depth_one = record { enough = omega arith; no_fewer = λ e u. omega arith }

-- one comparison above the deeper half
depth_node : (len a b : ℕ) → 1 < len → Depth (left_half len) a → Depth (len / 2) b → Depth len (suc (max a b))
depth_node len a b h f g = record { enough = omega (arith, two-pow-succ (max a b), left, f.enough); no_fewer = fewer }
  where
    left : 2 ^ a ≤ 2 ^ max a b
    left = pow_mono (omega arith)

    fewer : (e : ℕ) → len ≤ 2 ^ e → suc (max a b) ≤ e
    fewer zero u = absurd (omega arith)
    fewer (suc e) u =
        let s : len ≤ 2 ^ e + 2 ^ e = rw (← two-pow-succ e) u in
        let p : a ≤ e = f.no_fewer e (omega arith) in
        let q : b ≤ e = g.no_fewer e (omega arith) in
        omega arith

longest_path_lem : (d lo len : ℕ) → 1 ≤ len → len ≤ d → Depth len (longest_path (halved d lo len))
unfolding halved longest_path
longest_path_lem zero lo len h g = absurd (omega arith)
longest_path_lem (suc d) lo zero h g = absurd (omega arith)
longest_path_lem (suc d) lo (suc zero) h g = depth_one
longest_path_lem (suc d) lo (suc (suc k)) h g =
    let len : ℕ = suc (suc k) in
    depth_node len _ _ (omega arith)
    (longest_path_lem d lo (left_half len) (omega arith) (omega arith))
    (longest_path_lem d (lo + left_half len) (len / 2) (omega arith) (omega arith))

pub comparisons_depth : (d len : ℕ) → 1 ≤ len → len ≤ d → Depth len (comparisons d len)
unfolding comparisons
comparisons_depth d = longest_path_lem d 0
