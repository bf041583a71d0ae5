-- How deep the comparator tree is: the least d with 2^d at least n, and so at most floor(log2 n) + 1. Assumes nothing.
use Prim.Native.Nat.{◌+◌}
use native.Mathlib.Omega.{arith}
use Rattle.model.specs.Priorities.{floor_log2}
use Rattle.lists.specs.Walks.{comparisons}
use Rattle.model.specs.Statements.{TreeDepthExact, TreeDepthBounded}
use Rattle.model.proofs.Priorities.{floor_log2_exact}
use Rattle.lists.proofs.Depth.{Depth, comparisons_depth}

pub tree_depth_exact : TreeDepthExact
tree_depth_exact n h = let d : Depth n (comparisons n n) = comparisons_depth n n h (omega arith) in (d.enough, d.no_fewer)

pub tree_depth_bounded : TreeDepthBounded
tree_depth_bounded n h g =
    (tree_depth_exact n h).1 (floor_log2 n + 1) (omega (arith, (floor_log2_exact n h g).1))
