-- The priority field: P = floor(log2 n) + 2 bits, so the top priority is 2^P - 1. Definitions only. Assumes nothing.
-- Source: document 01, "The controller and its sources". (002's "twice as many levels" is loose; its formula decides.)
--   floor_log2 n     for n below 2^16, from the leading zeros of n as 16 binary digits; floor_log2 0 is 0
--   top_priority n   1 gives 3, 32 gives 127, 127 gives 255, 128 gives 511
use Rattle.std.specs.Prelude.{ℕ, ◌+◌, ◌-◌, ◌^◌}
use Rattle.std.specs.Int.Count.{count_leading_zeros}

unfoldable pub floor_log2 : ℕ → ℕ
floor_log2 n = 15 - count_leading_zeros 16 n

unfoldable pub priority_width : ℕ → ℕ
priority_width n = floor_log2 n + 2

unfoldable pub top_priority : ℕ → ℕ
top_priority n = 2 ^ priority_width n - 1
