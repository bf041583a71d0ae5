-- How the three numbers of a version are written as one. Assumes nothing.
--   version_of 1 0 0     10,000
--   version_of 1 2 3     10,203; minor and patch are below 100
use Rattle.std.specs.Prelude.{ℕ, ◌+◌, ◌*◌}

-- Ten thousand times the major number, a hundred times the minor one, and the patch.
abbrev pub version_of : ℕ → ℕ → ℕ → ℕ
version_of major minor patch = 10000 * major + 100 * minor + patch
