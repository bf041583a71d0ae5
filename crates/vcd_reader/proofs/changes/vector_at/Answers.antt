-- `vcd_reader::changes::vector_at` meets its contract. Assumes nothing.
use mathlib.Core.Path.{◌≡◌}
use Rattle.std.proofs.Common.{ℕ, ◌<◌, Result, Ok, Err, Some, arith}
use Rattle.std.specs.Result.{OkIff, result_ok}
use Rattle.vcd_reader.proofs.Changing.{coded_vector}
use Rattle.vcd_reader.proofs.changes.vector_at.Goals as goal

-- a number that is converted to a byte
is_byte : {E : Type 0} (r : Result ℕ E) (n k : ℕ) → OkIff r (n < 256) n → Some k ≡ result_ok r → (n < 256) × (k ≡ n)
is_byte (Ok x) n k fits is = grind arith
is_byte (Err e) n k fits is = absurd cc

pub returns : goal.returns
returns c =
    let length = is_byte _ _ _ c.try_from.ensures c.in_ok-length.ensures.value in
    coded_vector _ _ c.in_ok-bits.bits c.skip.result c.in_ok-c.c c.vector_with.result _ c.in_ok-bits.ensures
    (omega (arith, length.0)) c.skip.ensures c.in_ok-c.ensures (rw (length.1, c.kept_value.ensures) at c.vector_with.ensures) c.skip-2.ensures
