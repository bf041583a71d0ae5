-- `vcd_words::scanning::bits` meets its contract. Assumes nothing.
use Prim.Native.Nat.{ℕ}
use mathlib.Core.Path.{sym, ap, ◌∙◌}
use lib.ListN.{drop}
use Rattle.std.proofs.Common.{◌+◌, Option, arith}
use Rattle.vcd_words.specs.Partial.{more_bits}
use Rattle.vcd_words.proofs.Numbers.{bits_more}
use Rattle.vcd_words.proofs.scanning.bits.Goals as goal

pub loop-b-preserved : goal.loop-b-preserved
loop-b-preserved c =
    let t = c.args.bytes.now in
    let l = c.loop-b in
    ap (λ (n : Option ℕ). more_bits n (drop (l.b-index + 1) t)) c.with_known_bit-sum.ensures
    ∙ bits_more t l.b-index (omega arith) l.sum (sym c.is_bit.ensures ∙ c.if-not-is_bit.false)
    ∙ l.invariant
