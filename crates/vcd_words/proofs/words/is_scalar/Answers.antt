-- `vcd_words::words::is_scalar` meets its contract. Assumes nothing.
use mathlib.Core.List.{tail}
use mathlib.Core.Path.{sym, ap, ◌∙◌}
use Prim.Native.Nat.{ℕ}
use Rattle.recording.specs.Values.{is_bit}
use Rattle.vcd_words.specs.Partial.{Ends}
use Rattle.vcd_words.proofs.Keeping.{kept_first}
use Rattle.vcd_words.proofs.Telling.{ends_tail}
use Rattle.vcd_words.proofs.words.is_scalar.Goals as goal

pub returns-then-is_bit : goal.returns-then-is_bit
returns-then-is_bit c =
    λ w k.
    let ends : Ends c.saturating_sub.result c.args.p.low (tail w) = rw c.saturating_sub.ensures (ends_tail k) in
    let bit = sym (ap (λ (b : ℕ). is_bit b) (kept_first k)) ∙ sym c.is_bit.ensures ∙ c.if-is_bit.true in
    rw (c.has_code.ensures, c.code_of-code.ensures (tail w) ends, bit)

pub returns-else-is_bit : goal.returns-else-is_bit
returns-else-is_bit c =
    λ w k.
    let bit = sym (ap (λ (b : ℕ). is_bit b) (kept_first k)) ∙ sym c.is_bit.ensures ∙ c.if-is_bit.false in
    rw (c.if-is_bit.false, bit)
