-- `vcd_words::marks::code_of` meets its contract, length by length. Assumes nothing.
use mathlib.Core.Path.{◌≡◌, sym, ◌∙◌}
use lib.ListN.{length}
use Prim.Native.Nat.{◌%◌}
use Rattle.std.proofs.Common.{arith}
use Rattle.vcd_words.proofs.Codes.{code_one, code_two, code_three, code_four, code_other}
use Rattle.vcd_words.proofs.marks.code_of.Goals as goal

pub returns-in-1 : goal.returns-in-1
returns-in-1 c =
    let a = c.args in
    let n : a.length ≡ 1 = c.in-1.is in
    λ u e.
    let same : length u ≡ 1 = e.same (omega arith) ∙ n in
    let code = code_one a.low e.before u same e.small (e.exact (omega arith)) in
    let all = rw c.to_be_bytes.ensures at c.if-are_printable.ensures in
    let number : c.from.result ≡ a.low % 256 = omega (arith, rw c.to_be_bytes.ensures at c.from.ensures) in
    number ∙ (rw (sym all) at code)

pub returns-in_default : goal.returns-in_default
returns-in_default c =
    let a = c.args in
    let n : a.length ≡ 1 = c.in-1.is in
    λ u e.
    let same : length u ≡ 1 = e.same (omega arith) ∙ n in
    let code = code_one a.low e.before u same e.small (e.exact (omega arith)) in
    let all = rw c.to_be_bytes.ensures at c.if-are_printable.ensures in
    rw (sym all) at code

pub returns-in-2 : goal.returns-in-2
returns-in-2 c =
    let a = c.args in
    let n : a.length ≡ 2 = c.in-2.is in
    λ u e.
    let same : length u ≡ 2 = e.same (omega arith) ∙ n in
    let code = code_two a.low e.before u same e.small (e.exact (omega arith)) in
    let all = rw c.to_be_bytes.ensures at c.if-are_printable-2.ensures in
    let number : c.from_be_bytes.result ≡ a.low % 65536 = omega (arith, rw c.to_be_bytes.ensures at c.from_be_bytes.ensures) in
    number ∙ (rw (sym all) at code)

pub returns-in_default-2 : goal.returns-in_default-2
returns-in_default-2 c =
    let a = c.args in
    let n : a.length ≡ 2 = c.in-2.is in
    λ u e.
    let same : length u ≡ 2 = e.same (omega arith) ∙ n in
    let code = code_two a.low e.before u same e.small (e.exact (omega arith)) in
    let all = rw c.to_be_bytes.ensures at c.if-are_printable-2.ensures in
    rw (sym all) at code

pub returns-in-3 : goal.returns-in-3
returns-in-3 c =
    let a = c.args in
    let n : a.length ≡ 3 = c.in-3.is in
    λ u e.
    let same : length u ≡ 3 = e.same (omega arith) ∙ n in
    let code = code_three a.low e.before u same e.small (e.exact (omega arith)) in
    let all = rw c.to_be_bytes.ensures at c.if-are_printable-3.ensures in
    let number : c.from_be_bytes-in-3.result ≡ a.low % 16777216 = omega (arith, rw c.to_be_bytes.ensures at c.from_be_bytes-in-3.ensures) in
    number ∙ (rw (sym all) at code)

pub returns-in_default-3 : goal.returns-in_default-3
returns-in_default-3 c =
    let a = c.args in
    let n : a.length ≡ 3 = c.in-3.is in
    λ u e.
    let same : length u ≡ 3 = e.same (omega arith) ∙ n in
    let code = code_three a.low e.before u same e.small (e.exact (omega arith)) in
    let all = rw c.to_be_bytes.ensures at c.if-are_printable-3.ensures in
    rw (sym all) at code

pub returns-in-4 : goal.returns-in-4
returns-in-4 c =
    let a = c.args in
    let n : a.length ≡ 4 = c.in-4.is in
    λ u e.
    let same : length u ≡ 4 = e.same (omega arith) ∙ n in
    let code = code_four a.low e.before u same e.small (e.exact (omega arith)) in
    let all = rw c.to_be_bytes.ensures at c.if-are_printable-4.ensures in
    let number : c.from_be_bytes-in-4.result ≡ a.low % 4294967296 = omega (arith, rw c.to_be_bytes.ensures at c.from_be_bytes-in-4.ensures) in
    number ∙ (rw (sym all) at code)

pub returns-in_default-4 : goal.returns-in_default-4
returns-in_default-4 c =
    let a = c.args in
    let n : a.length ≡ 4 = c.in-4.is in
    λ u e.
    let same : length u ≡ 4 = e.same (omega arith) ∙ n in
    let code = code_four a.low e.before u same e.small (e.exact (omega arith)) in
    let all = rw c.to_be_bytes.ensures at c.if-are_printable-4.ensures in
    rw (sym all) at code

pub returns-in_default-5 : goal.returns-in_default-5
returns-in_default-5 c =
    let a = c.args in
    λ u e. code_other a.length a.low u e (omega arith) (omega arith) (omega arith) (omega arith)
