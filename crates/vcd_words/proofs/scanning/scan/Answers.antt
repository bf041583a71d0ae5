-- `vcd_words::scanning::scan` meets its contract. Assumes nothing.
use Prim.Native.Nat.{◌≤◌}
use mathlib.Core.Path.{◌≡◌, refl, ◌∙◌}
use lib.ListN.{length, take, drop, length-drop}
use lib.Seq.{take-length}
use Rattle.std.proofs.Common.{rules, arith}
use Rattle.vcd_words.specs.Partial.{run, extended_by}
use Rattle.vcd_words.proofs.Bytes.{run_end}
use Rattle.vcd_words.proofs.Numbers.{run_prefix, run_short}
use Rattle.vcd_words.proofs.scanning.scan.Goals as goal

pub returns-in_default : goal.returns-in_default
unfolding extended_by
returns-in_default c =
    let past : length c.args.text.now ≤ c.args.from = omega (arith, c.in_default.ensures.lookup) in
    rw (run_end c.args.text.now c.args.from past) (omega arith, refl)

pub overflow_add-result : goal.overflow_add-result
overflow_add-result c =
    let short = run_short c.in-Some.rest.now in
    omega (arith, c.in-Some.ensures.lookup)

pub slice_bounds-extended-end : goal.slice_bounds-extended-end
slice_bounds-extended-end c =
    let short = run_short c.in-Some.rest.now in
    search rules

pub extended-requires : goal.extended-requires
extended-requires c =
    rw (c.spell-spelled.ensures.0, run_prefix c.in-Some.rest.now) (c.spell-spelled.ensures.1, c.spell-spelled.ensures.2)

pub returns : goal.returns
returns c =
    let t = c.args.text.now in
    let rest : c.in-Some.rest.now ≡ drop c.args.from t =
    c.in-Some.ensures.lookup.0.2 ∙ rw (← length-drop c.args.from t) (take-length (drop c.args.from t)) in
    let word : take c.spell-spelled.result.end c.in-Some.rest.now ≡ run c.in-Some.rest.now =
    rw c.spell-spelled.ensures.0 (run_prefix c.in-Some.rest.now) in
    rw (c.extended.ensures, word, c.spell-spelled.ensures.0, rest) (refl, refl)
