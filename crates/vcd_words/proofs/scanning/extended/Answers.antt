-- `vcd_words::scanning::extended` meets its contract. Assumes nothing.
use Rattle.vcd_words.proofs.Numbers.{extended_none, extended_first, extended_more}
use Rattle.vcd_words.proofs.scanning.extended.Goals as goal

pub returns-in_default : goal.returns-in_default
returns-in_default c = extended_none c.args.p c.args.bytes.now c.in_default.len_below

pub returns-then-p-eq0 : goal.returns-then-p-eq0
returns-then-p-eq0 c =
    rw (
      c.partial_with.ensures,
      c.counted-number.ensures,
      c.begun.ensures,
      c.longer-length.ensures,
      c.requires.0,
      c.requires.1,
    )
    (extended_first c.args.p c.args.bytes.now c.in-len1-up.len_at_least c.if-p-eq0.true)

pub returns-else-p-eq0 : goal.returns-else-p-eq0
returns-else-p-eq0 c =
    rw (
      c.partial_with-else-p-eq0.ensures,
      c.counted-number-else-p-eq0.ensures,
      c.longer-length.ensures,
      c.requires.0,
      c.requires.1,
    )
    (extended_more c.args.p c.args.bytes.now c.in-len1-up.len_at_least c.if-p-eq0.false)
