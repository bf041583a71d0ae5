-- `decoding::state_from` meets its contract: each array is that of what is read at its indices. Assumes nothing.
use Rattle.std.proofs.Common.{rules}
use Rattle.model.specs.Records.{max_sources, max_cores, no_source, no_core}
use Rattle.layout.specs.Bytes.{source_of, core_of, state_from}
use Rattle.decoding.proofs.Reading.{made}
use Rattle.decoding.proofs.state_from.Goals as goal

pub returns : goal.returns
unfolding state_from
returns c =
    let b = c.args.b.now in
    rw (
      c.reset-s.ensures,
      c.word_at.ensures,
      c.word_at-2.ensures,
      made _ _ (source_of b) (λ i y q k. search rules) c.from_fn-s.result no_source max_sources c.from_fn-s.ensures.items,
      made _ _ (core_of b) (λ i y q k. search rules) c.from_fn-s-2.result no_core max_cores c.from_fn-s-2.ensures.items,
    )
