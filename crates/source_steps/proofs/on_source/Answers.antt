-- `source_steps::on_source` meets its contract: the checks in their order, then the record stored, its request offered. Assumes nothing.
use Rattle.std.proofs.Common.{◌≡◌, ◌≢◌, refl, rules}
use Rattle.model.specs.declared.Refusal.TheVariants.{AlreadyPending}
use Rattle.source_steps.proofs.Sourced.{bad_source, judged, dropped, refused_later, offered, accepted}
use Rattle.source_steps.proofs.on_source.Goals as goal

pub returns-then-not-names_source : goal.returns-then-not-names_source
returns-then-not-names_source c =
    bad_source c.requires c.args.id c.args.a c.sources_in-n.ensures c.names_source.ensures c.if-not-names_source.true

pub returns-then-eq : goal.returns-then-eq
returns-then-eq c =
    let found = judged c.requires c.args.id c.args.a c.sources_in-n.ensures c.names_source.ensures c.if-not-names_source.false
    c.cores_in-m.ensures c.source_at-r.ensures c.is_claimed-claimed.ensures c.in-Err.ensures in
    let pending : c.in-Err.refusal ≡ AlreadyPending = search rules in
    dropped c.requires found _ c.put_source.ensures c.in-Err.refusal refl pending c.dropped_one.ensures

pub returns-else-eq : goal.returns-else-eq
returns-else-eq c =
    let found = judged c.requires c.args.id c.args.a c.sources_in-n.ensures c.names_source.ensures c.if-not-names_source.false
    c.cores_in-m.ensures c.source_at-r.ensures c.is_claimed-claimed.ensures c.in-Err.ensures in
    let other : c.in-Err.refusal ≢ AlreadyPending = λ h. let same = rw h at c.if-eq.ensures in cc in
    refused_later c.requires found c.in-Err.refusal refl other

pub offer-requires : goal.offer-requires
offer-requires c =
    let found = judged c.requires c.args.id c.args.a c.sources_in-n.ensures c.names_source.ensures c.if-not-names_source.false
    c.cores_in-m.ensures c.source_at-r.ensures c.is_claimed-claimed.ensures c.in_default.ensures in
    offered c.requires found _ c.put_source-2.ensures refl c.source_after-next.ensures

pub returns : goal.returns
returns c =
    let found = judged c.requires c.args.id c.args.a c.sources_in-n.ensures c.names_source.ensures c.if-not-names_source.false
    c.cores_in-m.ensures c.source_at-r.ensures c.is_claimed-claimed.ensures c.in_default.ensures in
    accepted c.requires found _ c.put_source-2.ensures refl c.source_after-next.ensures c.offer.ensures
