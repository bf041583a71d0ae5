-- `core_steps::on_core` meets its contract: the checks in their order, then the record stored, and settled. Assumes nothing.
use Rattle.std.proofs.Common.{◌≡◌, refl, rules, Err}
use Rattle.core_steps.proofs.Cores.{bad_core, judged, refused_later, soiled_by, set_leaves, claim_leaves}
use Rattle.core_steps.proofs.on_core.Goals as goal

pub returns-then-not-names_core : goal.returns-then-not-names_core
returns-then-not-names_core c =
    bad_core c.requires c.args.core c.args.a c.cores_in-m.ensures c.names_core.ensures c.if-not-names_core.true

pub returns-in_err-core_refusal : goal.returns-in_err-core_refusal
returns-in_err-core_refusal c =
    let found = judged c.requires c.args.core c.args.a c.cores_in-m.ensures c.names_core.ensures c.if-not-names_core.false
    c.sources_in-n.ensures c.core_at-c.ensures c.in_err-core_refusal.ensures in
    let e = c.in_err-core_refusal.field-0.0 in
    let passed : c.from_residual.result ≡ Err e = search rules in
    refused_later c.requires found e refl passed

pub settle-cycles-requires : goal.settle-cycles-requires
settle-cycles-requires c =
    let found = judged c.requires c.args.core c.args.a c.cores_in-m.ensures c.names_core.ensures c.if-not-names_core.false
    c.sources_in-n.ensures c.core_at-c.ensures c.in_ok-core_refusal.ensures in
    soiled_by c.requires found refl _ c.put_core.ensures c.in-SetCorePriority.is c.core_with.ensures

pub returns-in-SetCorePriority : goal.returns-in-SetCorePriority
returns-in-SetCorePriority c =
    let found = judged c.requires c.args.core c.args.a c.cores_in-m.ensures c.names_core.ensures c.if-not-names_core.false
    c.sources_in-n.ensures c.core_at-c.ensures c.in_ok-core_refusal.ensures in
    set_leaves c.requires found refl _ c.put_core.ensures c.in-SetCorePriority.is c.core_with.ensures c.settle-cycles.ensures
    (refl, c.after.ensures.0, c.after.ensures.1)

pub returns-in-Claim : goal.returns-in-Claim
returns-in-Claim c =
    let found = judged c.requires c.args.core c.args.a c.cores_in-m.ensures c.names_core.ensures c.if-not-names_core.false
    c.sources_in-n.ensures c.core_at-c.ensures c.in_ok-core_refusal.ensures in
    claim_leaves c.requires found refl _ c.put_core-in-Claim.ensures c.in-Claim.is c.claimed_core.ensures (refl, refl, refl)
