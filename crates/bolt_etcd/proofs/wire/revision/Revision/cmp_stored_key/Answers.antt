use Rattle.std.proofs.Common.{◌∙◌, ap₂, nat_cmp, sym}
use Rattle.bolt_check.specs.Keys.{key_cmp}
use Rattle.bolt_etcd.proofs.StoredRevisions.{by_main, has_stored_key}
use Rattle.bolt_etcd.proofs.wire.revision.Revision.cmp_stored_key.Goals as goal

pub returns-in_default-clause-revisions : goal.returns-in_default-clause-revisions
returns-in_default-clause-revisions c =
    let a = c.args.self.now in
    let b = c.args.other.now in
    by_main a b c.cmp.result (c.cmp.ensures ∙ ap₂ nat_cmp c.main.ensures c.main-2.ensures) c.in_default.not-Equal
    ∙ sym (ap₂ key_cmp (has_stored_key a) (has_stored_key b))

pub returns-in_default-clause-entries : goal.returns-in_default-clause-entries
returns-in_default-clause-entries c =
    by_main c.args.self.now c.args.other.now c.cmp.result (c.cmp.ensures ∙ ap₂ nat_cmp c.main.ensures c.main-2.ensures) c.in_default.not-Equal
