use Rattle.std.proofs.Common.{List, map, subst, sym}
use Rattle.bolt_lemmas.proofs.Exports.{filter_rises}
use Rattle.bolt_lemmas.specs.Order.{Rises}
use Rattle.bolt_etcd.specs.{Store.Current.AreCurrentBySum, Store.Newest.is_until, Wire.Revisions.RevisionView}
use Rattle.bolt_etcd.specs.Store.Orders.{stored_key_cmp}
use Rattle.bolt_etcd.specs.{Wire.ShownRevisions.shown_revision, Store.Stores.revisions}
use Rattle.bolt_etcd.proofs.{CurrentOnes.current_list, Currents.own_keys, Currents.revisions_rise}
use Rattle.bolt_etcd.proofs.store.current.current_by_key.Goals as goal

pub returns-clause-current : goal.returns-clause-current
returns-clause-current c = λ entries are.
    let found = map shown_revision c.in_ok-revisions.field-0.revisions.items in
    let same = c.in_ok-revisions.ensures.revisions entries are in
    let all = revisions_rise entries are.rises in
    let rises = subst (Rises stored_key_cmp) (sym same) (filter_rises stored_key_cmp (is_until c.args.up_to) (revisions entries) all) in
    let newest = c.keep_newest.ensures (own_keys found rises) in
    current_list (revisions entries) c.args.up_to all _ _
    (subst (λ (rs : List RevisionView). AreCurrentBySum rs (map shown_revision c.keep_newest.new.revisions.items)) same newest) c.sort_by_key.ensures.same
    c.sort_by_key.ensures.sorted
