use Rattle.std.proofs.Common.{List, map, subst, sym}
use Rattle.bolt_lemmas.proofs.Exports.{filter_rises}
use Rattle.bolt_lemmas.specs.Order.{Rises}
use Rattle.bolt_etcd.specs.{Store.Current.AreCurrent, Store.Newest.is_until, Wire.Revisions.RevisionView}
use Rattle.bolt_etcd.specs.Store.Orders.{stored_key_cmp}
use Rattle.bolt_etcd.specs.{Wire.ShownRevisions.shown_revision, Store.Stores.revisions}
use Rattle.bolt_etcd.proofs.Currents.{own_keys, revisions_rise, sorted_are_current}
use Rattle.bolt_etcd.proofs.store.current.Current.find.Goals as goal

pub returns-clause-keys : goal.returns-clause-keys
returns-clause-keys c = λ entries are.
    let found = map shown_revision c.in_ok-revisions.field-0.revisions.items in
    let same = c.in_ok-revisions.ensures.revisions entries are in
    let rises =
    subst (Rises stored_key_cmp) (sym same) (filter_rises stored_key_cmp (is_until c.args.up_to) (revisions entries) (revisions_rise entries are.rises)) in
    subst (λ (rs : List RevisionView). AreCurrent rs (map shown_revision c.sort_by_name.new.revisions.items)) same
    (sorted_are_current found rises _ _ (c.keep_newest.ensures (own_keys found rises)) c.sort_by_name.ensures.same c.sort_by_name.ensures.sorted)
