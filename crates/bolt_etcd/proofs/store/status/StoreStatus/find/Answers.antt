use Rattle.std.proofs.Common.{◌∙◌, ap, ap₂, length, max, sym, ℕ}
use Rattle.std.proofs.lemmas.List.{length-map}
use Rattle.bolt_etcd.specs.{Store.HashKv.hash_kv, Store.HashKv.hash_unless, Wire.ShownRevisions.shown_revision, Store.Statuses.or_zero}
use Rattle.bolt_etcd.specs.{Store.Stores.unread_elements}
use Rattle.bolt_etcd.proofs.store.status.StoreStatus.find.Goals as goal

pub returns : goal.returns
returns c = λ store is entries are.
    let compacted = c.or_zero-compacted.ensures ∙ ap or_zero (c.store_compacted.ensures store is) in
    let newest = c.count-numbers.ensures.newest entries are in
    let revision = c.max-2.ensures ∙ ap₂ max newest (c.max.ensures ∙ ap (λ (n : ℕ). max n 1) compacted) in
    let keys =
    c.len.ensures ∙ c.in_ok-current.current.revisions.ok.0 ∙ sym (length-map c.in_ok-current.current.revisions.items shown_revision)
    ∙ ap length (c.in_ok-current.ensures.current entries are) in
    let revisions = c.count-numbers.ensures.revisions entries are in
    let index = c.meta_number.ensures store is in
    let term = c.meta_number-2.ensures store is in
    let hash = c.sum_unless.ensures entries are ∙ ap (λ (n : ℕ). hash_unless (unread_elements entries) (hash_kv c.args.up_to n entries)) compacted in
    let number = c.in_ok-current.ensures.unread entries are in
    λ i. record {
      revision = revision i;
      newest = newest i;
      compacted = compacted i;
      keys = keys i;
      revisions = revisions i;
      consistent_index = index i;
      term = term i;
      hash = hash i;
      unread = number i;
    }
