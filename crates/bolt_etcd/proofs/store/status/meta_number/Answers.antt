use Rattle.std.proofs.Common.{Some, ◌∙◌, ap, sym}
use Rattle.bolt_etcd.specs.Store.Statuses.{meta_number}
use Rattle.bolt_etcd.specs.Store.BucketNames.{meta_bucket}
use Rattle.bolt_etcd.proofs.StoreLemmas.{fits, fits_some}
use Rattle.bolt_etcd.proofs.store.status.meta_number.Goals as goal

pub returns : goal.returns
returns c = λ store is.
    let bucket = rw c.in_ok-meta.was at c.bucket.ensures.bucket in
    let checked = rw c.in_ok-meta.was at c.bucket.ensures.checked in
    let (entries, at, are) =
    fits_some c.args.root.now c.in_ok-meta.meta (store.bucket meta_bucket)
    (fits c.args.root.now meta_bucket (Some c.in_ok-meta.meta) (store.bucket meta_bucket) bucket (is.buckets meta_bucket)) in
    c.number_under.ensures entries (rw checked are) ∙ sym (ap (meta_number c.args.key.now) at)
