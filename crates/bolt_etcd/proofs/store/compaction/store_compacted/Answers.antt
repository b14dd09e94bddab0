use Rattle.std.proofs.Common.{Some}
use Rattle.bolt_etcd.proofs.StoreLemmas.{compaction, fits}
use Rattle.bolt_etcd.specs.Store.BucketNames.{meta_bucket}
use Rattle.bolt_etcd.proofs.store.compaction.store_compacted.Goals as goal

pub returns : goal.returns
returns c = λ store is.
    let here =
    fits c.args.root.now meta_bucket (Some c.in_ok-meta.meta) (store.bucket meta_bucket) (rw c.in_ok-meta.was at c.bucket.ensures.bucket)
    (is.buckets meta_bucket) in
    compaction c.args.root.now c.in_ok-meta.meta c.compacted.result (store.bucket meta_bucket) (rw c.in_ok-meta.was at c.bucket.ensures.checked) here
    c.compacted.ensures
