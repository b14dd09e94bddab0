use Rattle.std.proofs.Common.{◌∙◌, ◌+◌, [], ap, drop, get_or, map}
use Rattle.std.specs.Borrow.{Bor}
use Rattle.bolt_lemmas.proofs.Exports.{flat_from}
use Rattle.bolt_check.specs.{Counts.counted, Keys.Key}
use Rattle.bolt_etcd.specs.Check.StoreFaults.{missing_bucket_lines, line_without}
use Rattle.bolt_etcd.proofs.ListedTexts.{listed_faults, listed_more}
use Rattle.bolt_etcd.proofs.check.store_faults.put_missing_buckets.Goals as goal

none : Bor Key
none = record { ref_ptr = (0, 0); now = [] }

pub returns-in_err-more-clause-written : goal.returns-in_err-more-clause-written
unfolding none
returns-in_err-more-clause-written g c = λ store is.
    let name : Key = (get_or c.args.names.now c.rest.name-index none).now in
    listed_faults (c.rest.invariant store is) (line_without name (store.bucket name))
    (missing_bucket_lines store (map (λ (b : Bor Key). b.now) (drop (c.rest.name-index + 1) c.args.names.now))) _
    (flat_from (λ (key : Key). line_without key (store.bucket key)) (λ (b : Bor Key). b.now) c.args.names.now c.rest.name-index none c.rest-test.true)
    (c.in_err-more.ensures.written store is) c.from_residual.ensures.0

pub rest-preserved : goal.rest-preserved
unfolding none
rest-preserved g c = λ store is.
    let name : Key = (get_or c.args.names.now c.rest.name-index none).now in
    listed_more (c.rest.invariant store is) (line_without name (store.bucket name))
    (missing_bucket_lines store (map (λ (b : Bor Key). b.now) (drop (c.rest.name-index + 1) c.args.names.now))) _
    (flat_from (λ (key : Key). line_without key (store.bucket key)) (λ (b : Bor Key). b.now) c.args.names.now c.rest.name-index none c.rest-test.true)
    (c.in_ok-more.ensures.written store is) (c.saturating_add-number.ensures ∙ ap (counted c.rest.number) (c.in_ok-more.ensures.number store is))
