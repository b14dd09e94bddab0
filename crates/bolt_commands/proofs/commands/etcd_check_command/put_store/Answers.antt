-- The lines of the store, and then how many there are; or less, if the sink failed or memory ran out.
use Rattle.std.proofs.Common.{Err, Ok, ◌++◌, ℕ, inl, length, refl}
use Rattle.std.specs.List.{concat}
use Rattle.bolt_check.specs.Counts.{counted}
use Rattle.bolt_etcd.specs.{Store.StoreBuckets.IsStore, Check.StoreFaults.store_lines}
use Rattle.bolt_tree.specs.BucketViews.{entries_of}
use Rattle.bolt_commands.specs.{EtcdAnswers.errors_end, EtcdAnswers.errors_status, declared.failure.Failure.TheVariants.Write}
use Rattle.bolt_commands.proofs.{Vocabulary.Wrote-then, Vocabulary.bucket_checked, Vocabulary.bucket_start, Vocabulary.bytes_of, Vocabulary.meta_of}
use Rattle.bolt_commands.proofs.{Doing.answer_as, Doing.answer_put, Doing.ends_as}
use Rattle.bolt_commands.proofs.EtcdAnswers.{first_cut, has_store}
use Rattle.bolt_commands.proofs.commands.etcd_check_command.put_store.Goals as goal

pub returns-in_err-errors : goal.returns-in_err-errors
returns-in_err-errors g c =
    let (store, is) = has_store (bytes_of c.args.checked) (meta_of c.args.checked) c.requires in
    let here : IsStore (entries_of (bucket_checked c.root.result)) (bucket_start c.root.result) store = rw (c.root.ensures.checked, c.root.ensures.start) is in
    let n = counted 0 (length (store_lines store)) in
    let put = c.in_err-errors.ensures in
    rw (ends_as _ _ c.from_residual.ensures.1)
    (answer_as (first_cut (concat (store_lines store)) (errors_end n) (Ok (errors_status n)) _ (put.written store here) put.fault)
    (λ answer cut. (store, is, cut)))

pub returns-in_err-put_end : goal.returns-in_err-put_end
returns-in_err-put_end g c =
    let (store, is) = has_store (bytes_of c.args.checked) (meta_of c.args.checked) c.requires in
    let here : IsStore (entries_of (bucket_checked c.root.result)) (bucket_start c.root.result) store = rw (c.root.ensures.checked, c.root.ensures.start) is in
    let n = counted 0 (length (store_lines store)) in
    let put = c.in_ok-errors.ensures in
    let wrote = Wrote-then (put.written store here) (rw (put.number store here) at c.in_err-put_end.ensures) in
    rw (ends_as _ Write c.from_residual-in_err-put_end.ensures.1)
    (answer_put {A = ℕ} (record { out = concat (store_lines store) ++ errors_end n; ending = Ok (errors_status n) }) (Err c.in_err-put_end.field-0.0)
    (store, is, inl refl) wrote)

pub returns : goal.returns
returns g c =
    let (store, is) = has_store (bytes_of c.args.checked) (meta_of c.args.checked) c.requires in
    let here : IsStore (entries_of (bucket_checked c.root.result)) (bucket_start c.root.result) store = rw (c.root.ensures.checked, c.root.ensures.start) is in
    let n = counted 0 (length (store_lines store)) in
    let put = c.in_ok-errors.ensures in
    let wrote = Wrote-then (put.written store here) (rw (put.number store here) at c.in_ok-put_end.ensures) in
    rw (c.status_after.ensures, put.number store here)
    (answer_put (record { out = concat (store_lines store) ++ errors_end n; ending = Ok (errors_status n) }) (Ok c.in_ok-put_end.field-0)
    (store, is, inl refl) wrote)
