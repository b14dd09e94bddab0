use Rattle.std.proofs.Common.{◌≡◌, ◌∙◌, ◌++◌, List, ℕ, None, Option, ap, append-nil, length, sym}
use Rattle.std.proofs.lemmas.List.Folds.{concat-append}
use Rattle.std.specs.List.{concat}
use Rattle.bolt_check.specs.Counts.{counted}
use Rattle.bolt_format.proofs.Exports.{Wrote-same, Wrote-then}
use Rattle.bolt_format.specs.{Elements.LeafElement, Endings.broken, Endings.whole, Wrote.Wrote}
use Rattle.bolt_text.proofs.Exports.{Wrote-passed, Wrote-sink, Wrote-unbegun}
use Rattle.bolt_etcd.specs.Check.StoreFaults.{missing_bucket_lines, key_lines}
use Rattle.bolt_etcd.specs.Store.BucketNames.{bucket_names, key_bucket}
use Rattle.bolt_etcd.proofs.{ByName.until_all, ListedTexts.counted_three}
use Rattle.bolt_etcd.proofs.StoreLemmas.{entries_hold, fits, fits_none, found_names, lines_are, lines_text, names_hold, of_entries, of_names}
use Rattle.bolt_etcd.proofs.check.store_faults.put_store_faults.Goals as goal

pub returns-in_err-of_buckets-clause-written : goal.returns-in_err-of_buckets-clause-written
returns-in_err-of_buckets-clause-written g c = λ store is.
    Wrote-same (sym (concat-append (missing_bucket_lines store bucket_names) (key_lines store (store.bucket key_bucket))))
    (Wrote-sink _ _ (c.in_err-of_buckets.ensures.written store is) c.from_residual.ensures.1)

pub returns-in_default-clause-written : goal.returns-in_default-clause-written
returns-in_default-clause-written g c = λ store is.
    let none =
    fits_none c.args.root.now (store.bucket key_bucket)
    (fits c.args.root.now key_bucket None (store.bucket key_bucket) (rw c.in_default.is at c.bucket.ensures.bucket) (is.buckets key_bucket)) in
    Wrote-same (ap concat
    (sym (ap (λ (b : Option (List LeafElement)). missing_bucket_lines store bucket_names ++ key_lines store b) none
    ∙ append-nil (missing_bucket_lines store bucket_names))))
    (c.in_ok-of_buckets.ensures.written store is)

pub returns-in_err-found-clause-written : goal.returns-in_err-found-clause-written
returns-in_err-found-clause-written g c = λ store is.
    Wrote-same (sym (concat-append (missing_bucket_lines store bucket_names) (key_lines store (store.bucket key_bucket))))
    (Wrote-then (c.in_ok-of_buckets.ensures.written store is) (Wrote-unbegun _ _ _ c.from_residual-in_err-found.ensures.1))

pub returns-in_err-of_entries-clause-written : goal.returns-in_err-of_entries-clause-written
returns-in_err-of_entries-clause-written g c = λ store is.
    let entries =
    entries_hold c.args.root.now c.in-Some.keys c.store_compacted-compacted.result store is c.in-Some.ensures.bucket c.in-Some.ensures.checked
    (c.store_compacted-compacted.ensures store is)
    (λ lines. Wrote g.S.Sink c.put_missing_buckets.new.sink c.put_entry_faults.new.sink (concat lines) broken)
    (λ es are. c.in_err-of_entries.ensures.written es are (c.in_ok-found.ensures.revisions es are ∙ until_all es, c.in_ok-found.ensures.unread es are)) in
    Wrote-same (lines_text c.args.root.now c.in-Some.keys c.store_compacted-compacted.result store is c.in-Some.ensures.bucket c.in-Some.ensures.checked
    (c.store_compacted-compacted.ensures store is))
    (Wrote-then (c.in_ok-of_buckets.ensures.written store is) (Wrote-sink _ _ entries c.from_residual-in_err-of_entries.ensures.1))

pub returns-in_err-of_names-clause-written : goal.returns-in_err-of_names-clause-written
returns-in_err-of_names-clause-written g c = λ store is.
    let entries =
    entries_hold c.args.root.now c.in-Some.keys c.store_compacted-compacted.result store is c.in-Some.ensures.bucket c.in-Some.ensures.checked
    (c.store_compacted-compacted.ensures store is)
    (λ lines. Wrote g.S.Sink c.put_missing_buckets.new.sink c.put_entry_faults.new.sink (concat lines) whole)
    (λ es are. c.in_ok-of_entries.ensures.written es are (c.in_ok-found.ensures.revisions es are ∙ until_all es, c.in_ok-found.ensures.unread es are)) in
    let names =
    names_hold c.args.root.now c.in-Some.keys c.store_compacted-compacted.result store is c.in-Some.ensures.bucket c.in-Some.ensures.checked
    (c.store_compacted-compacted.ensures store is) c.bucket-2.result
    (λ lines. Wrote g.S.Sink c.put_entry_faults.new.sink c.put_faults_by_name.new.sink (concat lines) broken) c.bucket-2.ensures.bucket
    c.bucket-2.ensures.checked
    (found_names c.in-Some.keys _ c.bucket-2.result c.store_compacted-compacted.result
    (λ lines. Wrote g.S.Sink c.put_entry_faults.new.sink c.put_faults_by_name.new.sink (concat lines) broken)
    (λ es are. c.in_ok-found.ensures.revisions es are ∙ until_all es) c.in_err-of_names.ensures.written) in
    Wrote-same (lines_text c.args.root.now c.in-Some.keys c.store_compacted-compacted.result store is c.in-Some.ensures.bucket c.in-Some.ensures.checked
    (c.store_compacted-compacted.ensures store is))
    (Wrote-then (c.in_ok-of_buckets.ensures.written store is) (Wrote-then entries (Wrote-passed _ names c.from_residual-in_err-of_names.ensures.1)))

pub returns-clause-written : goal.returns-clause-written
returns-clause-written g c = λ store is.
    let entries =
    entries_hold c.args.root.now c.in-Some.keys c.store_compacted-compacted.result store is c.in-Some.ensures.bucket c.in-Some.ensures.checked
    (c.store_compacted-compacted.ensures store is)
    (λ lines. Wrote g.S.Sink c.put_missing_buckets.new.sink c.put_entry_faults.new.sink (concat lines) whole)
    (λ es are. c.in_ok-of_entries.ensures.written es are (c.in_ok-found.ensures.revisions es are ∙ until_all es, c.in_ok-found.ensures.unread es are)) in
    let names =
    names_hold c.args.root.now c.in-Some.keys c.store_compacted-compacted.result store is c.in-Some.ensures.bucket c.in-Some.ensures.checked
    (c.store_compacted-compacted.ensures store is) c.bucket-2.result
    (λ lines. Wrote g.S.Sink c.put_entry_faults.new.sink c.put_faults_by_name.new.sink (concat lines) whole) c.bucket-2.ensures.bucket
    c.bucket-2.ensures.checked
    (found_names c.in-Some.keys _ c.bucket-2.result c.store_compacted-compacted.result
    (λ lines. Wrote g.S.Sink c.put_entry_faults.new.sink c.put_faults_by_name.new.sink (concat lines) whole)
    (λ es are. c.in_ok-found.ensures.revisions es are ∙ until_all es) c.in_ok-of_names.ensures.written) in
    Wrote-same (lines_text c.args.root.now c.in-Some.keys c.store_compacted-compacted.result store is c.in-Some.ensures.bucket c.in-Some.ensures.checked
    (c.store_compacted-compacted.ensures store is)) (Wrote-then (c.in_ok-of_buckets.ensures.written store is) (Wrote-then entries names))

pub returns-clause-number : goal.returns-clause-number
returns-clause-number g c = λ store is.
    let entries =
    entries_hold c.args.root.now c.in-Some.keys c.store_compacted-compacted.result store is c.in-Some.ensures.bucket c.in-Some.ensures.checked
    (c.store_compacted-compacted.ensures store is)
    (λ lines. c.in_ok-of_entries.of_entries ≡ counted 0 (length lines))
    (λ es are. c.in_ok-of_entries.ensures.number es are (c.in_ok-found.ensures.revisions es are ∙ until_all es, c.in_ok-found.ensures.unread es are)) in
    let names =
    names_hold c.args.root.now c.in-Some.keys c.store_compacted-compacted.result store is c.in-Some.ensures.bucket c.in-Some.ensures.checked
    (c.store_compacted-compacted.ensures store is) c.bucket-2.result
    (λ lines. c.in_ok-of_names.of_names ≡ counted 0 (length lines)) c.bucket-2.ensures.bucket c.bucket-2.ensures.checked
    (found_names c.in-Some.keys _ c.bucket-2.result c.store_compacted-compacted.result (λ lines. c.in_ok-of_names.of_names ≡ counted 0 (length lines))
    (λ es are. c.in_ok-found.ensures.revisions es are ∙ until_all es) c.in_ok-of_names.ensures.number) in
    counted_three (missing_bucket_lines store bucket_names)
    (of_entries c.args.root.now c.in-Some.keys c.store_compacted-compacted.result store is c.in-Some.ensures.bucket c.in-Some.ensures.checked
    (c.store_compacted-compacted.ensures store is))
    (of_names c.args.root.now c.in-Some.keys c.store_compacted-compacted.result store is c.in-Some.ensures.bucket c.in-Some.ensures.checked
    (c.store_compacted-compacted.ensures store is))
    _ _ _ _ _ (c.in_ok-of_buckets.ensures.number store is) entries names c.saturating_add.ensures c.saturating_add-2.ensures
    ∙ ap (λ (lines : List (List ℕ)). counted 0 (length lines))
    (sym (lines_are c.args.root.now c.in-Some.keys c.store_compacted-compacted.result store is c.in-Some.ensures.bucket c.in-Some.ensures.checked
    (c.store_compacted-compacted.ensures store is)))
