-- What the functions of etcd's commands promise.
use Rattle.std.specs.Prelude.{◌≡◌, ◌⊎◌, ℕ, List, None, Some, Ok, Err, Result}
use Rattle.bolt_check.specs.CheckedFiles.{bytes_of, meta_of}
use Rattle.bolt_format.specs.declared.meta.Meta.{Meta}
use Rattle.bolt_text.specs.declared.report_fault.ReportFault.{ReportFault}
use Rattle.bolt_tree.specs.{BucketViews.entries_of, Buckets.bucket_checked, Buckets.bucket_start, Entries.IsEntry, Entries.Root_page}
use Rattle.bolt_tree.specs.{Lookups.IsBucketAt}
use Rattle.bolt_job.specs.declared.choices.MetaChoice.{MetaChoice}
use Rattle.bolt_commands.specs.{Answers.JobEnding, EtcdAnswers.end_unread, Failures.report_failure, FilesRead.IsReadUnder, Private.Contents.IsUnread}
use Rattle.bolt_commands.specs.declared.{etcd_store.Store.Store, failure.Failure.Failure}
use Rattle.bolt_commands.specs.declared.failure.Failure.TheVariants as failure
use Rattle.bolt_etcd.specs.Store.BucketNames.{key_bucket}

-- what is read of a file under this choice
pub record IsStoreRead (file : List ℕ) (choice : MetaChoice) (store : Store) : Type 0 where
  pub bytes : bytes_of (bucket_checked store.root) ≡ file
  pub under : IsReadUnder file choice (meta_of (bucket_checked store.root))
  pub root : bucket_start store.root ≡ Root_page (meta_of (bucket_checked store.root)).root
  pub keys : IsBucketAt (entries_of (bucket_checked store.root)) (bucket_start store.root) key_bucket (Some store.keys)
  pub checked : bucket_checked store.keys ≡ bucket_checked store.root

-- the bucket `key` is missing, or the file is refused
abbrev pub IsUnreadStore : List ℕ → MetaChoice → Failure → Type 0
IsUnreadStore file choice why =
    ((meta : Meta) × IsReadUnder file choice meta × IsBucketAt (IsEntry file meta) (Root_page meta.root) key_bucket None × (why ≡ failure.NoBucket))
    ⊎ IsUnread file choice why

-- how a job ends that wrote revisions
abbrev pub end_revisions : Result ℕ ReportFault → JobEnding
end_revisions (Ok unread) = end_unread unread
end_revisions (Err fault) = Err (report_failure fault)
