-- What the commands answer that read what etcd keeps: docs/COMMANDS.md, "What etcd keeps".
use Rattle.std.specs.Prelude.{◌≡◌, ◌≢◌, ◌-◌, ◌^◌, ◌⊎◌, ℕ, zero, suc, nat_lt, List, ◌++◌, Bool, true, false, codes, length, Option, Some, None, Ok}
use Rattle.std.specs.Prelude.{Err}
use Rattle.bolt_check.specs.Counts.{counted}
use Rattle.bolt_format.specs.{Elements.LeafElement, declared.meta.Meta.Meta}
use Rattle.bolt_report.specs.{FaultWords.count_line, RevisionLines.named_with, RevisionLines.revision_lines, StatusLines.status_text}
use Rattle.bolt_tree.specs.Entries.{IsEntry, Root_page}
use Rattle.bolt_commands.specs.Answers.{Answer, IsPrinted, JobEnding, Late, Short, done, in_json, refused}
use Rattle.bolt_commands.specs.{CheckAnswers.IsCheckAnswer, FilesRead.IsReadAnswer, FilesRead.IsReadUnder, KeyAnswers.value_shown}
use Rattle.bolt_commands.specs.declared.failure.Failure.TheVariants as failure
use Rattle.bolt_etcd.specs.{Store.Current.AreCurrent, Store.Newest.newest, Store.Newest.until, Store.Newest.value_if, Wire.Revisions.RevisionView}
use Rattle.bolt_etcd.specs.{Store.StoreBuckets.IsStore, Store.StoreBuckets.StoreView}
use Rattle.bolt_etcd.specs.{Store.Statuses.store_status, Check.StoreFaults.store_compacted, Check.StoreFaults.store_lines, Store.Stores.entries_from}
use Rattle.bolt_etcd.specs.{Store.Stores.unread_elements, Store.Stores.revisions}
use Rattle.bolt_etcd.specs.Store.BucketNames.{key_bucket}
use Rattle.std.specs.{Int.to_be_bytes, Int.w64, List.concat}
use Rattle.bolt_job.specs.declared.{choices.Extent.TheVariants.Losses, choices.MetaChoice.MetaChoice}
use Rattle.bolt_job.specs.{declared.etcd_commands.EtcdCheckJob.EtcdCheckJob, declared.etcd_commands.EtcdGetJob.EtcdGetJob}
use Rattle.bolt_job.specs.{declared.etcd_commands.EtcdKeysJob.EtcdKeysJob}
use Rattle.bolt_job.specs.{declared.etcd_commands.EtcdRevisionsJob.EtcdRevisionsJob, declared.etcd_commands.EtcdStatusJob.EtcdStatusJob}

-- what is under the root bucket
abbrev pub IsStoreOf : List ℕ → Meta → StoreView → Type 0
IsStoreOf file meta store = IsStore (IsEntry file meta) (Root_page meta.root) store

-- an answer of the entries of the bucket `key`, which may be missing
abbrev pub OfKeys : Option (List LeafElement) → (List LeafElement → Answer → Type 0) → Answer → Type 0
OfKeys None IsWanted answer = answer ≡ refused failure.NoBucket
OfKeys (Some entries) IsWanted answer = IsWanted entries answer

-- entries that aren't revisions are counted on standard error: they may have been newer
abbrev pub end_unread : ℕ → JobEnding
end_unread zero = Ok 0
end_unread (suc n) = Err (failure.NotRevisions (suc n))

abbrev pub entries_ending : List LeafElement → JobEnding
entries_ending entries = end_unread (counted 0 (length (unread_elements entries)))

-- the entries from a transaction on, if one is named: those whose keys aren't below its number in eight bytes
abbrev pub entries_asked : Option ℕ → List LeafElement → List LeafElement
entries_asked None entries = entries
entries_asked (Some main) entries = entries_from (to_be_bytes w64 main) entries

-- the last transaction whose revisions are asked for: the one that is named, or 2^64 - 1, above which no number is
abbrev pub up_to : Option ℕ → ℕ
up_to None = 2 ^ 64 - 1
up_to (Some main) = main

-- whether the transaction that is named was compacted away
abbrev pub is_compacted : Option ℕ → Option ℕ → Bool
is_compacted (Some main) (Some compacted) = nat_lt main compacted
is_compacted _ _ = false

abbrev pub UnlessCompacted : Bool → (Answer → Type 0) → Answer → Type 0
UnlessCompacted true IsWanted answer = answer ≡ refused failure.Compacted
UnlessCompacted false IsWanted answer = IsWanted answer

-- an answer of the entries of the bucket `key` at a transaction
abbrev pub IsAnswerAt : Option ℕ → StoreView → (List LeafElement → Answer → Type 0) → Answer → Type 0
IsAnswerAt at store IsWanted answer =
    OfKeys (store.bucket key_bucket) (λ entries. UnlessCompacted (is_compacted at (store_compacted store)) (IsWanted entries)) answer

-- the lines of the revisions whose names begin with a prefix
abbrev pub IsRevisionsText : EtcdRevisionsJob → List LeafElement → Answer → Type 0
IsRevisionsText job entries answer =
    let asked = entries_asked job.from entries in
    IsPrinted (in_json Late job.form) (revision_lines job.form job.values (named_with job.prefix.items (revisions asked))) (entries_ending asked) answer

-- the lines of the keys that there are at a transaction
abbrev pub IsCurrentText : EtcdKeysJob → List LeafElement → Answer → Type 0
IsCurrentText job entries answer =
    (current : List RevisionView) × AreCurrent (until (up_to job.at) (revisions entries)) current
    × IsPrinted Late (revision_lines job.form job.values (named_with job.prefix.items current)) (entries_ending entries) answer

-- a value, if there is one
abbrev pub IsValueText : EtcdGetJob → JobEnding → Option (List ℕ) → Answer → Type 0
IsValueText job ending None answer = answer ≡ refused failure.NoKey
IsValueText job ending (Some value) answer = IsPrinted (in_json Short job.form) (value_shown job.form job.no_newline value) ending answer

-- what a key held at a transaction
abbrev pub IsNewestText : EtcdGetJob → List LeafElement → Answer → Type 0
IsNewestText job entries answer = IsValueText job (entries_ending entries) (value_if (newest job.name.items (until (up_to job.at) (revisions entries)))) answer

-- what etcd would report of a store at a transaction
abbrev pub IsStatusText : EtcdStatusJob → StoreView → List LeafElement → Answer → Type 0
IsStatusText job store entries answer =
    answer ≡ record { out = status_text job.form (store_status (up_to job.at) store entries); ending = entries_ending entries }

-- what follows the lines of so many errors, and the status
abbrev pub errors_end : ℕ → List ℕ
errors_end zero = codes "OK\n"
errors_end (suc n) = count_line (suc n)

abbrev pub errors_status : ℕ → ℕ
errors_status zero = 0
errors_status (suc n) = 1

-- what is wrong with a store, line by line
abbrev pub IsStoreText : StoreView → Answer → Type 0
IsStoreText store answer =
    let errors = counted 0 (length (store_lines store)) in
    IsPrinted Late (concat (store_lines store) ++ errors_end errors) (Ok (errors_status errors)) answer

-- the file isn't refused, and this is an answer of its store
abbrev pub IsStoreAnswer : List ℕ → (StoreView → Answer → Type 0) → Meta → Answer → Type 0
IsStoreAnswer file IsWanted meta answer = (store : StoreView) × IsStoreOf file meta store × IsWanted store answer

abbrev pub IsEtcdRevisionsPrint : EtcdRevisionsJob → List ℕ → Answer → Type 0
IsEtcdRevisionsPrint job file answer =
    IsReadAnswer file job.meta (IsStoreAnswer file (λ store. OfKeys (store.bucket key_bucket) (IsRevisionsText job))) answer

abbrev pub IsEtcdKeysPrint : EtcdKeysJob → List ℕ → Answer → Type 0
IsEtcdKeysPrint job file answer = IsReadAnswer file job.meta (IsStoreAnswer file (λ store. IsAnswerAt job.at store (IsCurrentText job))) answer

abbrev pub IsEtcdGetPrint : EtcdGetJob → List ℕ → Answer → Type 0
IsEtcdGetPrint job file answer = IsReadAnswer file job.meta (IsStoreAnswer file (λ store. IsAnswerAt job.at store (IsNewestText job))) answer

abbrev pub IsEtcdStatusPrint : EtcdStatusJob → List ℕ → Answer → Type 0
IsEtcdStatusPrint job file answer = IsReadAnswer file job.meta (IsStoreAnswer file (λ store. IsAnswerAt job.at store (IsStatusText job store))) answer

-- what `check --all` answers
abbrev pub IsCheckAllAnswer : List ℕ → MetaChoice → Answer → Type 0
IsCheckAllAnswer file choice answer = IsCheckAnswer Losses false false file choice answer

-- If `check --all` answers `OK`, this is an answer of the store. Otherwise it is what `check --all` answers.
abbrev pub IsEtcdCheckPrint : EtcdCheckJob → List ℕ → Answer → Type 0
IsEtcdCheckPrint job file answer =
    ((meta : Meta) × IsCheckAllAnswer file job.meta (done (codes "OK\n")) × IsReadUnder file job.meta meta × IsStoreAnswer file IsStoreText meta answer)
    ⊎ (IsCheckAllAnswer file job.meta answer × (answer.ending ≢ Ok 0))
