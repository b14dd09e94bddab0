-- What is printed of what etcd keeps.
use Rattle.std.proofs.Common.{◌≡◌, ◌++◌, ℕ, true, false, IfErr, IfOk, List, None, Option, Some, Result, Ok, Err, inl, inr, length, refl}
use Rattle.std.proofs.Common.{subst, sym}
use Rattle.bolt_lemmas.proofs.Exports.{filter_rises}
use Rattle.bolt_check.specs.Counts.{counted}
use Rattle.bolt_etcd.proofs.Exports.{revisions_rise, current_is_one, one_store, fits, fits_some}
use Rattle.bolt_tree.proofs.Exports.{root_starts}
use Rattle.bolt_etcd.specs.{Store.Current.AreCurrent, Store.Newest.is_until, Store.Newest.until}
use Rattle.bolt_etcd.specs.Store.Orders.{stored_key_cmp}
use Rattle.bolt_etcd.specs.{Wire.Revisions.RevisionView, Store.Stores.revisions, Store.Stores.unread_elements}
use Rattle.bolt_etcd.specs.{Store.StoreBuckets.HasEntriesUnder, Store.StoreBuckets.IsStore, Store.StoreBuckets.StoreView}
use Rattle.bolt_etcd.specs.{Check.StoreFaults.store_compacted}
use Rattle.bolt_etcd.specs.Store.BucketNames.{key_bucket}
use Rattle.bolt_format.proofs.Exports.{Wrote-stop_halted}
use Rattle.bolt_text.specs.ReportEndings.{FailsByWritingJson}
use Rattle.bolt_text.specs.declared.report_fault.ReportFault.TheVariants as report
use Rattle.bolt_tree.specs.BucketViews.{entries_of}
use Rattle.bolt_commands.specs.Answers.{Late, in_json}
use Rattle.bolt_text.specs.declared.forms.Form.{Form}
use Rattle.bolt_commands.specs.EtcdAnswers.{IsAnswerAt, IsStoreAnswer, OfKeys, entries_ending, is_compacted, end_unread}
use Rattle.bolt_commands.specs.{Private.Etcd.IsStoreRead, Private.Etcd.IsUnreadStore, Private.Etcd.end_revisions, declared.etcd_store.Store.Store}
use Rattle.bolt_commands.specs.declared.failure.Failure.TheVariants as failure
use Rattle.bolt_commands.proofs.Vocabulary.{Answer, AreEntries, Checked, JobEnding, Failure, Ghosts, HasSoundTrees, IsBucketAt, IsEntry, IsPrinted}
use Rattle.bolt_commands.proofs.Vocabulary.{IsErrAnd, IsReadAnswer, LeafElement, MayFail, Meta, MetaChoice, PrintsAnswer, ReportFault, Root_page}
use Rattle.bolt_commands.proofs.Vocabulary.{Start, Wrote, Wrote-stop, bucket_checked, bucket_start, end_report, meta_of, refused, report_ending}
use Rattle.bolt_commands.proofs.Vocabulary.{report_failure}
use Rattle.bolt_commands.proofs.{CutTexts.ended_put, CutTexts.json_put, Doing.answer_as, Doing.answer_nothing, ReadFiles.read_trees}

-- ---- the store of a file that is read

abbrev pub HasStore : List ℕ → Meta → Type 0
HasStore file meta = (store : StoreView) × IsStore (IsEntry file meta) (Root_page meta.root) store

pub has_store : (file : List ℕ) (meta : Meta) → HasSoundTrees file meta → HasStore file meta
has_store file meta trees = let (store, is, once) = one_store file meta (Root_page meta.root) trees (root_starts file meta) in (store, is)

-- ---- without the bucket `key`

no_keys : (Entry : Start → LeafElement → Type 0) (root : Start) (b : Option (List LeafElement)) → HasEntriesUnder Entry root key_bucket b
    → IsBucketAt Entry root key_bucket None → b ≡ None
no_keys Entry root None has none = refl
no_keys Entry root (Some entries) (e, there, key, bucket, are) none = let flat = none e there key in absurd (cc)

pub unread_store : (file : List ℕ) (choice : MetaChoice) (IsWanted : StoreView → Answer → Type 0) (why : Failure) → IsUnreadStore file choice why
    → ((store : StoreView) → store.bucket key_bucket ≡ None → IsWanted store (refused failure.NoBucket))
    → IsReadAnswer file choice (IsStoreAnswer file IsWanted) (refused why)
unread_store file choice IsWanted why (inl (meta, under, none, is)) wanted =
    let (store, has) = has_store file meta (read_trees file choice meta under) in
    let missing = no_keys (IsEntry file meta) (Root_page meta.root) (store.bucket key_bucket) (has.buckets key_bucket) none in
    rw is (inl (meta, under, (store, has, wanted store missing)))
unread_store file choice IsWanted why (inr (fault, is, refusal)) wanted = inr (fault, is, refusal)

-- ---- with it

module _ (file : List ℕ) (choice : MetaChoice) (s : Store) (of : IsStoreRead file choice s) where
  abbrev meta : Meta
  meta = meta_of (bucket_checked s.root)

  pub own : HasStore file meta
  own = has_store file meta (read_trees file choice meta of.under)

  pub here : IsStore (entries_of (bucket_checked s.root)) (bucket_start s.root) own.0
  here = rw (of.root, of.bytes) own.1

  pub keys : (entries : List LeafElement) × (own.0.bucket key_bucket ≡ Some entries)
      × AreEntries (entries_of (bucket_checked s.keys)) (bucket_start s.keys) entries
  keys =
      let (entries, at, are) =
      fits_some s.root s.keys (own.0.bucket key_bucket)
      (fits s.root key_bucket (Some s.keys) (own.0.bucket key_bucket) of.keys (here.buckets key_bucket)) in
      (entries, at, subst (λ (c : Checked). AreEntries (entries_of c) (bucket_start s.keys) entries) (sym of.checked) are)

  module _ {S : Type 0} {sink : Ghosts S} {old new : S} (ending : JobEnding) where
    pub keys_answer : (P : List LeafElement → Answer → Type 0) → PrintsAnswer sink old new (P keys.0) ending
        → PrintsAnswer sink old new (IsReadAnswer file choice (IsStoreAnswer file (λ store. OfKeys (store.bucket key_bucket) P))) ending
    keys_answer P put = answer_as put (λ answer is. inl (meta, of.under, (own.0, own.1, rw keys.1 is)))

    pub answer_at : (P : StoreView → List LeafElement → Answer → Type 0) (at : Option ℕ) → is_compacted at (store_compacted own.0) ≡ false
        → PrintsAnswer sink old new (P own.0 keys.0) ending
        → PrintsAnswer sink old new (IsReadAnswer file choice (IsStoreAnswer file (λ store. IsAnswerAt at store (P store)))) ending
    answer_at P at kept put = answer_as put (λ answer is. inl (meta, of.under, (own.0, own.1, rw (keys.1, kept) is)))

  pub compacted_answer : {S : Type 0} {sink : Ghosts S} (old : S) (P : StoreView → List LeafElement → Answer → Type 0) (ending : JobEnding) (at : Option ℕ)
      → is_compacted at (store_compacted own.0) ≡ true → (why : Failure) → why ≡ failure.Compacted → IsErrAnd ending (λ said. said ≡ why)
      → PrintsAnswer sink old old (IsReadAnswer file choice (IsStoreAnswer file (λ store. IsAnswerAt at store (P store)))) ending
  compacted_answer old P ending at gone why is said = answer_nothing why ending (rw is (inl (meta, of.under, (own.0, own.1, rw (keys.1, gone) refl)))) said

  -- the keys that there are at a transaction
  pub current_keys : (up_to : ℕ) → (current : List RevisionView) × AreCurrent (until up_to (revisions keys.0)) current
  current_keys up_to =
      let rises = filter_rises stored_key_cmp (is_until up_to) (revisions keys.0) (revisions_rise keys.0 keys.2.rises) in
      let (current, are, once) = current_is_one (until up_to (revisions keys.0)) rises in (current, are)

-- ---- texts, and how the job then ends

pub known_of : {P : ℕ → Type 0} (put : Result ℕ ReportFault) (n : ℕ) → IfOk put P → ((m : ℕ) → P m → m ≡ n) → IfOk put (λ m. m ≡ n)
known_of (Ok m) n known same = same m known
known_of (Err fault) n known same = tt

ends_counted : (put : Result ℕ ReportFault) (n : ℕ) → IfOk put (λ m. m ≡ n) → end_revisions put ≡ end_report put (end_unread n)
ends_counted (Ok m) n same = rw same refl
ends_counted (Err fault) n same = refl

module _ {S : Type 0} {sink : Ghosts S} {old new : S} (text : List ℕ) (entries : List LeafElement) (put : Result ℕ ReportFault)
    (written : Wrote sink old new text (report_ending put))
    (knows : IfOk put (λ m. m ≡ counted 0 (length (unread_elements entries)))) where
  pub counted_put : (form : Form) → IfErr put (FailsByWritingJson form)
      → PrintsAnswer sink old new (IsPrinted (in_json Late form) text (entries_ending entries)) (end_revisions put)
  counted_put form fault = rw (ends_counted put (counted 0 (length (unread_elements entries))) knows) (json_put text (entries_ending entries) put written form fault)

  pub counted_ended : MayFail put → PrintsAnswer sink old new (IsPrinted Late text (entries_ending entries)) (end_revisions put)
  counted_ended fault = rw (ends_counted put (counted 0 (length (unread_elements entries))) knows) (ended_put text (entries_ending entries) put written fault)

-- a text that stopped in its first part
pub first_cut : {S : Type 0} {sink : Ghosts S} {old new : S} (first second : List ℕ) (wanted : JobEnding) (e : ReportFault)
    → Wrote sink old new first (report_ending {A = ℕ} (Err e))
    → MayFail {A = ℕ} (Err e) → PrintsAnswer sink old new (IsPrinted Late (first ++ second) wanted) (Err (report_failure e))
first_cut first second wanted report.Sink written fault = ended_put {A = ℕ} (first ++ second) wanted (Err report.Sink) (Wrote-stop second written) fault
first_cut first second wanted report.NoMemory written fault =
    ended_put {A = ℕ} (first ++ second) wanted (Err report.NoMemory) (Wrote-stop_halted second written) fault
first_cut first second wanted (report.Page page) written (inl sink) = absurd (cc)
first_cut first second wanted (report.Page page) written (inr full) = absurd (cc)
