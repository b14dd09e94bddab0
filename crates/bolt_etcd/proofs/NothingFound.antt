-- Nothing is found in a store from which nothing is missing.
use Rattle.std.proofs.Common.{arith, ◌≡◌, ◌∙◌, ◌++◌, ◌&&◌, ℕ, Bool, true, false, List, [], ◌∷◌, flat_map, map, max, not, Option, Some, None}
use Rattle.std.proofs.Common.{refl, ap}
use Rattle.std.proofs.lemmas.Bool.{and_left, and_right, cases_Bool, eq-eqb, ltb-true}
use Rattle.std.specs.{List.Contains, List.cons_option, List.filter_map, Option.is_some}
use Rattle.bolt_lemmas.proofs.Exports.{contains_head, contains_tail, filter_both, filter_none, filter_rises, filter_same, kept_from}
use Rattle.bolt_lemmas.specs.Order.{Rises}
use Rattle.bolt_check.specs.Keys.{Key}
use Rattle.bolt_format.specs.Elements.{LeafElement}
use Rattle.bolt_tree.specs.{Entries.EntryView, Entries.entry_view}
use Rattle.bolt_etcd.specs.{Check.CheckLines.name_fault_lines, Histories.Compactions.IsCompaction, Histories.Compactions.kept_revisions}
use Rattle.bolt_etcd.specs.Store.Orders.{stored_key_cmp}
use Rattle.bolt_etcd.specs.{Histories.Transactions.Delete, Histories.Transactions.Put, Histories.Transactions.State}
use Rattle.bolt_etcd.specs.{Histories.Transactions.Transaction, Histories.Transactions.history, Histories.Transactions.nothing}
use Rattle.bolt_etcd.specs.{Check.Misplaced.is_misplaced, Check.Misplaced.misplaced}
use Rattle.bolt_etcd.specs.{Check.MissingNumbers.is_of_later, Check.MissingNumbers.keys_above, Check.MissingNumbers.missing_after}
use Rattle.bolt_etcd.specs.{Check.MissingNumbers.missing_numbers, Check.NameFaults.name_faults, Wire.Numbered.numbered, Wire.Numbered.numbered_of}
use Rattle.bolt_etcd.specs.{Wire.UnreadEntries.UnreadView, Wire.UnreadEntries.unread_entries, Wire.Revisions.RevisionView, Wire.Revisions.revision_of}
use Rattle.bolt_etcd.specs.{Histories.Possible.ArePossible, Store.StoreBuckets.StoreView, Store.Stores.revisions}
use Rattle.bolt_etcd.specs.Histories.WholeStores.{GrantsLeases, HoldsExactly}
use Rattle.bolt_etcd.specs.Check.StoreFaults.{missing_bucket_lines, entry_lines, key_lines, line_without, name_lines, store_granted}
use Rattle.bolt_etcd.specs.Check.StoreFaults.{store_lines}
use Rattle.bolt_etcd.specs.Store.BucketNames.{bucket_names, key_bucket}
use Rattle.bolt_etcd.proofs.{FaultsOfNames.faults_named, FaultsOfNames.none_of_any, HistoryNumbers.none_missing}
use Rattle.bolt_etcd.proofs.{HistorySteps.IsWritten, HistorySteps.each, HistorySteps.goes, HistorySteps.stored_keys_rise, UnreadCounts.is_numbered}
use Rattle.bolt_etcd.proofs.{UnreadCounts.not_unread, WholeNames.no_faults}

-- ---- buckets

no_line : (name : Key) (o : Option (List LeafElement)) → is_some o ≡ true → line_without name o ≡ []
no_line name (Some entries) some = refl
no_line name None some = cc

no_bucket_lines : (store : StoreView) (names : List Key) → ((name : Key) → Contains names name → is_some (store.bucket name) ≡ true)
    → missing_bucket_lines store names ≡ []
no_bucket_lines store [] there = refl
no_bucket_lines store (name ∷ names) there =
    ap (λ (l : List (List ℕ)). l ++ missing_bucket_lines store names) (no_line name (store.bucket name) (there name (contains_head name names)))
    ∙ no_bucket_lines store names (λ other has. there other (contains_tail name other names has))

-- ---- entries that are these revisions

-- what shows a revision as it is shows them all
shown_are : (shows : EntryView → Option RevisionView) → ((v : EntryView) (r : RevisionView) → revision_of v ≡ Some r → shows v ≡ Some r)
    → (entries : List LeafElement) (rs : List RevisionView) → map (λ (e : LeafElement). revision_of (entry_view e)) entries ≡ map Some rs
    → filter_map (λ e. shows (entry_view e)) entries ≡ rs
shown_are shows one [] [] are = refl
shown_are shows one [] (r ∷ rs) are = cc
shown_are shows one (e ∷ entries) [] are = cc
shown_are shows one (e ∷ entries) (r ∷ rs) are =
    let first : revision_of (entry_view e) ≡ Some r = cc in
    let later : map (λ (f : LeafElement). revision_of (entry_view f)) entries ≡ map Some rs = cc in
    rw (one (entry_view e) r first) (ap (λ (l : List RevisionView). r ∷ l) (shown_are shows one entries rs later))

none_unread : (entries : List LeafElement) (rs : List RevisionView) → map (λ (e : LeafElement). revision_of (entry_view e)) entries ≡ map Some rs
    → unread_entries entries ≡ []
none_unread [] rs are = refl
none_unread (e ∷ entries) [] are = cc
none_unread (e ∷ entries) (r ∷ rs) are =
    let first : revision_of (entry_view e) ≡ Some r = cc in
    let later : map (λ (f : LeafElement). revision_of (entry_view f)) entries ≡ map Some rs = cc in
    ap (λ (o : Option UnreadView). cons_option o (unread_entries entries)) (not_unread (entry_view e) r first) ∙ none_unread entries rs later

-- ---- what holds of each revision

not_misplaced : (state : State) (r : RevisionView) → IsWritten state r → is_misplaced r ≡ false
unfolding is_misplaced
not_misplaced state r (Put name value lease, can, is) =
    and_right _ _ (ap not (eq-eqb r.content.modified r.key.main (ap (λ (x : RevisionView). x.content.modified) is)))
not_misplaced state r (Delete name, can, is) = and_left _ _ (ap (λ (x : RevisionView). not x.key.deleted) is)

module _ (compacted : ℕ) (ts : List Transaction) (keeps : RevisionView → Bool) (possible : ArePossible ts) (compaction : IsCompaction compacted ts keeps) where
  there : (r : RevisionView) → Contains (kept_revisions keeps ts) r → Contains (history ts) r
  there r has = (kept_from keeps (history ts) r has).0

  kept_rises : Rises stored_key_cmp (kept_revisions keeps ts)
  kept_rises = filter_rises stored_key_cmp keeps (history ts) (stored_keys_rise ts possible)

  none_misplaced : misplaced (kept_revisions keeps ts) ≡ []
  none_misplaced =
      filter_none is_misplaced (kept_revisions keeps ts) (λ r has.
      each (λ (s : RevisionView). is_misplaced s ≡ false) not_misplaced nothing 2 0 (history ts) (goes ts possible) r (there r has))

  above_kept : (r : RevisionView) → Contains (history ts) r → (is_of_later compacted r && keeps r) ≡ is_of_later compacted r
  above_kept r has = grind (arith, cases_Bool, ltb-true)

  keys_kept : keys_above compacted (kept_revisions keeps ts) ≡ keys_above compacted (history ts)
  keys_kept = grind (arith, filter_both, filter_same, above_kept)

  no_number : missing_numbers compacted (kept_revisions keeps ts) ≡ []
  no_number = ap (missing_after (max compacted 1) 0) keys_kept ∙ none_missing compacted nothing (history ts) (goes ts possible)

  module _ (store : StoreView) (is : HoldsExactly store compacted (kept_revisions keeps ts)) (grants : GrantsLeases store ts) where
    own : revisions is.entries ≡ kept_revisions keeps ts
    own = shown_are revision_of (λ v r found. found) is.entries (kept_revisions keeps ts) is.revisions

    there_are : numbered is.entries ≡ kept_revisions keeps ts
    there_are = shown_are numbered_of is_numbered is.entries (kept_revisions keeps ts) is.revisions

    no_entry_lines : entry_lines (Some compacted) is.entries ≡ []
    no_entry_lines =
        rw (none_unread is.entries (kept_revisions keeps ts) is.revisions, own, there_are, none_misplaced, no_number) refl

    no_name_lines : name_lines (Some compacted) (store_granted store) store.by_name ≡ []
    no_name_lines =
        ap (flat_map name_fault_lines)
        (none_of_any (name_faults (Some compacted) (store_granted store) None store.by_name) (λ name.
        faults_named (Some compacted) (store_granted store) (kept_revisions keeps ts) store.by_name name kept_rises is.sorted
        ∙ no_faults compacted ts keeps possible compaction name (store_granted store) (grants name)))

    pub nothing_found : store_lines store ≡ []
    nothing_found =
        ap (λ (l : List (List ℕ)). l ++ key_lines store (store.bucket key_bucket)) (no_bucket_lines store bucket_names is.buckets)
        ∙ ap (key_lines store) is.under_key
        ∙ ap (λ (c : Option ℕ). entry_lines c is.entries ++ name_lines c (store_granted store) store.by_name) is.compacted_at
        ∙ ap (λ (l : List (List ℕ)). l ++ name_lines (Some compacted) (store_granted store) store.by_name) no_entry_lines
        ∙ no_name_lines
