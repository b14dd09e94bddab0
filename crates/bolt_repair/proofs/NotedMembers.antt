-- What one member more says of a store.
use Rattle.std.proofs.Common.{rules, ◌≡◌, ◌≤◌, ◌↔◌, ◌∙◌, inl, inr, ℕ, List, [], ◌∷◌, ◌++◌, Option, Some, None, refl, sym, ap, subst, length, arith}
use Rattle.std.proofs.lemmas.List.{append-nil, append_assoc}
use Rattle.std.proofs.lemmas.List.Elements.{Contains-append_cases, Contains-append_left, Contains-append_right, Contains-push, Contains-push_cases}
use Rattle.std.proofs.lemmas.List.Sums.{count_by-le-length, length-filter}
use Rattle.std.proofs.lemmas.Option.{same_Some}
use Rattle.std.specs.{List.Contains, Option.option_to_list}
use Rattle.std.specs.declared.cmp.Ordering.TheVariants.{Less}
use Rattle.bolt_lemmas.proofs.Exports.{before_it, contains_cases, contains_head, contains_none, first_decides, irreflexive, rises_push}
use Rattle.bolt_lemmas.specs.Order.{Rises}
use Rattle.bolt_check.specs.Keys.{Key, key_cmp}
use Rattle.bolt_tree.proofs.Exports.{path_total}
use Rattle.bolt_tree.specs.{Entries.Bucket, Entries.EntryView, Entries.Item, Entries.Value, InBuckets.entry_in, Listing.Member, Listing.member_cmp}
use Rattle.bolt_tree.specs.{Paths.Path, Paths.path_cmp}
use Rattle.bolt_etcd.specs.Wire.Revisions.{RevisionView, revision_of}
use Rattle.bolt_repair.specs.{Candidates.HasKey, Repairs.IsKeptRevision, Repairs.compaction_path, Repairs.store_path}
use Rattle.bolt_repair.specs.RecoveredStores.{ComesAfter, HasKeptKey, IsRecoveredStore, KeepsRevision, store_entries}
use Rattle.bolt_repair.specs.StorePaths.{is_in_store}

only : {A : Type 0} (o : Option A) (x : A) → Contains (option_to_list o) x → o ≡ Some x
only None x has = absurd (contains_none x has)
only (Some y) x has = elim (contains_cases y x [] has) [ inl is ↦ ap Some is | inr none ↦ absurd (contains_none x none) ]

module _ (before : List Member) (m : Member) where
  -- at another path there is nothing more
  elsewhere : (path : Path) (item : Item) → (m.0 ≡ path → ⊥) → Contains (before ++ m ∷ []) (path, item) ↔ Contains before (path, item)
  elsewhere path item other = (
    λ has. elim (Contains-push_cases before m (path, item) has) [ inl there ↦ there | inr is ↦ absurd (other (ap (λ (x : Member). x.0) is)) ],
    λ has. Contains-append_left before (m ∷ []) (path, item) has,
  )

  -- and at its path it is alone
  alone : ComesAfter before m → (item : Item) → Contains before (m.0, item) → ⊥
  alone after item has = irreflexive path_total m.0 (after (m.0, item) has)

-- ---- the paths differ

abbrev first_byte : Path → ℕ
first_byte [] = 0
first_byte ([] ∷ path) = 0
first_byte ((x ∷ key) ∷ path) = x

not_compaction : (key : Key) → store_path ++ key ∷ [] ≡ compaction_path → ⊥
not_compaction key e = let bytes = ap first_byte e in absurd (omega (arith, bytes))

not_in : (key : Key) → store_path ≡ store_path ++ key ∷ [] → ⊥
not_in key e = let lengths = ap length e in absurd (omega (arith, lengths))

bucket_not_compaction : store_path ≡ compaction_path → ⊥
bucket_not_compaction e = let lengths = ap length e in absurd (omega (arith, lengths))

same_last : (k l : Key) → store_path ++ k ∷ [] ≡ store_path ++ l ∷ [] → k ≡ l
same_last k l e = cc

-- ---- a store of these members, and of one more

module _ (before : List Member) (path : Path) (item : Item) (after : ComesAfter before (path, item)) (candidates : List EntryView)
    (under : Option Item) (noted : Option (List ℕ)) (revisions : List RevisionView) (keys : List Key)
    (s : IsRecoveredStore before candidates under noted revisions keys) where
  abbrev now : List Member
  now = before ++ (path, item) ∷ []

  last : Contains now (path, item)
  last = Contains-push before (path, item)

  store_same : (path ≡ store_path → ⊥) → (i : Item) → Contains now (store_path, i) ↔ (under ≡ Some i)
  store_same other i =
      let (from, to) = elsewhere before (path, item) store_path i other in
      (λ has. (s.bucket i).0 (from has), λ e. to ((s.bucket i).1 e))

  compaction_same : (path ≡ compaction_path → ⊥) → (value : List ℕ) → Contains now (compaction_path, Value value) ↔ (noted ≡ Some value)
  compaction_same other value =
      let (from, to) = elsewhere before (path, item) compaction_path (Value value) other in
      (λ has. (s.compaction value).0 (from has), λ e. to ((s.compaction value).1 e))

  -- no candidate has a key that the member adds
  met_same : ((key : Key) → path ≡ store_path ++ key ∷ [] → HasKey candidates key → ⊥) → (key : Key)
      → Contains keys key ↔ (HasKey candidates key × HasKeptKey now key)
  met_same other key = (
    λ has. (let (wanted, (i, kept)) = (s.met key).0 has in (wanted, (i, Contains-append_left before ((path, item) ∷ []) _ kept))),
    λ (wanted, (i, kept)). elim (Contains-push_cases before (path, item) _ kept) [
      | inl there ↦ (s.met key).1 (wanted, (i, there))
      | inr is ↦ absurd (other key (ap (λ (m : Member). m.0) is) wanted)
    ],
  )

  -- nor does it add a revision
  kept_same : ((key : Key) → path ≡ store_path ++ key ∷ [] → ⊥) → (e : EntryView) → Contains candidates e → (r : RevisionView)
      → Contains revisions r ↔ IsKeptRevision now r
  kept_same other e some r = (
    λ has. (let (x, there, is) = (s.kept e some r).0 has in (x, Contains-append_left before ((path, item) ∷ []) _ there, is)),
    λ (x, there, is). (s.kept e some r).1 (x, (elsewhere before (path, item) (store_path ++ x.key ∷ []) x.item (other x.key)).0 there, is),
  )

  pub store_noted : path ≡ store_path → IsRecoveredStore now candidates (Some item) noted revisions keys
  store_noted at = record {
    bucket = λ i. (
      λ has. elim (Contains-push_cases before (path, item) (store_path, i) has) [
        | inl there ↦ absurd (alone before (path, item) after i (subst (λ (p : Path). Contains before (p, i)) (sym at) there))
        | inr is ↦ ap (λ (m : Member). Some m.1) is
      ],
      λ e. subst (Contains now) (ap (λ (p : Path). (p, item)) at ∙ ap (λ (j : Item). (store_path, j)) (same_Some item i e)) last,
    );
    compaction = compaction_same (λ e. bucket_not_compaction (sym at ∙ e));
    kept = kept_same (λ key e. not_in key (sym at ∙ e));
    rises = s.rises;
    met = met_same (λ key e _. not_in key (sym at ∙ e));
  }

  module _ (value : List ℕ) (is_value : item ≡ Value value) where
    pub compaction_noted : path ≡ compaction_path → IsRecoveredStore now candidates under (Some value) revisions keys
    compaction_noted at = record {
      bucket = store_same (λ e. bucket_not_compaction (sym e ∙ at));
      compaction = λ v. (
        λ has. elim (Contains-push_cases before (path, item) (compaction_path, Value v) has) [
          | inl there ↦ absurd (alone before (path, item) after (Value v) (subst (λ (p : Path). Contains before (p, Value v)) (sym at) there))
          | inr is ↦ let same : Value value ≡ Value v = sym is_value ∙ ap (λ (m : Member). m.1) is in cc
        ],
        λ e. subst (Contains now) (ap (λ (p : Path). (p, item)) at ∙ ap (λ (j : Item). (compaction_path, j)) (is_value ∙ ap Value (same_Some value v e))) last,
      );
      kept = kept_same (λ key e. not_compaction key (sym e ∙ at));
      rises = s.rises;
      met = met_same (λ key e _. not_compaction key (sym e ∙ at));
    }

  -- a bucket notes no compaction
  module _ (sequence : ℕ) (is_bucket : item ≡ Bucket sequence) where
    pub bucket_there : path ≡ compaction_path → IsRecoveredStore now candidates under noted revisions keys
    bucket_there at = record {
      bucket = store_same (λ e. bucket_not_compaction (sym e ∙ at));
      compaction = λ v. (
        λ has. elim (Contains-push_cases before (path, item) (compaction_path, Value v) has) [
          | inl there ↦ (s.compaction v).0 there
          | inr is ↦ let wrong : Bucket sequence ≡ Value v = sym is_bucket ∙ ap (λ (m : Member). m.1) is in cc
        ],
        λ e. Contains-append_left before ((path, item) ∷ []) _ ((s.compaction v).1 e),
      );
      kept = kept_same (λ key e. not_compaction key (sym e ∙ at));
      rises = s.rises;
      met = met_same (λ key e _. not_compaction key (sym e ∙ at));
    }

  module _ (key : Key) (at : path ≡ store_path ++ key ∷ []) where
    not_store : path ≡ store_path → ⊥
    not_store e = not_in key (sym e ∙ at)

    nothing_noted : path ≡ compaction_path → ⊥
    nothing_noted e = not_compaction key (sym at ∙ e)

    met_below : (k : Key) → Contains keys k → key_cmp k key ≡ Less
    met_below k has =
        let (_, (i, kept)) = (s.met k).0 has in
        first_decides (key_cmp k key) (subst (λ (p : Path). path_cmp (store_path ++ k ∷ []) p ≡ Less) at (after _ kept))

    -- the entry, which is this revision or none
    abbrev entry : EntryView
    entry = record { key = key; item = item }

    last_entry : (x : EntryView) → (path, item) ≡ entry_in store_path x → entry ≡ x
    last_entry x is =
        ap (λ (k : Key). record { key = k; item = item }) (same_last key x.key (sym at ∙ ap (λ (m : Member). m.0) is))
        ∙ ap (λ (m : Member). record { key = x.key; item = m.1 }) is

    kept_with : (o : Option RevisionView) → revision_of entry ≡ o → (e : EntryView) → Contains candidates e → (r : RevisionView)
        → Contains (revisions ++ option_to_list o) r ↔ IsKeptRevision now r
    kept_with o is e some r = (
      λ has. elim (Contains-append_cases revisions (option_to_list o) r has) [
        | inl there ↦ (let (x, before_it, reads) = (s.kept e some r).0 there in (x, Contains-append_left before ((path, item) ∷ []) _ before_it, reads))
        | inr new ↦ (entry, subst (λ (p : Path). Contains now (p, item)) at last, is ∙ only o r new)
      ],
      λ (x, has, reads). elim (Contains-push_cases before (path, item) _ has) [
        | inl there ↦ Contains-append_left revisions (option_to_list o) r ((s.kept e some r).1 (x, there, reads))
        | inr new ↦
            Contains-append_right revisions (option_to_list o) r
            (subst (λ (p : Option RevisionView). Contains (option_to_list p) r) (sym (ap revision_of (last_entry x new) ∙ reads) ∙ is) (contains_head r []))
      ],
    )

    module _ (more : List RevisionView) (keeps : KeepsRevision candidates entry revisions more) where
      kept_more : (e : EntryView) → Contains candidates e → (r : RevisionView) → Contains more r ↔ IsKeptRevision now r
      kept_more e some r =
          subst (λ (rs : List RevisionView). Contains rs r ↔ IsKeptRevision now r) (sym (keeps e some)) (kept_with (revision_of entry) refl e some r)

      more_keys : HasKey candidates key → IsRecoveredStore now candidates under noted more (keys ++ key ∷ [])
      more_keys wanted = record {
        bucket = store_same not_store;
        compaction = compaction_same nothing_noted;
        kept = kept_more;
        rises = rises_push key_cmp keys key s.rises met_below;
        met = λ k. (
          λ has. elim (Contains-push_cases keys key k has) [
            | inl there ↦ (let (want, (i, kept)) = (s.met k).0 there in (want, (i, Contains-append_left before ((path, item) ∷ []) _ kept)))
            | inr is ↦ (
              subst (HasKey candidates) is wanted,
              (item, subst (Contains now) (ap (λ (p : Path). (p, item)) (at ∙ ap (λ (l : Key). store_path ++ l ∷ []) is)) last),
            )
          ],
          λ (want, (i, kept)). elim (Contains-push_cases before (path, item) _ kept) [
            | inl there ↦ Contains-append_left keys (key ∷ []) k ((s.met k).1 (want, (i, there)))
            | inr is ↦ subst (Contains (keys ++ key ∷ [])) (same_last key k (sym at ∙ ap (λ (m : Member). m.0) is)) (Contains-push keys key)
          ],
        );
      }

      pub key_noted : (all : List Key) → all ≡ keys ++ key ∷ [] → HasKey candidates key → IsRecoveredStore now candidates under noted more all
      key_noted all is wanted = subst (λ (l : List Key). IsRecoveredStore now candidates under noted more l) (sym is) (more_keys wanted)

      pub key_not_wanted : (HasKey candidates key → ⊥) → IsRecoveredStore now candidates under noted more keys
      key_not_wanted unwanted = record {
        bucket = store_same not_store;
        compaction = compaction_same nothing_noted;
        kept = kept_more;
        rises = s.rises;
        met = met_same (λ k e want. unwanted (subst (HasKey candidates) (same_last k key (sym e ∙ at)) want));
      }

  pub nothing_there : (path ≡ store_path → ⊥) → ((key : Key) → path ≡ store_path ++ key ∷ [] → ⊥) → (path ≡ compaction_path → ⊥)
      → IsRecoveredStore now candidates under noted revisions keys
  nothing_there no_bucket no_entry no_compaction = search (rules, store_same, compaction_same, kept_same, met_same)

-- ---- of no member

pub no_members_noted : (candidates : List EntryView) → IsRecoveredStore [] candidates None None [] []
no_members_noted candidates = grind (arith, contains_none)

-- ---- the members of a listing, one after another

pub next_member : (listing before left new : List Member) (path given : Path) (item : Item) → Rises member_cmp listing → before ++ left ≡ listing
    → left ≡ (given, item) ∷ new → path ≡ given
    → ComesAfter before (path, item) × ((before ++ (path, item) ∷ []) ++ new ≡ listing)
next_member listing before left new path given item rises all first same =
    let next : left ≡ (path, item) ∷ new = first ∙ ap (λ (p : Path). (p, item) ∷ new) (sym same) in
    let whole : before ++ (path, item) ∷ new ≡ listing = ap (λ (ms : List Member). before ++ ms) (sym next) ∙ all in (
      λ x has. before_it (path, item) member_cmp before new x (subst (Rises member_cmp) (sym whole) rises) has,
      append_assoc before ((path, item) ∷ []) new ∙ whole,
    )

pub no_more : (listing before left : List Member) → before ++ left ≡ listing → left ≡ [] → before ≡ listing
no_more listing before left all none = sym (append-nil before) ∙ ap (λ (ms : List Member). before ++ ms) (sym none) ∙ all

-- ---- how many entries the bucket has

pub entries_are_members : (members : List Member) → length (store_entries members) ≤ length members
entries_are_members members =
    let number = length-filter (λ (m : Member). is_in_store m.0) members in
    let most = count_by-le-length (λ (m : Member). is_in_store m.0) members in
    omega (arith, number, most)
