-- A pass goes over entries that aren't revisions, up to the next revision.
use Rattle.std.proofs.Common.{◌≡◌, ◌∙◌, ◌<◌, ◌≤◌, ◌⊎◌, inl, inr, ℕ, false, true, List, length, Option, Some, None, refl, ap, subst, arith}
use Rattle.std.proofs.{Math.Logic.∥∥₁_elim, Props.props}
use Rattle.std.specs.Option.{option_to_list}
use Rattle.bolt_check.specs.{CheckedFiles.bytes_of, CheckedFiles.meta_of, Counts.counted, declared.checked.Checked.Checked}
use Rattle.bolt_format.specs.Elements.{LeafElement}
use Rattle.bolt_tree.proofs.Exports.{counted_more}
use Rattle.bolt_tree.specs.{Buckets.bucket_checked, Buckets.bucket_start, Entries.EntryView, Entries.Start, EntriesLeft.ForEntries}
use Rattle.bolt_tree.specs.{EntriesLeft.ForBucket, FileTrees.file_entries}
use Rattle.bolt_tree.specs.declared.bucket.Bucket.{Bucket}
use Rattle.bolt_etcd.specs.{Wire.UnreadEntries.unread_entry_of, Private.Passes.ShowsFirst, Wire.Revisions.RevisionView, Wire.Revisions.revision_of}
use Rattle.bolt_etcd.specs.{Store.Stores.unread_elements, Store.Stores.revisions}
use Rattle.bolt_etcd.specs.Store.RevisionsLeft.{CountsUnread, ForPass, GivesFirst, OpensOne, ahead_of, begins_with_other, number_ahead}
use Rattle.bolt_etcd.specs.Store.RevisionsLeft.{pass_checked, pass_viewers}
use Rattle.bolt_etcd.specs.Store.RevisionsLeft.{pass_entries, pass_unread, pass_start}
use Rattle.bolt_etcd.specs.declared.store.revisions.Revisions.{Revisions}
use Rattle.bolt_etcd.proofs.Passing.{are_entries, counts_none, counts_one, fewer, gives, passes}

-- from one pass to another in the same bucket no revision was gone over, and the other entries were counted
pub record Goes (old here : Revisions) : Type 0 where
  pub checked : pass_checked here ≡ pass_checked old
  pub start : pass_start here ≡ pass_start old
  pub same : ForPass old (λ entries. revisions (ahead_of old entries) ≡ revisions (ahead_of here entries))
  pub counts : ForPass old (λ entries. CountsUnread (ahead_of old entries) (ahead_of here entries) (pass_unread old) (pass_unread here))
  pub behind : length (ahead_of here (pass_entries old)) ≤ length (ahead_of old (pass_entries old))

pub goes_none : (pass : Revisions) → Goes pass pass
goes_none pass = record { checked = refl; start = refl; same = λ entries are. refl; counts = λ entries are. refl; behind = omega arith }

pub moved_to : (a b : Checked) (s t : Start) (P : List LeafElement → Type 0) → a ≡ b → s ≡ t → ForEntries a s P → ForEntries b t P
moved_to a b s t P file start all = subst (λ (q : Start). ForEntries b q P) start (subst (λ (c : Checked). ForEntries c s P) file all)

-- a pass over all of a bucket: what holds of what it has ahead holds of the bucket's entries
pub over_all : {X : Type 0} (bucket : Bucket) (checked : Checked) (start : Start) (ahead whole : List LeafElement → X) (Q : X → Type 0)
    → checked ≡ bucket_checked bucket → start ≡ bucket_start bucket
    → ForEntries checked start (λ entries. ahead entries ≡ whole entries) → ForEntries checked start (λ entries. Q (ahead entries))
    → ForBucket bucket (λ entries. Q (whole entries))
over_all bucket checked start ahead whole Q file begins all each = λ entries are.
    subst Q (moved_to _ _ _ _ (λ es. ahead es ≡ whole es) file begins all entries are) (moved_to _ _ _ _ (λ es. Q (ahead es)) file begins each entries are)

-- the same pass, after one more of the entries that aren't revisions
abbrev pub with_unread : Revisions → ℕ → Revisions
with_unread pass n = record { cursor = pass.cursor; from = pass.from; unread = n }

module _ (old here next : Revisions) (x : Option EntryView) (goes : Goes old here)
    (first : ForPass here (λ entries. ShowsFirst (ahead_of here entries) (ahead_of next entries) x)) where
  first_here : ForPass old (λ entries. ShowsFirst (ahead_of here entries) (ahead_of next entries) x)
  first_here = moved_to _ _ _ _ (λ entries. ShowsFirst (ahead_of here entries) (ahead_of next entries) x) goes.checked goes.start first

  -- fewer entries are left
  pub falls : (v : EntryView) → x ≡ Some v → length (ahead_of next (pass_entries old)) < length (ahead_of here (pass_entries old))
  unfolding pass_checked pass_start
  falls v is = ∥∥₁_elim (are_entries old.cursor) (hlevel props) (λ are. fewer _ _ v (rw is at (first_here (pass_entries old) are)))

  pub goes_on : (v : EntryView) (n : ℕ) → x ≡ Some v → revision_of v ≡ None → pass_checked next ≡ pass_checked here
      → pass_start next ≡ pass_start here
      → n ≡ counted (pass_unread here) (length (option_to_list (unread_entry_of v))) → Goes old (with_unread next n)
  unfolding pass_viewers
  goes_on v n is other file start more = record {
    checked = file ∙ goes.checked;
    start = start ∙ goes.start;
    same = λ entries are. goes.same entries are ∙ passes _ _ v (rw is at (first_here entries are)) other;
    counts = λ entries are.
        let one = counts_one _ _ v (rw is at (first_here entries are)) in
        ap (λ (k : ℕ). counted k (length (unread_elements (ahead_of next entries)))) more
        ∙ counted_more (pass_unread here) (length (option_to_list (unread_entry_of v))) (length (unread_elements (ahead_of next entries)))
        ∙ ap (counted (pass_unread here)) (omega (arith, one))
        ∙ goes.counts entries are;
    behind = let less = falls v is in let before = goes.behind in omega (arith, less, before);
  }

  pub some_given : (v : EntryView) (r : RevisionView) → x ≡ Some v → revision_of v ≡ Some r
      → ForPass old (λ entries. GivesFirst (ahead_of old entries) (ahead_of next entries) (Some r))
  some_given v r is found = λ entries are. goes.same entries are ∙ gives _ _ v r (rw is at (first_here entries are)) found

  pub some_counts : (v : EntryView) (r : RevisionView) → x ≡ Some v → revision_of v ≡ Some r → pass_unread next ≡ pass_unread here
      → ForPass old (λ entries. CountsUnread (ahead_of old entries) (ahead_of next entries) (pass_unread old) (pass_unread next))
  some_counts v r is found same = grind (arith, counts_none)

  -- and so fewer than at first
  pub number_falls : (v : EntryView) → x ≡ Some v → pass_checked next ≡ pass_checked here → pass_start next ≡ pass_start here
      → number_ahead next < number_ahead old
  unfolding number_ahead
  number_falls v is file start =
      let same : pass_entries next ≡ pass_entries old =
      ap (λ (c : Checked). file_entries (bytes_of c) (meta_of c) (pass_start next)) (file ∙ goes.checked)
      ∙ ap (file_entries (bytes_of (pass_checked old)) (meta_of (pass_checked old))) (start ∙ goes.start) in
      let less = falls v is in
      let before = goes.behind in
      rw same (omega (arith, less, before))

  -- unless the pass has gone over one before, the one that it goes over now is the first
  pub other_first : (here ≡ old) ⊎ ForPass old (λ entries. begins_with_other (ahead_of old entries) ≡ true) → (v : EntryView) → x ≡ Some v
      → revision_of v ≡ None
      → ForPass old (λ entries. begins_with_other (ahead_of old entries) ≡ true)
  other_first (inl same) v is other = grind arith
  other_first (inr before) v is other = before

-- if the first of those ahead is a revision, one step was made
pub opens_first : (old here : Revisions) (n : ℕ) → (here ≡ old) ⊎ ForPass old (λ entries. begins_with_other (ahead_of old entries) ≡ true)
    → OpensOne here n
    → ForPass old (λ entries. begins_with_other (ahead_of old entries) ≡ false → OpensOne old n)
opens_first old here n (inl same) opens = λ entries are first. subst (λ (p : Revisions). OpensOne p n) same opens
opens_first old here n (inr before) opens = λ entries are first. let other = before entries are in absurd (cc)
