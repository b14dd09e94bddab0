-- A pass goes over entries of which something shows nothing, up to the next one of which it shows something.
use Rattle.std.proofs.Common.{◌≡◌, ◌∙◌, ◌<◌, ◌≤◌, List, Option, Some, None, arith}
use Rattle.std.specs.List.{cons_option, filter_map}
use Rattle.bolt_format.specs.Elements.{LeafElement}
use Rattle.bolt_tree.specs.Entries.{EntryView, entry_view}
use Rattle.bolt_etcd.specs.{Private.Passes.ShowsFirst, Store.RevisionsLeft.ForPass, Store.RevisionsLeft.ahead_of, Store.RevisionsLeft.number_ahead}
use Rattle.bolt_etcd.specs.{Store.RevisionsLeft.pass_checked, Store.RevisionsLeft.pass_start}
use Rattle.bolt_etcd.specs.declared.store.revisions.Revisions.{Revisions}

module _ {X : Type 0} (shown_of : EntryView → Option X) where
  abbrev all_shown : List LeafElement → List X
  all_shown entries = filter_map (λ e. shown_of (entry_view e)) entries

  -- from one pass to another in the same bucket only entries that show nothing were gone over
  pub record GoesBy (old here : Revisions) : Type 0 where
    pub checked : pass_checked here ≡ pass_checked old
    pub start : pass_start here ≡ pass_start old
    pub same : ForPass old (λ entries. all_shown (ahead_of old entries) ≡ all_shown (ahead_of here entries))
    pub behind : number_ahead here ≤ number_ahead old

  module _ (old here next : Revisions) (x : Option EntryView) (goes : GoesBy old here) (checked : pass_checked next ≡ pass_checked here)
      (start : pass_start next ≡ pass_start here)
      (first : ForPass here (λ entries. ShowsFirst (ahead_of here entries) (ahead_of next entries) x)) where
    -- one that shows something is the first of those that do
    pub one_shown : (v : EntryView) (o : Option X) → x ≡ Some v → shown_of v ≡ o
        → ForPass old (λ entries. all_shown (ahead_of old entries) ≡ cons_option o (all_shown (ahead_of next entries)))
    one_shown v o is found entries are = grind arith

    pub goes_by_one : (v : EntryView) → x ≡ Some v → shown_of v ≡ None → number_ahead next < number_ahead here → GoesBy old next
    goes_by_one v is found less = record {
      checked = checked ∙ goes.checked;
      start = start ∙ goes.start;
      same = one_shown v None is found;
      behind = let before = goes.behind in omega (arith, less, before);
    }
