-- The revisions of a store can be sorted by name, and there is one list of the current ones.
use Rattle.std.proofs.Common.{◌≡◌, List, filter}
use Rattle.std.proofs.lemmas.List.MinMax.{ranks_by}
use Rattle.std.proofs.lemmas.Cmp.{nat_list_cmp_total, on_total}
use Rattle.std.specs.{List.dedup, Ordering.is_lt}
use Rattle.bolt_lemmas.proofs.Exports.{sorted_exists}
use Rattle.bolt_lemmas.specs.Order.{Rises}
use Rattle.bolt_etcd.specs.{Store.Current.AreCurrent, Store.Current.AreCurrentBySum, Store.Current.HaveOwnKeys, Store.Current.is_there}
use Rattle.bolt_etcd.specs.{Check.NameFaults.AreByName, Check.NameFaults.by_name_cmp}
use Rattle.bolt_etcd.specs.Store.Orders.{name_cmp, newest_by_sum_cmp, stored_key_cmp, sums_cmp}
use Rattle.bolt_etcd.specs.{Wire.Revisions.RevisionView, Wire.Revisions.name_of}
use Rattle.bolt_etcd.proofs.{Currents.first_are_newest, Currents.own_keys, Currents.sorted_are_current, Currents.view_same_name, NameOrders.sums_tie}
use Rattle.bolt_etcd.proofs.{NameOrders.sums_total, NewestOfNames.newest_ranks}
use Rattle.bolt_etcd.proofs.SortedOnce.{by_name_once, by_name_total, current_once}

-- ---- the revisions of a bucket

pub by_name_exists : (rs : List RevisionView) → (all : List RevisionView) × AreByName rs all
by_name_exists rs =
    let (all, same, up) = sorted_exists (λ (a b : RevisionView). is_lt (by_name_cmp a b)) (ranks_by by_name_total (λ (r : RevisionView). r)) rs in
    (all, record { same = same; rises = up })

pub by_name_is_one : (rs : List RevisionView) → Rises stored_key_cmp rs
    → (all : List RevisionView) × AreByName rs all × ((other : List RevisionView) → AreByName rs other → other ≡ all)
by_name_is_one rs rises = let (all, are) = by_name_exists rs in (all, are, λ other also. by_name_once rs other all rises also are)

-- the newest of each name
pub newest_exists : (rs : List RevisionView) → (found : List RevisionView) × (HaveOwnKeys rs → AreCurrentBySum rs found)
newest_exists rs =
    let (sorted, same, up) =
    sorted_exists (λ (a b : RevisionView). is_lt (newest_by_sum_cmp a b))
    (newest_ranks name_of (λ (r : RevisionView). r.stored_key) sums_cmp sums_total sums_tie) rs in
    (filter is_there (dedup view_same_name sorted), λ own. first_are_newest rs sorted (record { same = same; rises = up }) own)

pub current_is_one : (rs : List RevisionView) → Rises stored_key_cmp rs
    → (current : List RevisionView) × AreCurrent rs current × ((other : List RevisionView) → AreCurrent rs other → other ≡ current)
current_is_one rs rises =
    let (found, are) = newest_exists rs in
    let (current, same, up) =
    sorted_exists (λ (a b : RevisionView). is_lt (name_cmp a b)) (ranks_by (on_total name_of nat_list_cmp_total) (λ (r : RevisionView). r)) found in (
      current,
      sorted_are_current rs rises found current (are (own_keys rs rises)) same up,
      λ other also. current_once rs other current also (sorted_are_current rs rises found current (are (own_keys rs rises)) same up),
    )
