-- Revisions that an order tells apart have one sorted order.
use Rattle.std.proofs.Common.{◌≡◌, ℕ, List}
use Rattle.std.proofs.{lemmas.Cmp.nat_list_cmp_total, lemmas.Cmp.on_total, lemmas.Cmp.then_total}
use Rattle.std.specs.Cmp.{IsTotalOrder}
use Rattle.std.specs.List.Sorted.{IsPermutation, IsSortedBy}
use Rattle.std.specs.{Ordering.is_lt, Ordering.ordering_then}
use Rattle.std.specs.{declared.cmp.Ordering.Ordering}
use Rattle.bolt_lemmas.proofs.Exports.{differ_in, rises_once, sorted_in, sorted_once, then_apart}
use Rattle.bolt_lemmas.specs.Order.{Rises}
use Rattle.bolt_etcd.specs.{Store.Current.AreCurrent, Check.NameFaults.AreByName}
use Rattle.bolt_etcd.specs.Store.Orders.{name_cmp, stored_key_cmp}
use Rattle.bolt_etcd.specs.{Check.NameFaults.by_name_cmp, Wire.Revisions.RevisionView, Wire.Revisions.name_of}

-- by names in an order of them, and of one name by stored keys
module _ {cmp : List ℕ → List ℕ → Ordering} (total : IsTotalOrder cmp) where
  abbrev named_cmp : RevisionView → RevisionView → Ordering
  named_cmp a b = ordering_then (cmp (name_of a) (name_of b)) (stored_key_cmp a b)

  pub named_total : IsTotalOrder named_cmp
  named_total = then_total (on_total name_of total) (on_total (λ (r : RevisionView). r.stored_key) nat_list_cmp_total)

  -- sorted so, none is there twice
  pub named_rises : (rs sorted : List RevisionView) → Rises stored_key_cmp rs → IsPermutation rs sorted
      → IsSortedBy (λ a b. is_lt (named_cmp a b)) sorted → Rises named_cmp sorted
  named_rises rs sorted rises same up =
      sorted_in named_total stored_key_cmp rs sorted (λ x y has also less. then_apart (cmp (name_of x) (name_of y)) _ less) rises same up

pub by_name_total : IsTotalOrder by_name_cmp
by_name_total = named_total nat_list_cmp_total

-- revisions in the order of their keys have one order by name
pub by_name_once : (rs a b : List RevisionView) → Rises stored_key_cmp rs → AreByName rs a → AreByName rs b → a ≡ b
by_name_once rs a b rises is also =
    sorted_once by_name_total rs a b (differ_in by_name_total stored_key_cmp rs (λ x y has also less. then_apart (name_cmp x y) _ less) rises) is.same
    also.same is.rises also.rises

-- and there is one list of the keys that there are
pub current_once : (rs a b : List RevisionView) → AreCurrent rs a → AreCurrent rs b → a ≡ b
current_once rs a b is also =
    rises_once (on_total name_of nat_list_cmp_total) a b is.rises also.rises (λ r has. (also.exact r).1 ((is.exact r).0 has))
    (λ r has. (is.exact r).1 ((also.exact r).0 has))

-- sorted by name, none is there twice
pub by_name_rises : (rs sorted : List RevisionView) → Rises stored_key_cmp rs → AreByName rs sorted → Rises by_name_cmp sorted
by_name_rises rs sorted rises is = named_rises nat_list_cmp_total rs sorted rises is.same is.rises
